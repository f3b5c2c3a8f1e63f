-- `multi_rounds::shut` meets its contract: the bid's words are a part of all the words. Assumes nothing.
use mathlib.Core.Path.{sym}
use lib.ListN.{length}
use Rattle.multi_market.proofs.WordRowLaws.{part_row, row_length}
use Rattle.multi_rounds.specs.ShutLaws.{shut_row}
use Rattle.multi_rounds.proofs.shut.Goals as goal

pub close_counted-requires : goal.close_counted-requires
close_counted-requires c =
    let P = c.requires in let A = c.args in let w = length A.held.now in
    rw (part_row A.masks.now w A.i, part_row A.hop.now w A.i)
    ((sym (row_length A.masks.now w A.i P.1.0), (P.0, (P.1.1.1.0, P.1.1.1.1))))

pub returns : goal.returns
returns c =
    let A = c.args in let u = c.close_counted.ensures in let w = length A.held.now in
    (shut_row A.held.now _ A.masks.now w A.i (rw (part_row A.masks.now w A.i) at u.0), u.1)
