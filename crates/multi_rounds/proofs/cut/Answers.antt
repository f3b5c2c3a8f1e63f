-- `multi_rounds::cut` meets its contract: the bid's words are a part of all the words. Assumes nothing.
use mathlib.Core.Path.{sym}
use native.Mathlib.Omega.{arith}
use lib.ListN.{length}
use Rattle.multi_market.proofs.WordRowLaws.{part_row, row_length}
use Rattle.multi_market.proofs.OpensLaws.{reach_open}
use Rattle.multi_rounds.proofs.cut.Goals as goal

pub cut-requires : goal.cut-requires
cut-requires c =
    let P = c.requires in let A = c.args in let held = A.held.now in let w = length held in
    rw (part_row A.masks.now w A.i, part_row A.hop.now w A.i, ← reach_open held A.masks.now w A.i)
    ((sym (row_length A.masks.now w A.i P.1.0), (P.0, (P.1.1.1.0, (omega (arith, P.1.1.1.1.0), omega (arith, P.1.1.1.1.1))))))

pub returns : goal.returns
returns c =
    let A = c.args in rw (part_row A.masks.now (length A.held.now) A.i) at c.cut.ensures
