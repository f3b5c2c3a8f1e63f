-- `multi_market::overlap` meets its contract: the bid's words are a part of all the words. Assumes nothing.
use mathlib.Core.Path.{sym, ap, ◌∙◌}
use native.Mathlib.Omega.{arith}
use Rattle.cells.specs.Cells.{common}
use lib.ListN.{length}
use Rattle.multi_market.specs.Market.{word_row}
use Rattle.multi_market.proofs.WordRowLaws.{part_row, row_length}
use Rattle.multi_market.proofs.OpensLaws.{reach_open}
use Rattle.multi_market.proofs.BeginLaws.{common_few}
use Rattle.multi_market.proofs.overlap.Goals as goal

pub reach-requires : goal.reach-requires
reach-requires c =
    let P = c.requires in let A = c.args in let w = length A.held.now in
    rw (part_row A.masks.now w A.i, part_row A.hop.now w A.i)
    ((sym (row_length A.masks.now w A.i P.1.0), (P.0, (P.1.1.1.0, P.1.1.1.1))))

pub returns : goal.returns
returns c =
    let A = c.args in
    let P = c.requires in
    let held = A.held.now in let w = length held in let row = word_row A.masks.now w A.i in
    let r = c.reach.ensures in
    let e = r.0 ∙ ap (common held) (part_row A.masks.now w A.i) in (
      (e ∙ sym (reach_open held A.masks.now w A.i), omega (arith, e, common_few held row P.0)),
      r.1,
    )
