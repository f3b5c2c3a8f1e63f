-- `award_thin_masks::mask_has` meets its contract: the bid's words are a part of all the words. Assumes nothing.
use mathlib.Core.Path.{ap, ◌∙◌}
use lib.Dec.{eqb}
use Rattle.cells.specs.Cells.{cell}
use Rattle.multi_market.specs.Market.{has}
use Rattle.multi_market.proofs.WordRowLaws.{part_row}
use Rattle.award_thin_masks.proofs.mask_has.Goals as goal

pub returns : goal.returns
unfolding has
returns c =
    let args = c.args in
    c.holds.ensures ∙ ap (λ r. eqb (cell r args.x) 1) (part_row args.masks.now args.w args.i)
