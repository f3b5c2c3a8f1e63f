-- `award_thin_masks::bare_mask` meets its contract: each cell passed has a bidder, and none of the bids asked has the cell. Assumes nothing.
use Rattle.multi_market.specs.Market.{has}
use Rattle.award_thin.specs.BareLaws.{Looking, Asking}
use Rattle.award_thin_masks.proofs.bare_mask.Given as goal

abbrev pub invariant-loop-i : goal.invariant-loop-i
invariant-loop-i l = Asking (has l.masks l.w) l.n l.cells l.x l.i

abbrev pub invariant-cells : goal.invariant-cells
invariant-cells l = Looking (has l.masks l.w) l.n l.cells l.x
