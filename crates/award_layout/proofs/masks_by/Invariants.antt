-- `award_layout::masks_by` meets its contract: the rows passed have the cells of their bids. Assumes nothing.
use Prim.Native.Nat.{◌≤◌}
use Rattle.award_layout.specs.WordRowLaws.{Writing}
use Rattle.award_layout.proofs.masks_by.Given as goal

abbrev pub invariant-loop-i : goal.invariant-loop-i
invariant-loop-i l = (l.i ≤ l.n) × Writing l.n l.tender l.w l.bids l.windows l.i l.out
