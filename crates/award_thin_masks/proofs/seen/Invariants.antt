-- `award_thin_masks::seen` meets its contract: `one` and `two` have the cells that the bids passed have once and twice, and more bids
-- only add to them. Assumes nothing.
use Prim.Native.Nat.{◌≤◌}
use Rattle.award_thin_masks.specs.MasksLaws.{Seeing}
use Rattle.award_thin_masks.proofs.seen.Given as goal

abbrev pub invariant-loop-i : goal.invariant-loop-i
invariant-loop-i l = (l.i ≤ l.n) × Seeing l.masks l.w l.q l.i l.one l.two
