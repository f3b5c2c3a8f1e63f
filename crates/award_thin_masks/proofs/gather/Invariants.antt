-- `award_thin_masks::gather` meets its contract: the words passed are gathered. Assumes nothing.
use mathlib.Core.Path.{◌≡◌}
use Prim.Native.Nat.{◌≤◌}
use lib.ListN.{length}
use Rattle.award_thin.specs.Thin.{Gathered}
use Rattle.award_thin_masks.proofs.gather.Given as goal

abbrev pub invariant-loop-q : goal.invariant-loop-q
invariant-loop-q l = (l.q ≤ l.w) × ((length l.enough ≡ length l.initial.enough) × Gathered l.masks l.w l.n l.wanted l.enough l.q)
