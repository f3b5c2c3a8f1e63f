-- `single_costs::mirror` meets its contract: each bid is seen from the other end. Assumes nothing.
use mathlib.Core.Path.{◌≡◌}
use Prim.Native.Nat.{◌≤◌}
use lib.ListN.{length}
use Rattle.cover.specs.Intervals.Bids.{Mirrored}
use Rattle.single_costs.proofs.mirror.Given as goal

abbrev pub invariant-loop-i : goal.invariant-loop-i
invariant-loop-i l = (l.i ≤ l.n) × (length l.x ≡ length l.initial.x) × (length l.y ≡ length l.initial.y) × Mirrored l.starts l.ends l.x l.y l.cells l.i
