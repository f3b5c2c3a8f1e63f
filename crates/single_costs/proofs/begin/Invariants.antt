-- `single_costs::begin` meets its contract: the list is thinned out and copied. Assumes nothing.
use mathlib.Core.Path.{◌≡◌}
use Prim.Native.Nat.{◌≤◌}
use lib.ListN.{length}
use Rattle.single_costs.specs.Across.{BegunAt}
use Rattle.single_costs.proofs.begin.Given as goal

abbrev pub invariant-loop-j : goal.invariant-loop-j
invariant-loop-j l = (l.j ≤ l.m) × (length l.live ≡ length l.initial.live) × (length l.xs ≡ length l.initial.xs)
    × (length l.costs ≡ length l.initial.costs) × BegunAt l.ends l.initial.live l.live l.before l.xs l.costs l.t l.j l.x
