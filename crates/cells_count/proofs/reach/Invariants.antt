-- `cells::reach` meets its contract: before word q the sum counts the cells below 64 q that are set in both. Assumes nothing.
use Prim.Native.Nat.{◌-◌, ◌*◌, ◌≤◌}
use mathlib.Core.Path.{◌≡◌}
use lib.ListN.{length}
use Rattle.cells.specs.Cells.{total, both}
use Rattle.cells_count.specs.Hops.{Counted}
use Rattle.cells_count.proofs.reach.Given as goal

abbrev pub invariant-loop-q : goal.invariant-loop-q
invariant-loop-q l = (l.q ≤ length l.held) × ((l.sum ≡ total (both l.held l.mask) (64 * l.q)) × Counted l.held l.counts)

abbrev pub decreases-loop-q : goal.decreases-loop-q
decreases-loop-q l = length l.held - l.q
