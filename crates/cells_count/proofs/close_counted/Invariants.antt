-- `cells::close_counted` meets its contract: before word q the cells below 64 q are cleared of the mask, and the words up to
-- which the cells are counted are not cleared. Assumes nothing.
use Prim.Native.Nat.{◌-◌, ◌≤◌}
use mathlib.Core.Path.{◌≡◌}
use lib.ListN.{length}
use Rattle.cells_count.specs.Hops.{Counted, counted_to}
use Rattle.cells.proofs.StoreLaws.{Swept}
use Rattle.cells_count.proofs.close_counted.Given as goal

abbrev pub invariant-loop-q : goal.invariant-loop-q
invariant-loop-q l = (l.q ≤ length l.held)
    × ((length l.held ≡ length l.initial.held) × (Swept l.q l.initial.held l.mask l.held × (Counted l.held l.counts × (counted_to l.initial.held l.counts ≤ l.q))))

abbrev pub decreases-loop-q : goal.decreases-loop-q
decreases-loop-q l = length l.initial.held - l.q
