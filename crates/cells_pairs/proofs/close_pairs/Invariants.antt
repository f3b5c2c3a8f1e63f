-- `cells_pairs::close_pairs` meets its contract: before pair p the cells of the pairs a up to p are cleared, and no sum is counted.
-- Assumes nothing.
use Prim.Native.Nat.{◌-◌, ◌≤◌}
use mathlib.Core.Path.{◌≡◌}
use lib.ListN.{length}
use Rattle.cells_count.specs.Hops.{counted_to, Counted}
use Rattle.cells_pairs.specs.Pairs.{in_pairs, Shut}
use Rattle.cells_pairs.proofs.close_pairs.Given as goal

abbrev pub invariant-loop-p : goal.invariant-loop-p
invariant-loop-p l = (l.a ≤ l.p) × ((l.p ≤ l.z) × ((length l.held ≡ length l.initial.held)
    × (Shut l.initial.held (in_pairs l.pairs l.a (l.p - l.a)) l.held × (Counted l.held l.counts × (counted_to l.initial.held l.counts ≡ 0)))))
