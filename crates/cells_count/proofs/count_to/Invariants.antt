-- `cells::count_to` meets its contract: up to word q the sums are right, and the last of them is `sum`. Assumes nothing.
use Prim.Native.Nat.{◌≤◌}
use Rattle.cells_count.specs.CountsLaws.{Counting}
use Rattle.cells_count.proofs.count_to.Given as goal

abbrev pub invariant-loop-q : goal.invariant-loop-q
invariant-loop-q l = (l.q ≤ l.e) × Counting l.words l.counts l.q l.sum
