-- `cells_pairs::all_held` meets its contract: before pair p all cells of the pairs a up to p are held. Assumes nothing.
use Prim.Native.Nat.{◌≤◌}
use Rattle.cells_pairs.specs.PairLaws.{HeldTo}
use Rattle.cells_pairs.proofs.all_held.Given as goal

abbrev pub invariant-loop-p : goal.invariant-loop-p
invariant-loop-p l = (l.a ≤ l.p) × ((l.p ≤ l.z) × HeldTo l.held l.pairs l.a l.p)
