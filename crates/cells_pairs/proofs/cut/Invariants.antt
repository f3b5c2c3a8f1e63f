-- `cells_pairs::cut` meets its contract: before word q the pairs at up to c are the common cells of the words before q. Assumes nothing.
use Prim.Native.Nat.{◌-◌, ◌≤◌}
use mathlib.Core.Path.{◌≡◌}
use lib.ListN.{length}
use Rattle.cells_pairs.specs.CutLaws.{Cutting}
use Rattle.cells_pairs.proofs.cut.Given as goal

abbrev pub invariant-loop-q : goal.invariant-loop-q
invariant-loop-q l = (l.q ≤ length l.held)
    × ((length l.pairs ≡ length l.initial.pairs) × Cutting l.held l.mask l.initial.pairs l.pairs l.at l.q l.c)

abbrev pub decreases-loop-q : goal.decreases-loop-q
decreases-loop-q l = length l.held - l.q
