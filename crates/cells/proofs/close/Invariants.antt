-- `cells::close` meets its contract: before word w the cells below 64 w are cleared of the mask, and the others stand. Assumes nothing.
use Rattle.cells.proofs.StoreLaws.{Swept}
use mathlib.Core.Path.{◌≡◌}
use Prim.Native.Nat.{◌≤◌}
use lib.ListN.{length}
use Rattle.cells.proofs.close.Given as goal

abbrev pub invariant-loop-w : goal.invariant-loop-w
invariant-loop-w l = (l.w ≤ length l.held) × ((length l.held ≡ length l.initial.held) × Swept l.w l.initial.held l.mask l.held)
