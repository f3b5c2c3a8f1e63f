-- `cells::next_from` meets its contract: before word q no cell of a from the first word on is outside b. Assumes nothing.
use Prim.Native.Nat.{ℕ, ◌*◌, ◌≤◌, ◌<◌}
use mathlib.Core.Path.{◌≡◌}
use lib.ListN.{length}
use Rattle.cells.specs.Cells.{cell}
use Rattle.cells.proofs.next_from.Given as goal

abbrev pub invariant-loop-q : goal.invariant-loop-q
invariant-loop-q l = (l.first ≤ l.q) × ((l.q ≤ length l.a) × ((x : ℕ) → 64 * l.first ≤ x → x < 64 * l.q → cell l.a x ≡ 1 → cell l.b x ≡ 1))
