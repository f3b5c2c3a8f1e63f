-- `multi_keys::play` meets its contract: from node v on each has the lesser of the two below it. Assumes nothing.
use Prim.Native.Nat.{◌≤◌}
use mathlib.Core.Path.{◌≡◌}
use Rattle.multi_keys.specs.Tree.{leaves}
use Rattle.multi_keys.proofs.TreeLaws.{From}
use Rattle.multi_keys.proofs.play.Given as goal

abbrev pub invariant-loop-v : goal.invariant-loop-v
invariant-loop-v l = (l.v ≤ 1024) × (From l.tree l.v × (leaves l.tree ≡ leaves l.initial.tree))
