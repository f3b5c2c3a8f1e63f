-- `multi_keys::put` meets its contract: the nodes above the leaf are played one by one, and no other looks at what has changed.
-- Assumes nothing.
use mathlib.Core.Path.{◌≡◌}
use Rattle.multi_keys.specs.Tree.{leaves}
use Rattle.multi_keys.proofs.TreeLaws.{Putting}
use Rattle.multi_keys.proofs.put.Given as goal

abbrev pub invariant-loop : goal.invariant-loop
invariant-loop l = Putting l.tree l.v l.x l.counter × (leaves l.tree ≡ leaves l.initial.tree)
