-- `multi::pick` meets its contract: before leaf i the leaves below i are picked, and the tree is played from them. Assumes nothing.
use Rattle.multi.specs.PickedLaws.{Picking}
use Rattle.multi.proofs.pick.Given as goal

abbrev pub invariant-loop-i : goal.invariant-loop-i
invariant-loop-i l = Picking l.ever l.tree l.list l.i
