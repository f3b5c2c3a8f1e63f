-- `multi_pay::copy_tree` meets its contract: the parts passed are copied, and after four parts the whole is. Assumes nothing.
use Prim.Native.Nat.{◌*◌}
use Rattle.multi_pay.proofs.Copying.{Copying}
use Rattle.multi_pay.proofs.copy_tree.Given as goal

abbrev pub invariant-loop-p : goal.invariant-loop-p
invariant-loop-p l = Copying l.from l.initial.to l.to (512 * l.p)
