-- `multi_pay::copy_tree` meets its contract: the parts passed are copied, and after four parts the whole is. Assumes nothing.
use Rattle.std.proofs.Common.{◌≡◌, ◌+◌, ◌*◌, arith}
use Rattle.multi_pay.proofs.Copying.{copy_goes}
use Rattle.multi_pay.proofs.copy_tree.Goals as goal

pub loop-p-preserved : goal.loop-p-preserved
loop-p-preserved c =
    let e : 512 * (c.loop-p.p + 1) ≡ 512 * c.loop-p.p + 512 = omega arith in
    rw e (copy_goes c.requires.0 c.requires.1 (omega arith) c.loop-p.invariant c.copy_from_slice.ensures.after)
