-- `cells::close` meets its contract: before word w the cells below 64 w are cleared of the mask, and the others stand. Assumes nothing.
use Rattle.cells.proofs.StoreLaws.{swept_more, swept_all}
use native.Mathlib.Omega.{arith}
use lib.ListN.{length-set}
use Rattle.cells.proofs.close.Goals as goal

pub loop-w-preserved : goal.loop-w-preserved
loop-w-preserved c =
    let args = c.args in (
      simp length-set (omega arith),
      (
        simp length-set c.loop-w.invariant.1.0,
        swept_more c.loop-w.w args.held.now args.mask.now
            c.loop-w.held c.loop-w.invariant.1.1 (omega arith)
            (c.type_inv.mask c.loop-w.w).fits,
      ),
    )

pub returns : goal.returns
returns c =
    let args = c.args in
    swept_all c.loop-w.w args.held.now args.mask.now c.loop-w.held c.loop-w.invariant.1.1 (omega arith)
    (omega arith)
