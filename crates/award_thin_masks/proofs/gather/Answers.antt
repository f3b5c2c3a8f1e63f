-- `award_thin_masks::gather` meets its contract: the words passed are gathered. Assumes nothing.
use native.Mathlib.Omega.{arith}
use lib.ListN.{length-set}
use Rattle.award_thin_masks.specs.MasksLaws.{gathered_more}
use Rattle.award_thin_masks.proofs.gather.Goals as goal

pub loop-q-preserved : goal.loop-q-preserved
loop-q-preserved c =
    let args = c.args in (
      omega arith,
      (
        simp length-set c.loop-q.invariant.1.0,
        gathered_more args.masks.now args.w args.n args.wanted.now c.loop-q.enough
            c.loop-q.q c.seen.result (omega arith) c.loop-q.invariant.1.1
            c.seen.ensures,
      ),
    )
