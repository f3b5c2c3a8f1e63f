-- `multi_limit::limit_in` meets its contract: each step keeps the maximum that the run says of the bid, until the run is over or the bid
-- has no open cell; with each the rounds left and the open cells are fewer. Assumes nothing.
use mathlib.Core.Path.{◌∙◌}
use native.Mathlib.Omega.{arith}
use Rattle.multi_limit.specs.StepLaws.{limit_goes, limit_ends}
use Rattle.multi_limit.proofs.limit_in.Goals as goal

pub loop-walk-preserved : goal.loop-walk-preserved
loop-walk-preserved c =
    let I = c.loop-walk.invariant in let L = I.1.0 in let d = c.in-Some.ensures in (
      d.0.1 ∙ I.0,
      (
        limit_goes L (rw (L.size, I.0) at d.0.0) c.step.auto.alt,
        (d.1.1.0, (d.1.0, (c.step.auto.mark ∙ I.1.1.1.1.0, rw L.size at d.1.1.1))),
      ),
    )

pub returns : goal.returns
returns c = let I = c.loop-walk.invariant in (limit_ends I.1.0 (omega (arith, c.loop-walk-test.false)), I.1.1.0)
