-- `award_plain::cost` meets its contract: each turn adds what one entry asks. Assumes nothing.
use native.Mathlib.Omega.{arith}
use Rattle.award_rule.proofs.SumsLaws.{added_none, added_more, cost_all}
use Rattle.award_plain.proofs.cost.Goals as goal

pub loop-i-init : goal.loop-i-init
loop-i-init c = added_none _ _

pub loop-i-preserved : goal.loop-i-preserved
loop-i-preserved c =
    added_more _ c.loop-i.invariant c.loop-i-test.true c.only-s.ensures.0 (omega
    (arith, c.only-s.ensures.1, c.requires.1.1 c.loop-i.i c.loop-i-test.true))

pub returns : goal.returns
returns c = cost_all _ _ c.loop-i.invariant c.loop-i-test.false
