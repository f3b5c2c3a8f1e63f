-- `award_plain::paid` meets its contract: each turn adds one payment. Assumes nothing.
use Rattle.award_rule.proofs.SumsLaws.{added_none, added_more, paid_all}
use mathlib.Core.Path.{refl}
use Rattle.award_plain.proofs.paid.Goals as goal

pub loop-i-init : goal.loop-i-init
loop-i-init c = added_none _ _

pub loop-i-preserved : goal.loop-i-preserved
loop-i-preserved c = added_more _ c.loop-i.invariant c.loop-i-test.true refl (c.requires.1.1
    c.loop-i.i c.loop-i-test.true)

pub returns : goal.returns
returns c = paid_all _ c.loop-i.invariant c.loop-i-test.false
