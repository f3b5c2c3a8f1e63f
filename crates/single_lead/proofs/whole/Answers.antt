-- `single_lead::whole` meets its contract: by the two ways through it. Assumes nothing.
use Rattle.single_lead.specs.CostsLaws.{value_none, value_some}
use Rattle.single_lead.proofs.whole.Goals as goal

pub returns-then-cost-eq-NONE : goal.returns-then-cost-eq-NONE
returns-then-cost-eq-NONE c = value_none _ c.if-cost-eq-NONE.true

pub returns : goal.returns
returns c = value_some _ c.if-cost-eq-NONE.false
