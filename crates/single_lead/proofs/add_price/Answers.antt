-- `single_lead::add_price` meets its contract: by the two ways through it. Assumes nothing.
use Rattle.single_lead.specs.CostsLaws.{price_none, price_some}
use Rattle.single_lead.proofs.add_price.Goals as goal

pub returns-then-cost-eq-NONE : goal.returns-then-cost-eq-NONE
returns-then-cost-eq-NONE c = price_none _ _ c.if-cost-eq-NONE.true

pub returns : goal.returns
returns c = price_some _ _ c.if-cost-eq-NONE.false
