-- `single_lead::count` meets its contract: by the two ways through it. Assumes nothing.
use Rattle.single_lead.specs.LiveLaws.{counted_yes, counted_no}
use Rattle.single_lead.proofs.count.Goals as goal

pub returns-then-t-end : goal.returns-then-t-end
returns-then-t-end c = counted_yes _ _ _ c.if-t-end.true

pub returns : goal.returns
returns c = counted_no _ _ _ c.if-t-end.false
