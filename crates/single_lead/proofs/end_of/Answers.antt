-- `single_lead::end_of` meets its contract: by the two ways through it. Assumes nothing.
use mathlib.Core.Path.{sym}
use Rattle.single_lead.specs.LeadLaws.{end_none, end_some}
use Rattle.single_lead.proofs.end_of.Goals as goal

pub returns-then-r-n : goal.returns-then-r-n
returns-then-r-n c = sym (end_none _ _ _ c.if-r-n.true)

pub returns : goal.returns
returns c = sym (end_some _ _ _ c.if-r-n.false)
