-- `single_lead::consider` meets its contract: by the ways through it. Assumes nothing.
use Rattle.single_lead.specs.RowsLaws.{reached_yes, reached_not, reached_far}
use mathlib.Core.Path.{◌∙◌}
use Rattle.single_lead.proofs.consider.Goals as goal
use Rattle.single_lead.proofs.consider.Goals.{else-start-t-via-then-start-t+else-t-end, else-start-t-via-else-start-t}

pub returns-then-t-end : goal.returns-then-t-end
returns-then-t-end c = c.lighter.ensures ∙ reached_yes _ _ _ _ _ c.if-start-t.true c.if-t-end.true

pub returns : goal.returns
returns c = elim c.else-start-t.branch [
  | else-start-t-via-then-start-t+else-t-end w ↦ reached_not _ _ _ _ _ w.if-start-t.true w.if-t-end.false
  | else-start-t-via-else-start-t w ↦ reached_far _ _ _ _ _ w.if-start-t.false
]
