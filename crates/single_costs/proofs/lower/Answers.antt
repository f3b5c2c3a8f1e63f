-- `single_costs::lower` meets its contract: by the ways through it. Assumes nothing.
use Rattle.single_costs.specs.AcrossLaws.{less_yes, less_more, less_not, less_far}
use Rattle.single_costs.proofs.lower.Goals as goal
use Rattle.single_costs.proofs.lower.Goals.{else-start-t-via-then-start-t+then-t-end+else-x-r}
use Rattle.single_costs.proofs.lower.Goals.{else-start-t-via-then-start-t+else-t-end, else-start-t-via-else-start-t}

pub returns-then-x-r : goal.returns-then-x-r
returns-then-x-r c = less_yes _ _ _ _ _ c.if-start-t.true c.if-t-end.true c.if-x-r.true

pub returns : goal.returns
returns c = elim c.else-start-t.branch [
  | else-start-t-via-then-start-t+then-t-end+else-x-r w ↦ less_more _ _ _ _ _ w.if-start-t.true w.if-t-end.true w.if-x-r.false
  | else-start-t-via-then-start-t+else-t-end w ↦ less_not _ _ _ _ _ w.if-start-t.true w.if-t-end.false
  | else-start-t-via-else-start-t w ↦ less_far _ _ _ _ _ w.if-start-t.false
]
