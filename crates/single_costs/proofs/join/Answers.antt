-- `single_costs::join` meets its contract: by the ways through it. Assumes nothing.
use mathlib.Core.Path.{◌∙◌}
use Rattle.single_costs.specs.AcrossLaws.{joined_left, joined_right, joined_both}
use Rattle.single_costs.proofs.join.Goals as goal

pub returns-then-x-eq-NONE : goal.returns-then-x-eq-NONE
returns-then-x-eq-NONE c = c.if-x-eq-NONE.true ∙ joined_left _ _ _ c.if-x-eq-NONE.true

pub returns-then-y-eq-NONE : goal.returns-then-y-eq-NONE
returns-then-y-eq-NONE c = c.if-y-eq-NONE.true ∙ joined_right _ _ _ c.if-x-eq-NONE.false c.if-y-eq-NONE.true

pub returns : goal.returns
returns c = joined_both _ _ _ c.if-x-eq-NONE.false c.if-y-eq-NONE.false
