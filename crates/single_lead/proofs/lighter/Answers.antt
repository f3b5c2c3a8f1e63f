-- `single_lead::lighter` meets its contract: by the ways through it. Assumes nothing.
use mathlib.Core.Path.{sym, ◌∙◌}
use Rattle.single_lead.specs.RowsLaws.{prefer_less, prefer_more, prefer_first, prefer_last}
use Rattle.single_lead.proofs.lighter.Goals as goal
use Rattle.single_lead.proofs.lighter.Goals.{else-x-y-2-via-then-x-y-2+else-stands, else-x-y-2-via-else-x-y-2}

pub returns-then-x-y : goal.returns-then-x-y
returns-then-x-y c = prefer_less _ _ _ _ _ c.if-x-y.true

pub returns-then-stands : goal.returns-then-stands
returns-then-stands c = prefer_first _ _ _ _ _ c.if-x-y-2.true (sym c.stands.ensures ∙ c.if-stands.true)

pub returns : goal.returns
returns c = elim c.else-x-y-2.branch [
  | else-x-y-2-via-then-x-y-2+else-stands w ↦ prefer_last _ _ _ _ _ w.if-x-y-2.true (sym w.stands.ensures ∙ w.if-stands.false)
  | else-x-y-2-via-else-x-y-2 w ↦ prefer_more _ _ _ _ _ c.if-x-y.false w.if-x-y-2.false
]
