-- `single_run::entry` meets its contract: by the two ways through it. Assumes nothing.
use mathlib.Core.Path.{◌∙◌}
use Rattle.single_run.specs.RunLaws.{entry_none, entry_some}
use Rattle.single_run.proofs.entry.Goals as goal

pub returns-then-i-skip : goal.returns-then-i-skip
returns-then-i-skip c = entry_none _ _ _ _ c.if-i-skip.true

pub returns : goal.returns
returns c = c.add_price.ensures ∙ entry_some _ _ _ _ c.if-i-skip.false
