-- `runs::minutes` meets its contract: a row that is cleared is empty, and the table of masks is lent. Assumes nothing.
use Rattle.std.proofs.Common.{◌∙◌}
use Rattle.runs.proofs.MinuteRowLaws.{cleared_empty}
use Rattle.runs.proofs.minutes.Goals as goal

pub add_windows-requires : goal.add_windows-requires
add_windows-requires c = (c.requires.0, (c.requires.1.0, cleared_empty _ (c.clear.auto.xs ∙ c.requires.1.1) c.clear.ensures))
