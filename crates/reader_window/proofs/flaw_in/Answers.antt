-- `flaw_in` meets its contract: its branches are the two tests of a window. Assumes nothing.
use Rattle.std.proofs.Common.{sym}
use Rattle.reader_parts.proofs.FlawLaws.{flaw_empty, flaw_sound, flaw_late}
use Rattle.reader_window.proofs.flaw_in.Goals as goal

pub returns-then-z-a : goal.returns-then-z-a
returns-then-z-a c = sym (flaw_empty _ _ c.if-z-a.true)

pub returns-then-z-gt-WEEK : goal.returns-then-z-gt-WEEK
returns-then-z-gt-WEEK c = sym (flaw_late _ _ c.if-z-a.false c.if-z-gt-WEEK.true)

pub returns-else-z-gt-WEEK : goal.returns-else-z-gt-WEEK
returns-else-z-gt-WEEK c = sym (flaw_sound _ _ c.if-z-a.false c.if-z-gt-WEEK.false)
