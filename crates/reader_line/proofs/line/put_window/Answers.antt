-- `put_window` meets its contract: the table has the row. Assumes nothing.
use Rattle.std.proofs.Common.{refl}
use Rattle.reader_forms.specs.Tally.{put_window}
use Rattle.reader_line.proofs.line.put_window.Goals as goal

pub returns : goal.returns
unfolding put_window
returns c = refl
