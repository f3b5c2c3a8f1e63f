-- `cells::count_none` meets its contract: no cell is before the first word. Assumes nothing.
use Rattle.cells_count.specs.CountsLaws.{counted_none}
use Rattle.cells_count.proofs.count_none.Goals as goal

pub returns : goal.returns
returns c = counted_none c.args.words.now c.args.counts.now c.requires.0
