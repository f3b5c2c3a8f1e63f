-- `runs::next` meets its contract: the first cell, then the first that is not. Assumes nothing.
use Rattle.runs.proofs.MinuteRowLaws.{run_found}
use Rattle.runs.proofs.next.Goals as goal

pub returns : goal.returns
returns c =
    let pre = c.requires in
    run_found pre.0 pre.1.1.0 pre.1.1.1 c.next-start.ensures c.next-end.ensures
