-- `runs::add_windows` meets its contract: the row has the minutes of the windows passed. Assumes nothing.
use Rattle.runs.proofs.MinuteRowLaws.{Adding}
use Rattle.runs.proofs.add_windows.Given as goal

abbrev pub invariant-loop-j : goal.invariant-loop-j
invariant-loop-j l = Adding l.windows l.first l.count l.j l.row
