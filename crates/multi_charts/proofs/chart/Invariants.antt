-- `multi_charts::chart` meets its contract: before bid i the bids below i have their hops. Assumes nothing.
use Rattle.multi_charts.proofs.Charting.{Charts}
use Rattle.multi_charts.proofs.chart.Given as goal

abbrev pub invariant-loop-i : goal.invariant-loop-i
invariant-loop-i l = Charts l.prices l.masks l.w l.hop l.i
