-- `multi_charts::chart` meets its contract: before bid i the bids below i have their hops. Assumes nothing.
use Rattle.multi_charts.proofs.Charting.{charts_on}
use Rattle.multi_charts.proofs.chart.Goals as goal

pub loop-i-preserved : goal.loop-i-preserved
loop-i-preserved c =
    charts_on c.requires.0 c.loop-i.invariant c.loop-i-test.true c.chart_row.auto.hop
    c.chart_row.ensures
