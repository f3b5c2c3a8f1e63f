-- `multi_charts::chart_row` meets its contract: from word q on the hops are set. Assumes nothing.
use Prim.Native.Nat.{◌≤◌}
use Rattle.multi_charts.proofs.Charting.{Charting}
use Rattle.multi_charts.proofs.chart_row.Given as goal

abbrev pub invariant-loop-q : goal.invariant-loop-q
invariant-loop-q l = Charting l.masks l.w l.i l.initial.hop l.hop l.q l.gap × (l.q ≤ l.w)

abbrev pub decreases-loop-q : goal.decreases-loop-q
decreases-loop-q l = l.q
