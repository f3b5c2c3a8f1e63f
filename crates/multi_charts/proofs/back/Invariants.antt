-- `multi_charts::back` meets its contract: the words from r on are m and have their hops. Assumes nothing.
use Rattle.multi_charts.proofs.Charting.{Backing}
use Rattle.multi_charts.proofs.back.Given as goal

abbrev pub invariant-loop-r : goal.invariant-loop-r
invariant-loop-r l = Backing l.masks l.a l.q l.m l.to l.initial.hop l.hop l.r

abbrev pub decreases-loop-r : goal.decreases-loop-r
decreases-loop-r l = l.r
