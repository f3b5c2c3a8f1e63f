-- `award_thin_spans::spans_below` meets its contract: the two greatest ends of the bids so far are kept, and the second is the answer as soon
-- as no bid that is left begins at it or before. Assumes nothing.
use Rattle.award_thin_spans.specs.EndsLaws.{Ends}
use Rattle.award_thin_spans.proofs.spans_below.Given as goal

abbrev pub invariant-loop-q : goal.invariant-loop-q
invariant-loop-q l = Ends l.starts l.ends l.order l.cells l.q l.first l.second
