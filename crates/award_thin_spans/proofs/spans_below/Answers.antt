-- `award_thin_spans::spans_below` meets its contract: the two greatest ends of the bids so far are kept, and the second is the answer as soon
-- as no bid that is left begins at it or before. Assumes nothing.
use native.Mathlib.Omega.{arith}
use Rattle.award_thin_spans.specs.EndsLaws.{ends_begin, ends_more, ends_found}
use Rattle.award_thin_spans.proofs.spans_below.Goals as goal

pub loop-q-init : goal.loop-q-init
loop-q-init c = ends_begin _ _ _ _

pub returns-then-second-starts : goal.returns-then-second-starts
returns-then-second-starts c =
    ends_found c.loop-q.invariant c.requires.0 c.requires.1.1
    (λ r l m. omega (arith, c.if-second-starts.true, c.requires.1.1.sorted c.loop-q.q r l m))

pub loop-q-preserved : goal.loop-q-preserved
loop-q-preserved c =
    rw (c.max-first.ensures, c.max-second.ensures, c.min.ensures)
    (ends_more c.loop-q.invariant c.requires.0 c.loop-q-test.true c.if-second-starts.false)

pub returns : goal.returns
returns c =
    ends_found c.loop-q.invariant c.requires.0 c.requires.1.1 (λ r l m. absurd (omega (arith, c.loop-q-test.false)))
