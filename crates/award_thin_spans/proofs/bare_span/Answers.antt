-- `award_thin_spans::bare_span` meets its contract: each cell passed has a bidder, and none of the bids asked has the cell. Assumes nothing.
use mathlib.Core.Path.{sym, ◌∙◌}
use Rattle.award_thin.specs.BareLaws.{asks_none, looks_on, asks_on, bare_found}
use Rattle.award_thin_spans.proofs.bare_span.Goals as goal

pub loop-i-init : goal.loop-i-init
loop-i-init c = asks_none _ _ _ _ c.cells.invariant c.cells-test.true

pub cells-preserved : goal.cells-preserved
cells-preserved c = looks_on c.loop-i.invariant c.loop-i-test.true
    (sym c.span_has.ensures ∙ c.if-span_has.true)

pub loop-i-preserved : goal.loop-i-preserved
loop-i-preserved c = asks_on c.loop-i.invariant c.loop-i-test.true
    (sym c.span_has.ensures ∙ c.if-span_has.false)

pub returns-in-cells : goal.returns-in-cells
returns-in-cells c = (c.loop-i.invariant.here, bare_found c.loop-i.invariant c.loop-i-test.false)
