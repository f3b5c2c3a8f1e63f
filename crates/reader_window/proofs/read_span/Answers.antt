-- `read_span` meets its contract: it follows `span_front` from place to place. Assumes nothing.
use Rattle.reader_parts.proofs.PlaceLaws.{span_first, span_unparted, span_second, span_unclosed, span_whole}
use Rattle.reader_window.proofs.read_span.Goals as goal

pub returns-in_err-start : goal.returns-in_err-start
returns-in_err-start c = rw c.from_residual.ensures (span_first c.args.s.now c.args.at c.in_err-start.ensures)

pub returns-then-s-start-ne32 : goal.returns-then-s-start-ne32
returns-then-s-start-ne32 c =
    span_unparted c.args.s.now c.args.at _ _ c.in_ok-start.ensures c.if-s-start-ne32.true

pub returns-in_err-end : goal.returns-in_err-end
returns-in_err-end c =
    rw c.from_residual-in_err-end.ensures
    (span_second c.args.s.now c.args.at _ _ c.in_ok-start.ensures c.if-s-start-ne32.false c.in_err-end.ensures)

pub returns-then-s-end-ne41 : goal.returns-then-s-end-ne41
returns-then-s-end-ne41 c =
    span_unclosed c.args.s.now c.args.at _ _ c.in_ok-start.ensures c.if-s-start-ne32.false _ _ c.in_ok-end.ensures c.if-s-end-ne41.true

pub returns : goal.returns
returns c =
    span_whole c.args.s.now c.args.at _ _ c.in_ok-start.ensures c.if-s-start-ne32.false _ _ c.in_ok-end.ensures c.requires.1
    c.if-s-end-ne41.false
