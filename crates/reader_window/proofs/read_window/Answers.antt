-- `read_window` meets its contract: a space and a bracket, and then the span. Assumes nothing.
use Rattle.std.proofs.Common.{arith}
use Rattle.reader_parts.proofs.PlaceLaws.{not_last, window_unparted, window_unopened, window_unspanned, window_span}
use Rattle.reader_window.proofs.read_window.Goals as goal

pub returns-then-s-at-ne32 : goal.returns-then-s-at-ne32
returns-then-s-at-ne32 c = window_unparted c.args.s.now c.args.at c.requires.0 c.if-s-at-ne32.true

pub returns-then-s-at-ne40 : goal.returns-then-s-at-ne40
returns-then-s-at-ne40 c =
    let b = c.if-s-at-ne32.false in
    let k = not_last c.args.s.now c.args.at c.requires.1 c.requires.0 (λ e. omega (arith, e, b)) in
    window_unopened c.args.s.now c.args.at c.requires.0 b k c.if-s-at-ne40.true

pub returns-in_err-start : goal.returns-in_err-start
returns-in_err-start c =
    let b = c.if-s-at-ne32.false in
    let k = not_last c.args.s.now c.args.at c.requires.1 c.requires.0 (λ e. omega (arith, e, b)) in
    rw c.from_residual.ensures
    (window_unspanned c.args.s.now c.args.at c.requires.0 b k c.if-s-at-ne40.false c.in_err-start.ensures)

pub returns : goal.returns
returns c =
    let b = c.if-s-at-ne32.false in
    let k = not_last c.args.s.now c.args.at c.requires.1 c.requires.0 (λ e. omega (arith, e, b)) in
    window_span c.args.s.now c.args.at c.requires.0 b k c.if-s-at-ne40.false _ _ c.in_ok-start.ensures
