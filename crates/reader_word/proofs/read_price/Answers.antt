-- `read_price` meets its contract: a number and, where a point follows, its cents, as `price_front` has it. Assumes nothing.
use Rattle.reader_parts.proofs.PricePlaceLaws.{price_first, price_whole, price_cents}
use Rattle.reader_word.proofs.read_price.Goals as goal

pub returns-in_err-whole : goal.returns-in_err-whole
returns-in_err-whole c =
    rw c.from_residual.ensures (price_first c.args.s.now c.args.at c.in_err-whole.ensures)

pub returns-then-s-whole-eq46 : goal.returns-then-s-whole-eq46
returns-then-s-whole-eq46 c =
    let x = c.in_ok-whole.ensures in
    price_cents c.args.s.now c.args.at _ _ x c.if-s-whole-eq46.true c.read_cents.result c.read_cents.ensures

pub returns-else-s-whole-eq46 : goal.returns-else-s-whole-eq46
returns-else-s-whole-eq46 c =
    let x = c.in_ok-whole.ensures in
    price_whole c.args.s.now c.args.at _ _ x c.if-s-whole-eq46.false
