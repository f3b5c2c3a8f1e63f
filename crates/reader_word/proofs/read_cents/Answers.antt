-- `read_cents` meets its contract: it follows `cents_front` from the point to the second digit. Assumes nothing.
use Rattle.std.proofs.Common.{arith}
use Rattle.reader_parts.proofs.PricePlaceLaws.{cents_above, cents_first, first_small, cents_second}
use Rattle.reader_word.proofs.read_cents.Goals as goal

pub returns-then-whole-ge10000000 : goal.returns-then-whole-ge10000000
returns-then-whole-ge10000000 c = cents_above c.args.whole _ (omega (arith, c.if-whole-ge10000000.true))

pub returns-in_err-tenths : goal.returns-in_err-tenths
returns-in_err-tenths c =
    rw c.from_residual.ensures (cents_first c.args.s.now c.args.whole c.args.at c.requires.0 c.if-whole-ge10000000.false c.requires.2
    c.in_err-tenths.ensures)

pub read_digit-requires-2 : goal.read_digit-requires-2
read_digit-requires-2 c =
    let x = c.in_ok-tenths.ensures in
    let small = first_small c.args.s.now c.args.whole c.args.at c.requires.0 c.if-whole-ge10000000.false c.requires.2 _ _ x in
    (x.inside, c.requires.1, omega (arith, small, c.if-whole-ge10000000.false))

pub returns : goal.returns
returns c =
    let x = c.in_ok-tenths.ensures in
    cents_second c.args.s.now c.args.whole c.args.at c.requires.0 c.if-whole-ge10000000.false c.requires.2 _ _ x
    c.read_digit-2.result c.read_digit-2.ensures
