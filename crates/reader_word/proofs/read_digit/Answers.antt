-- `read_digit` meets its contract: it goes by the byte, as `digit_front` does. Assumes nothing.
use Rattle.std.proofs.Common.{arith}
use Rattle.reader_parts.proofs.PricePlaceLaws.{digit_at, digit_below, digit_above}
use Rattle.reader_word.proofs.read_digit.Goals as goal

pub returns-in-48-to-57 : goal.returns-in-48-to-57
returns-in-48-to-57 c =
    rw c.from.ensures (digit_at c.args.s.now c.args.v c.args.at c.requires.0 c.requires.1
    (omega arith) (omega arith))

pub returns-in_default : goal.returns-in_default
returns-in_default c =
    digit_below _ c.args.v c.args.at c.requires.0 (omega arith)

pub returns-in_default-2 : goal.returns-in_default-2
returns-in_default-2 c =
    digit_above _ c.args.v c.args.at c.requires.0 (omega arith)
