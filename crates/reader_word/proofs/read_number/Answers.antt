-- `read_number` meets its contract: it goes by the first byte, as `number_front` does. Assumes nothing.
use Rattle.std.proofs.Common.{arith}
use Rattle.reader_parts.proofs.PlaceLaws.{not_last, number_zero, number_below, number_above, number_later}
use Rattle.reader_word.proofs.read_number.Goals as goal

pub digits-requires : goal.digits-requires
digits-requires c =
    let s = c.args.s.now in
    (not_last s c.args.at c.requires.1 c.requires.0 (λ e. omega (arith, e)), c.requires.1)

pub returns-in-48 : goal.returns-in-48
returns-in-48 c =
    let s = c.args.s.now in
    let at = c.args.at in
    let b = c.in-48.is in
    record {
      is = number_zero s at c.requires.0 b;
      after = omega arith;
      inside = not_last s at c.requires.1 c.requires.0 (λ e. omega (arith, e, b));
    }

pub returns-in-49-to-57 : goal.returns-in-49-to-57
returns-in-49-to-57 c =
    let s = c.args.s.now in
    let at = c.args.at in
    number_later s at c.requires.0 (omega arith) (omega arith) c.digits.result (rw c.from.ensures at c.digits.ensures)

pub returns-in_default : goal.returns-in_default
returns-in_default c =
    number_below _ c.args.at c.requires.0 (omega arith)

pub returns-in_default-2 : goal.returns-in_default-2
returns-in_default-2 c =
    number_above _ c.args.at c.requires.0 (omega arith)
