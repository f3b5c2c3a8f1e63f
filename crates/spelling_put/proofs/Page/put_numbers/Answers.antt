-- Two numbers and the bytes that end a line. Assumes nothing.
use Rattle.std.proofs.Common.{◌∙◌, arith}
use Rattle.spelling.proofs.LineLaws.{decimal_short}
use Rattle.spelling.proofs.SpellingLaws.{numbers_written}
use Rattle.spelling_put.proofs.Page.put_numbers.Goals as goal

pub put_number-requires-2 : goal.put_number-requires-2
put_number-requires-2 c =
    let first = c.put_number.ensures.1 in omega (arith, decimal_short c.args.a, c.requires, first.next, first.size)

pub put_all-requires : goal.put_all-requires
put_all-requires c =
    let first = c.put_number.ensures.1 in
    let second = c.put_number-2.ensures.1 in
    omega (
      arith,
      decimal_short c.args.a,
      decimal_short c.args.b,
      c.requires,
      first.next,
      first.size,
      second.next,
      second.size,
    )

pub returns : goal.returns
returns c =
    let first = c.put_number.ensures in
    let second = c.put_number-2.ensures in
    let last = c.put_all.ensures in
    (last.0 ∙ second.0 ∙ first.0, numbers_written c.args.a c.args.b first.1 second.1 last.1)
