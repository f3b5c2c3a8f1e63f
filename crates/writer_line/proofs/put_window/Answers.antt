-- A space and a bracket, two numbers, and a bracket. Assumes nothing.
use Rattle.std.proofs.Common.{◌∙◌, arith}
use Rattle.tender.specs.Keywords.{bytes}
use Rattle.spelling.proofs.LineLaws.{decimal_short}
use Rattle.writer_line.proofs.PutLaws.{window_written}
use Rattle.writer_line.proofs.put_window.Goals as goal

pub put_number-requires : goal.put_number-requires
put_number-requires c =
    let begun = c.put_all.ensures.1 in
    let said = c.put_decimal.ensures.1 in
    omega (arith, decimal_short c.args.start, c.requires, begun.next, begun.size, said.next, said.size)

pub put-requires : goal.put-requires
put-requires c =
    let begun = c.put_all.ensures.1 in
    let said = c.put_decimal.ensures.1 in
    let ended = c.put_number.ensures.1 in
    omega (
      arith,
      decimal_short c.args.start,
      decimal_short c.args.end,
      c.requires,
      begun.next,
      begun.size,
      said.next,
      said.size,
      ended.next,
      ended.size,
    )

pub returns : goal.returns
unfolding bytes
returns c =
    let begun = c.put_all.ensures in
    let said = c.put_decimal.ensures in
    let ended = c.put_number.ensures in
    let last = c.put.ensures in
    (last.0 ∙ ended.0 ∙ said.0 ∙ begun.0, window_written c.args.start c.args.end begun.1 said.1 ended.1 last.1)
