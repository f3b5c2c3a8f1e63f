-- The opening, the kind's keyword, and the tender's window. Assumes nothing.
use Rattle.std.proofs.Common.{◌∙◌, arith}
use Rattle.tender.specs.Keywords.{bytes}
use Rattle.spelling.proofs.LineLaws.{kind_short}
use Rattle.writer_line.proofs.PutLaws.{tender_written}
use Rattle.writer_line.proofs.put_tender.Goals as goal

pub put_numbers-requires : goal.put_numbers-requires
put_numbers-requires c =
    let begun = c.put_all.ensures.1 in
    let said = c.put_kind.ensures.1 in
    omega (arith, kind_short c.args.tender.kind, c.requires, begun.next, begun.size, said.next, said.size)

pub returns : goal.returns
unfolding bytes
returns c =
    let begun = c.put_all.ensures in
    let said = c.put_kind.ensures in
    let last = c.put_numbers.ensures in
    (last.0 ∙ said.0 ∙ begun.0, tender_written c.args.tender begun.1 said.1 last.1)
