-- The tender's line, and its reserve's after it. Assumes nothing.
use Rattle.std.proofs.Common.{◌∙◌, arith}
use Rattle.writer_line.proofs.LengthLaws.{tender_short}
use Rattle.writer_line.proofs.PutLaws.{head_written}
use Rattle.writer_line.proofs.put_head.Goals as goal

pub put_reserve-requires : goal.put_reserve-requires
put_reserve-requires c = let w = c.put_tender.ensures.1 in omega (arith, tender_short c.args.tender, w.next, w.size)

pub returns : goal.returns
returns c =
    let begun = c.put_tender.ensures in
    let last = c.put_reserve.ensures in (last.0 ∙ begun.0, head_written c.args.tender begun.1 last.1)
