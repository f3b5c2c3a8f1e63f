-- The text is made in a buffer of its own, measured, and copied where there is room. Assumes nothing.
use mathlib.Core.Path.{sym}
use mathlib.Core.Logic.{inl, inr}
use native.Mathlib.Omega.{arith}
use Rattle.std.proofs.Common.{rules}
use Rattle.spelling.proofs.WritingLaws.{left}
use Rattle.writer_text.proofs.FillingLaws.{some_length}
use Rattle.writer.specs.WritesLaws.{writes_fourteen, writes_text}
use Rattle.writer.proofs.write_sound.Goals as goal

pub returns-then-n-gt65536 : goal.returns-then-n-gt65536
returns-then-n-gt65536 c =
    let tables = c.args.tables.now in
    writes_fourteen tables.tender tables.count tables.bids.now tables.windows.now tables.faultless c.put_text-n.ensures
    c.args.text.now (inl (omega arith))

pub returns-then-text-n : goal.returns-then-text-n
returns-then-text-n c =
    let tables = c.args.tables.now in
    writes_fourteen tables.tender tables.count tables.bids.now tables.windows.now tables.faultless c.put_text-n.ensures
    c.args.text.now (inr (omega arith))

pub slice_bounds-put_all-end : goal.slice_bounds-put_all-end
slice_bounds-put_all-end c =
    sym (some_length c.put_text-n.ensures)

pub put_all-requires : goal.put_all-requires
put_all-requires c =
    let page = c.new-page.ensures.start in rw (page.0, page.1) (omega (arith, some_length c.put_text-n.ensures))

pub returns : goal.returns
returns c =
    let tables = c.args.tables.now in
    writes_text tables.tender tables.count tables.bids.now tables.windows.now tables.faultless c.put_text-n.ensures c.args.text.now
    (omega arith) (omega arith)
    (left (rw (c.new-page.ensures.start.0, c.new-page.ensures.start.1) at c.put_all.ensures.1) (search rules))
