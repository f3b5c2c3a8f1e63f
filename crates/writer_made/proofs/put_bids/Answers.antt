-- Each turn writes the line of one bid, unless the text is too long already. Assumes nothing.
use Rattle.std.proofs.Common.{refl, sym, ◌∙◌, arith}
use Rattle.tender.specs.Tables.{rows_of}
use Rattle.writer_text.proofs.TableLaws.{row_plain, rows_lent}
use Rattle.writer_text.proofs.FillingLaws.{bids_begin, bids_go, bids_end, bids_long}
use Rattle.writer_made.proofs.put_bids.Goals as goal

pub loop-j-init : goal.loop-j-init
loop-j-init c =
    let page = c.args.page.now in
    let tables = c.args.tables.now in record {
      same = refl;
      put = bids_begin tables.windows.now (rows_of tables.count tables.bids.now) page.buf.now page.at tables.count;
      row = c.requires.1.0;
      lent = rows_lent tables.tender tables.count tables.bids.now tables.windows.now tables.faultless;
    }

pub shape_of-row-then-page-gt65536 : goal.shape_of-row-then-page-gt65536
shape_of-row-then-page-gt65536 c = c.loop-j.invariant.row ∙ sym c.requires.1.0

pub returns-then-page-gt65536 : goal.returns-then-page-gt65536
returns-then-page-gt65536 c = record {
  same = c.loop-j.invariant.same;
  bids = bids_long c.loop-j.invariant.put (omega arith);
}

pub put_bid-requires : goal.put_bid-requires
put_bid-requires c =
    let tables = c.args.tables.now in
    let pre = c.requires in
    let p = row_plain tables.tender tables.count tables.bids.now tables.windows.now tables.faultless c.loop-j.j (omega arith) in (
      p.room,
      (
        p.all_lawful,
        (
          p.few_windows,
          (omega (arith, c.loop-j.invariant.put.written.size, pre.0), (c.loop-j.invariant.row, pre.1.1)),
        ),
      ),
    )

pub loop-j-preserved : goal.loop-j-preserved
loop-j-preserved c =
    let page = c.args.page.now in
    let tables = c.args.tables.now in
    let more = c.put_bid.ensures in record {
      same = more.0.0 ∙ c.loop-j.invariant.same;
      put = bids_go tables.count tables.bids.now tables.windows.now page.buf.now page.at c.loop-j.invariant.put
          (omega (arith, c.loop-j-test.true)) more.0.1;
      row = more.1;
      lent = c.loop-j.invariant.lent;
    }

pub shape_of-row : goal.shape_of-row
shape_of-row c = c.loop-j.invariant.row ∙ sym c.requires.1.0

pub returns : goal.returns
returns c = record {
  same = c.loop-j.invariant.same;
  bids = bids_end c.loop-j.invariant.put (omega arith);
}
