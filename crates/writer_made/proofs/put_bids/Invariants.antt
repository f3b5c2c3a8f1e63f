-- Each turn writes the line of one bid, unless the text is too long already. Assumes nothing.
use Rattle.std.proofs.Common.{◌≡◌, ◌/◌, ◌≤◌, length}
use Rattle.tender.specs.Tables.{rows_of, bid_width}
use Rattle.runs.specs.MinuteRows.{row_words}
use Rattle.writer_text.proofs.FillingLaws.{BidsPut}
use Rattle.writer_made.proofs.put_bids.Given as goal

abbrev pub invariant-loop-j : goal.invariant-loop-j
invariant-loop-j l =
    let old = l.initial.page in
    let tables = l.tables in record {
      same : l.page.buf.ghost_name ≡ old.buf.ghost_name;
      put : BidsPut tables.windows.now (rows_of tables.count tables.bids.now) old.buf.now old.at tables.count l.j l.page.buf.now l.page.at;
      row : length l.row ≡ row_words;
      lent : tables.count ≤ length tables.bids.now / bid_width;
    }
