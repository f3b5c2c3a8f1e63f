-- The lines before the bids, and the lines of the bids after them. Assumes nothing.
use Rattle.std.proofs.Common.{refl, arith, rules}
use Rattle.runs.proofs.MinuteRowLaws.{empty_row, full_row}
use Rattle.writer_text.proofs.FillingLaws.{some_text, text_left}
use Rattle.writer_made.proofs.put_text.Goals as goal

pub put_head-requires : goal.put_head-requires
put_head-requires c = let page = c.new-page.ensures.start in rw (page.0, page.1) (omega (arith, c.requires))

pub put_bids-requires : goal.put_bids-requires
put_bids-requires c =
    let begun = (rw (c.new-page.ensures.start.0, c.new-page.ensures.start.1) at c.put_head.ensures.1) in
    (omega (arith, c.requires, begun.size), (refl, (empty_row _ refl, full_row _ refl)))

pub returns : goal.returns
returns c =
    let begun = (rw (c.new-page.ensures.start.0, c.new-page.ensures.start.1) at c.put_head.ensures.1) in
    text_left (some_text begun c.put_bids.ensures.bids) (search rules)
