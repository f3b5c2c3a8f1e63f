-- The line is made in a buffer of its own, measured, and copied where there is room. Assumes nothing.
use Rattle.std.proofs.Common.{sym, arith}
use Rattle.spelling.proofs.DeliveredLaws.{line_size, line_delivered}
use Rattle.highest_text.specs.ToldLaws.{line_short}
use Rattle.highest_text.proofs.deliver.Goals as goal

pub slice_bounds-line-end : goal.slice_bounds-line-end
slice_bounds-line-end c = omega (arith, c.put_line-n.ensures.next, (line_short c.args.bidder c.args.answer).0)

pub slice_bounds-deliver-end : goal.slice_bounds-deliver-end
slice_bounds-deliver-end c = sym (line_size c.put_line-n.ensures)

pub returns : goal.returns
returns c = line_delivered c.put_line-n.ensures c.deliver.ensures
