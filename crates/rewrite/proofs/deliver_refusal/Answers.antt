-- The line is made in a buffer of its own, measured, and copied where there is room. Assumes nothing.
use Rattle.std.proofs.Common.{sym, arith}
use Rattle.spelling.proofs.LineLaws.{refused_short}
use Rattle.spelling.proofs.DeliveredLaws.{line_size, line_delivered}
use Rattle.rewrite.proofs.deliver_refusal.Goals as goal

pub slice_bounds-line-end : goal.slice_bounds-line-end
slice_bounds-line-end c = omega (arith, c.put_refused-n.ensures.next, refused_short c.args.refusal)

pub slice_bounds-deliver-end : goal.slice_bounds-deliver-end
slice_bounds-deliver-end c = sym (line_size c.put_refused-n.ensures)

pub returns : goal.returns
returns c = line_delivered c.put_refused-n.ensures c.deliver.ensures
