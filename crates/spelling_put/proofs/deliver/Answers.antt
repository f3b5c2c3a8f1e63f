-- Bytes for which there is room are copied, and else nothing is. Assumes nothing.
use Rattle.std.proofs.Common.{rules}
use Rattle.spelling.proofs.WritingLaws.{left}
use Rattle.spelling.proofs.DeliveredLaws.{delivered_none, delivered_all}
use Rattle.spelling_put.proofs.deliver.Goals as goal

pub returns-then-out-s : goal.returns-then-out-s
returns-then-out-s c = delivered_none c.args.s.now c.args.out.now c.if-out-s.true

pub returns : goal.returns
returns c = let page = c.new-page.ensures.start in delivered_all c.if-out-s.false (left (rw (page.0, page.1) at c.put_all.ensures.1) (search rules))
