-- No line, or the line of the price. Assumes nothing.
use Rattle.std.proofs.Common.{refl}
use Rattle.tender.specs.Keywords.{bytes, reserve_word}
use Rattle.writer_line.proofs.PutLaws.{no_reserve, reserve_written}
use Rattle.writer_line.proofs.put_reserve.Goals as goal

pub returns-in-None : goal.returns-in-None
returns-in-None c =
    let page = c.args.page.now in (refl, no_reserve page.buf.now page.at c.args.reserve c.in-None.is)

pub returns-in-Some : goal.returns-in-Some
unfolding reserve_word bytes
returns-in-Some c =
    (c.put_one.ensures.0, reserve_written c.args.reserve c.in-Some.price c.in-Some.is c.put_one.ensures.1)
