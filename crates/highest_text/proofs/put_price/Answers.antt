-- The line of two numbers after the word, or of none. Assumes nothing.
use Rattle.std.proofs.Common.{Ok, ap, arith, rules}
use Rattle.tender.specs.Keywords.{bytes}
use Rattle.spelling.proofs.WritingLaws.{left}
use Rattle.highest_text.specs.Told.{highest_word}
use Rattle.highest_text.specs.ToldLaws.{line_price, line_none}
use Rattle.highest_text.proofs.put_price.Goals as goal

pub put_pair-requires : goal.put_pair-requires
put_pair-requires c = let page = c.new-page.ensures.start in rw (page.0, page.1) (omega (arith, c.requires))

pub returns-in-Some : goal.returns-in-Some
unfolding highest_word bytes
returns-in-Some c =
    line_price c.args.bidder c.in-Some.price (ap Ok c.in-Some.is)
    (left (rw (c.new-page.ensures.start.0, c.new-page.ensures.start.1) at c.put_pair.ensures.1) (search rules))

pub returns-in-None : goal.returns-in-None
returns-in-None c = line_none c.args.bidder (ap Ok c.in-None.is) c.put_none.ensures
