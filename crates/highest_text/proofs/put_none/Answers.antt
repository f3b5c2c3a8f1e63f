-- The bracket and the word, the number, and the word that ends the line. Assumes nothing.
use Rattle.std.proofs.Common.{arith, rules}
use Rattle.spelling.proofs.LineLaws.{decimal_short}
use Rattle.spelling.proofs.WritingLaws.{left}
use Rattle.highest_text.specs.ToldLaws.{none_written}
use Rattle.highest_text.proofs.put_none.Goals as goal

pub put_all-requires : goal.put_all-requires
put_all-requires c = let page = c.new-page.ensures.start in rw (page.0, page.1) (omega (arith, c.requires))

pub put_number-requires : goal.put_number-requires
put_number-requires c =
    let begun = (rw (c.new-page.ensures.start.0, c.new-page.ensures.start.1) at c.put_all.ensures.1) in
    omega (arith, c.requires, begun.next, begun.size)

pub put_all-requires-2 : goal.put_all-requires-2
put_all-requires-2 c =
    let begun = (rw (c.new-page.ensures.start.0, c.new-page.ensures.start.1) at c.put_all.ensures.1) in
    let named = c.put_number.ensures.1 in
    omega (arith, decimal_short c.args.bidder, c.requires, begun.next, begun.size, named.next, named.size)

pub returns : goal.returns
returns c =
    let begun = (rw (c.new-page.ensures.start.0, c.new-page.ensures.start.1) at c.put_all.ensures.1) in
    left (none_written c.args.bidder begun c.put_number.ensures.1 c.put_all-2.ensures.1) (search rules)
