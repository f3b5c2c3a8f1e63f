-- No line where the house lost or there is none, else the line of its price. Assumes nothing.
use Rattle.std.proofs.Common.{refl}
use Rattle.tender.specs.Keywords.{bytes}
use Rattle.spelling.proofs.SpellingLaws.{nothing_written}
use Rattle.listing_lines.specs.SpellingLaws.{house_written, house_lost, no_house}
use Rattle.listing_lines.proofs.put_house.Goals as goal

pub returns-then-not-won : goal.returns-then-not-won
returns-then-not-won c =
    let page = c.args.page.now in
    (refl, rw (house_lost c.args.reserve c.args.won c.if-not-won.true) (nothing_written page.buf.now page.at))

pub returns-in-None : goal.returns-in-None
returns-in-None c =
    let page = c.args.page.now in
    (refl, rw (no_house c.args.reserve c.args.won c.in-None.is) (nothing_written page.buf.now page.at))

pub returns-in-Some : goal.returns-in-Some
unfolding bytes
returns-in-Some c =
    let args = c.args in
    let put = c.put_one.ensures in
    (put.0, house_written args.reserve args.won c.in-Some.price c.in-Some.is c.if-not-won.false put.1)
