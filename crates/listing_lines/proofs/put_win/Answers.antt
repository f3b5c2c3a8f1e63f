-- A line for a winner, nothing for another bid. Assumes nothing.
use Rattle.std.proofs.Common.{refl}
use Rattle.tender.specs.Keywords.{bytes}
use Rattle.spelling.proofs.SpellingLaws.{nothing_written}
use Rattle.listing_lines.specs.SpellingLaws.{win_written, no_win}
use Rattle.listing_lines.proofs.put_win.Goals as goal

pub returns-then-flag-eq1 : goal.returns-then-flag-eq1
unfolding bytes
returns-then-flag-eq1 c =
    let args = c.args in
    let put = c.put_pair.ensures in
    (put.0, win_written args.bidder args.flag args.cents c.if-flag-eq1.true put.1)

pub returns-else-flag-eq1 : goal.returns-else-flag-eq1
returns-else-flag-eq1 c =
    let args = c.args in
    let page = args.page.now in
    (refl, rw (no_win args.bidder args.flag args.cents c.if-flag-eq1.false) (nothing_written page.buf.now page.at))
