-- The award line, the winners' lines and the last lines follow each other. Assumes nothing.
use Rattle.std.proofs.Common.{arith, rules}
use Rattle.listing_text.proofs.LineLaws.{award_short, win_lines_short}
use Rattle.spelling.proofs.WritingLaws.{then, left}
use Rattle.listing_lines.proofs.put_awarded.Goals as goal

pub put_award-requires : goal.put_award-requires
put_award-requires c = let page = c.new-page.ensures.start in rw (page.0, page.1) (omega (arith, c.requires.1.1.1))

pub put_wins-requires : goal.put_wins-requires
put_wins-requires c =
    let begun = (rw (c.new-page.ensures.start.0, c.new-page.ensures.start.1) at c.put_award.ensures.1) in (
      c.requires.0,
      (
        c.requires.1.0,
        (
          c.requires.1.1.0,
          omega (arith, c.requires.1.1.1, award_short c.args.tender, begun.next, begun.size),
        ),
      ),
    )

pub put_last-requires : goal.put_last-requires
put_last-requires c =
    let begun = (rw (c.new-page.ensures.start.0, c.new-page.ensures.start.1) at c.put_award.ensures.1) in
    let named = c.put_wins.ensures.1 in
    omega (
      arith,
      c.requires.1.1.1,
      award_short c.args.tender,
      win_lines_short c.args.bids.now c.args.won.now c.args.cents.now c.args.n,
      begun.next,
      begun.size,
      named.next,
      named.size,
    )

pub returns : goal.returns
returns c =
    let begun = (rw (c.new-page.ensures.start.0, c.new-page.ensures.start.1) at c.put_award.ensures.1) in
    left (then (then begun c.put_wins.ensures.1) c.put_last.ensures.1) (search rules)
