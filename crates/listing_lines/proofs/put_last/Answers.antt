-- The house's line, and the totals after it. Assumes nothing.
use Rattle.std.proofs.Common.{◌∙◌, arith}
use Rattle.tender.specs.Keywords.{bytes}
use Rattle.listing_text.proofs.LineLaws.{house_short}
use Rattle.listing_lines.specs.SpellingLaws.{last_written}
use Rattle.listing_lines.proofs.put_last.Goals as goal

pub put_pair-requires : goal.put_pair-requires
put_pair-requires c =
    let said = c.put_house.ensures.1 in omega (arith, house_short, c.requires, said.next, said.size)

pub returns : goal.returns
unfolding bytes
returns c =
    let said = c.put_house.ensures in
    let last = c.put_pair.ensures in
    (last.0 ∙ said.0, last_written c.args.tender.reserve c.args.totals said.1 last.1)
