-- The refusal's number and place. Assumes nothing.
use Rattle.tender.specs.Keywords.{bytes}
use Rattle.std.proofs.Common.{rules}
use Rattle.spelling.proofs.WritingLaws.{left}
use Rattle.spelling.proofs.SpellingLaws.{refusal_written}
use Rattle.spelling_put.proofs.put_refused.Goals as goal

pub returns : goal.returns
unfolding bytes
returns c =
    let page = c.new-page.ensures.start in
    refusal_written c.args.refusal c.number-n.ensures c.place-at.ensures (left (rw (page.0, page.1) at c.put_pair.ensures.1) (search rules))
