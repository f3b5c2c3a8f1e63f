-- The award's answer, as its list. Assumes nothing.
use Rattle.listing_made.proofs.MakingLaws.{award_written, declined_written}
use borrow.Author.Rules.{rules}
use Rattle.listing_made.proofs.put_award.Goals as goal

pub returns-in-Ok : goal.returns-in-Ok
returns-in-Ok c =
    award_written c.in-Ok.totals c.in-Ok.is (search rules) c.settle_sound.ensures
    c.put_awarded.ensures

pub returns-in-Err : goal.returns-in-Err
returns-in-Err c =
    declined_written c.in-Err.refusal c.in-Err.is (search rules) c.settle_sound.ensures c.put_refused.ensures
