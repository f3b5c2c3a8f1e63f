-- The line of a price or of none, or that of the refusal. Assumes nothing.
use Rattle.highest_text.specs.ToldLaws.{line_refused}
use Rattle.highest_text.proofs.put_line.Goals as goal

pub returns-in-Ok : goal.returns-in-Ok
returns-in-Ok c = rw c.in-Ok.is c.put_price.ensures

pub returns-in-Err : goal.returns-in-Err
returns-in-Err c =
    line_refused c.args.bidder c.in-Err.refusal c.in-Err.is c.put_refused.ensures
