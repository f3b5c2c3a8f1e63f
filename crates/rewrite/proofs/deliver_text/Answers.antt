-- The length that was written, or 0. Assumes nothing.
use Rattle.rewrite.proofs.DeliverLaws.{delivers_text, delivers_none}
use Rattle.rewrite.proofs.deliver_text.Goals as goal

pub returns-in-Ok : goal.returns-in-Ok
returns-in-Ok c = delivers_text c.in-Ok.n c.in-Ok.is c.write.ensures

pub returns-in-Err : goal.returns-in-Err
returns-in-Err c = delivers_none c.in-Err.field-0 c.in-Err.is c.write.ensures
