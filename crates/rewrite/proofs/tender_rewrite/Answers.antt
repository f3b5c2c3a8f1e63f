-- What was read is written; a refusal's line stands for a text that cannot be read. Assumes nothing.
use Rattle.reader_fill.proofs.FillLaws.{refused_is}
use Rattle.reader_fill.proofs.ReadInLaws.{filled_read}
use Rattle.rewrite.proofs.DeliverLaws.{rewritten_text, rewritten_refusal}
use Rattle.rewrite.proofs.tender_rewrite.Goals as goal

pub returns-in-Ok : goal.returns-in-Ok
returns-in-Ok c =
    let f = c.in-Ok.filled in
    rewritten_text (filled_read c.args.text.now f.tender f.bids f.windows c.fill.ensures.answer c.fill.ensures.tables c.in-Ok.is)
    c.deliver_text.ensures

pub returns-in-Err : goal.returns-in-Err
returns-in-Err c =
    let r = c.in-Err.refusal in
    rewritten_refusal r (refused_is c.args.text.now r c.fill.ensures.answer c.in-Err.is) c.deliver_refusal.ensures
