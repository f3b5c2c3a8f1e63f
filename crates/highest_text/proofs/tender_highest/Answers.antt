-- What was read is asked; a refusal's line stands for a text that cannot be read. Assumes nothing.
use Rattle.reader_fill.proofs.FillLaws.{refused_is}
use Rattle.reader_fill.proofs.ReadInLaws.{filled_read}
use Rattle.highest_text.specs.ToldLaws.{read_sound, told_read, told_refused}
use Rattle.highest_text.proofs.tender_highest.Goals as goal

pub invariant_of-tables : goal.invariant_of-tables
invariant_of-tables c =
    let f = c.in-Ok.filled in record {
      faultless = read_sound (filled_read c.args.text.now f.tender f.bids f.windows
          c.fill.ensures.answer c.fill.ensures.tables c.in-Ok.is);
    }

pub returns-in-Ok : goal.returns-in-Ok
returns-in-Ok c =
    let f = c.in-Ok.filled in
    told_read (filled_read c.args.text.now f.tender f.bids f.windows c.fill.ensures.answer c.fill.ensures.tables c.in-Ok.is) _
    c.highest_sound-answer.ensures c.deliver.ensures

pub returns-in-Err : goal.returns-in-Err
returns-in-Err c =
    let r = c.in-Err.refusal in
    told_refused r (refused_is c.args.text.now r c.fill.ensures.answer c.in-Err.is) c.deliver-in-Err.ensures
