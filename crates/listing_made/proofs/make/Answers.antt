-- The tables suffice, so the text is read or refused as its definition says; then its award or its refusal is written. The bids are so
-- few that the list has room. Assumes nothing.
use native.Mathlib.Omega.{arith}
use Rattle.reader_fill.proofs.FillLaws.{refused_is}
use Rattle.reader_fill.proofs.ReadInLaws.{filled_read, few_read}
use Rattle.listing_made.proofs.MakingLaws.{read_sound, read_room, made_award, made_refusal}
use Rattle.listing_made.proofs.make.Goals as goal

pub put_award-requires : goal.put_award-requires
put_award-requires c =
    let f = c.in-Ok.filled in
    let h = filled_read c.args.text.now f.tender f.bids f.windows c.fill.ensures.answer c.fill.ensures.tables c.in-Ok.is in
    let few = few_read h in (few, (omega arith, read_room h c.requires))

pub invariant_of-tables : goal.invariant_of-tables
invariant_of-tables c =
    let f = c.in-Ok.filled in record {
      faultless = read_sound (filled_read c.args.text.now f.tender f.bids f.windows
          c.fill.ensures.answer c.fill.ensures.tables c.in-Ok.is);
    }

pub returns-in-Ok : goal.returns-in-Ok
returns-in-Ok c =
    let f = c.in-Ok.filled in
    made_award (filled_read c.args.text.now f.tender f.bids f.windows c.fill.ensures.answer c.fill.ensures.tables c.in-Ok.is)
    c.put_award.ensures

pub returns-in-Err : goal.returns-in-Err
returns-in-Err c =
    let r = c.in-Err.refusal in
    made_refusal r (refused_is c.args.text.now r c.fill.ensures.answer c.in-Err.is) c.put_refused.ensures
