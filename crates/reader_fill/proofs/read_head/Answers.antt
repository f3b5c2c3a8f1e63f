-- `read_head` meets its contract: the first line is read and judged as the definition does. Assumes nothing.
use Rattle.std.proofs.Common.{sym, ap, ◌∙◌, arith, []}
use Rattle.reader_forms.proofs.EndedLaws.{lines_on, lines_next}
use Rattle.reader_text.proofs.FaultLaws.{flaw_fault, tender_told}
use Rattle.reader_fill.proofs.FirstLaws.{is_tender, first_other, first_faulty, first_sound, opened_same}
use Rattle.reader_fill.proofs.read_head.Goals as goal

pub returns-in_default : goal.returns-in_default
returns-in_default c =
    first_other _ _ _ (lines_on c.args.text.now 0 c.requires c.requires.0) 0 [] _ (c.in_default.ensures.answer 0 []) tt

pub reserve_in-requires : goal.reserve_in-requires
reserve_in-requires c = (c.in-Some.ensures.place.1, omega arith, c.requires)

pub returns-in-Some-Empty : goal.returns-in-Some-Empty
returns-in-Some-Empty c =
    let o = is_tender 0 [] _ _ (rw c.in-Tender.is at c.in-Some.ensures.answer 0 []) in
    first_faulty _ _ _ (lines_on c.args.text.now 0 c.requires c.requires.0) _ o _
    (tender_told _ ∙ ap flaw_fault (sym c.flaw_in.ensures ∙ rw c.in-Some-Empty.field-0-is at c.in-Some-Empty.is))

pub returns-in-Some-Late : goal.returns-in-Some-Late
returns-in-Some-Late c =
    let o = is_tender 0 [] _ _ (rw c.in-Tender.is at c.in-Some.ensures.answer 0 []) in
    first_faulty _ _ _ (lines_on c.args.text.now 0 c.requires c.requires.0) _ o _
    (tender_told _ ∙ ap flaw_fault (sym c.flaw_in.ensures ∙ rw c.in-Some-Late.field-0-is at c.in-Some-Late.is))

pub returns-in-None : goal.returns-in-None
returns-in-None c =
    let text = c.args.text.now in
    let o = is_tender 0 [] _ _ (rw c.in-Tender.is at c.in-Some.ensures.answer 0 []) in
    opened_same text _ _ c.reserve_in.result
    (first_sound _ _ _ (lines_next text 0 c.requires c.requires.0 _ c.in-Some.ensures.place.0) _ o
    (tender_told (record { kind = c.in-Tender.kind; window = c.in-Tender.w })
    ∙ ap flaw_fault (sym c.flaw_in.ensures ∙ c.in-None.is))) c.reserve_in.ensures

pub returns-in-Bid : goal.returns-in-Bid
returns-in-Bid c =
    first_other _ _ _ (lines_on c.args.text.now 0 c.requires c.requires.0) 0 [] _
    (rw c.in-Bid.is at c.in-Some.ensures.answer 0 []) tt

pub returns-in-Reserve : goal.returns-in-Reserve
returns-in-Reserve c =
    first_other _ _ _ (lines_on c.args.text.now 0 c.requires c.requires.0) 0 [] _
    (rw c.in-Reserve.is at c.in-Some.ensures.answer 0 []) tt
