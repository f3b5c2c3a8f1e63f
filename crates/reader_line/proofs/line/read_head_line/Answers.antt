-- `read_head_line` meets its contract: the line is read on by the keyword that stands next, which is no bid's. Assumes nothing.
use Rattle.std.proofs.Common.{refl, sym, ◌∙◌, arith, None}
use Rattle.tender.specs.Limits.{within}
use Rattle.tender.specs.Keywords.{bytes, tender_word, reserve_word}
use Rattle.reader_parts.specs.Scan.{lettered}
use Rattle.reader_parts.specs.Front.{wrong}
use Rattle.reader_parts.proofs.PlaceLaws.{not_last}
use Rattle.reader_line.proofs.AnswerLaws.{noted_wrong}
use Rattle.reader_line.proofs.HeadLineLaws.{head_unopened, head_tender, head_reserve, head_neither, head_told, head_after}
use Rattle.reader_line.proofs.line.read_head_line.Goals as goal

pub returns-then-s-at-ne40-clause-answer : goal.returns-then-s-at-ne40-clause-answer
returns-then-s-at-ne40-clause-answer c =
    let s = c.args.s.now in
    let h = c.requires.0 in
    head_told s c.args.at h c.requires.1 _ (head_unopened s c.args.at h c.if-s-at-ne40.true) None (noted_wrong s wrong refl)

pub stands-requires : goal.stands-requires
unfolding lettered within
stands-requires c =
    let b = c.if-s-at-ne40.false in
    (not_last c.args.s.now c.args.at c.requires.1 c.requires.0 (λ e. omega (arith, e, b)), c.requires.1, refl)

pub returns-then-stands : goal.returns-then-stands
unfolding tender_word bytes
returns-then-stands c =
    let s = c.args.s.now in
    let at = c.args.at in
    let h = c.requires.0 in
    let ended = c.requires.1 in
    let r = c.read_tender in
    let e = head_tender s at h c.if-s-at-ne40.false (sym c.stands.ensures.answer ∙ c.if-stands.true) in
    record {
      answer = head_told s at h ended _ e r.result r.ensures.answer;
      place = head_after s at h ended _ e r.result r.ensures.answer r.ensures.place;
    }

pub stands-requires-2 : goal.stands-requires-2
unfolding lettered within
stands-requires-2 c =
    let b = c.if-s-at-ne40.false in
    (not_last c.args.s.now c.args.at c.requires.1 c.requires.0 (λ e. omega (arith, e, b)), c.requires.1, refl)

pub returns-then-stands-2 : goal.returns-then-stands-2
unfolding tender_word reserve_word bytes
returns-then-stands-2 c =
    let s = c.args.s.now in
    let at = c.args.at in
    let h = c.requires.0 in
    let ended = c.requires.1 in
    let r = c.read_reserve in
    let e = head_reserve s at h c.if-s-at-ne40.false (sym c.stands.ensures.answer ∙ c.if-stands.false)
    (sym c.stands-2.ensures.answer ∙ c.if-stands-2.true) in
    record {
      answer = head_told s at h ended _ e r.result r.ensures.answer;
      place = head_after s at h ended _ e r.result r.ensures.answer r.ensures.place;
    }

pub returns-clause-answer : goal.returns-clause-answer
unfolding tender_word reserve_word bytes
returns-clause-answer c =
    let s = c.args.s.now in
    let h = c.requires.0 in
    let e = head_neither s c.args.at h c.if-s-at-ne40.false (sym c.stands.ensures.answer ∙ c.if-stands.false)
    (sym c.stands-2.ensures.answer ∙ c.if-stands-2.false) in
    head_told s c.args.at h c.requires.1 _ e None (noted_wrong s wrong refl)
