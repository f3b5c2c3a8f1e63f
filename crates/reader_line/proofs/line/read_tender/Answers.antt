-- `read_tender` meets its contract: the kind whose word stands next is read on. Assumes nothing.
use Rattle.std.proofs.Common.{refl, sym, ap, ◌∙◌}
use Rattle.tender.specs.Limits.{within}
use Rattle.tender.specs.Keywords.{bytes, single_word, multi_word}
use Rattle.reader_parts.specs.Scan.{lettered}
use Rattle.reader_line.specs.Answer.{noted_front}
use Rattle.reader_line.proofs.LinePlaceLaws.{tender_single, tender_multi, tender_neither}
use Rattle.reader_line.proofs.AnswerLaws.{noted_wrong}
use Rattle.reader_line.proofs.line.read_tender.Goals as goal

pub stands-requires : goal.stands-requires
unfolding lettered within
stands-requires c = (c.requires.0, c.requires.1, refl)

pub returns-then-stands-clause-answer : goal.returns-then-stands-clause-answer
unfolding single_word bytes
returns-then-stands-clause-answer c =
    let e = tender_single c.args.s.now c.args.at (sym c.stands.ensures.answer ∙ c.if-stands.true) in
    λ m table. c.read_kind.ensures.answer m table ∙ ap (noted_front m table) (sym e)

pub stands-requires-2 : goal.stands-requires-2
unfolding lettered within
stands-requires-2 c = (c.requires.0, c.requires.1, refl)

pub returns-then-stands-2-clause-answer : goal.returns-then-stands-2-clause-answer
unfolding single_word multi_word bytes
returns-then-stands-2-clause-answer c =
    let n = sym c.stands.ensures.answer ∙ c.if-stands.false in
    let e = tender_multi c.args.s.now c.args.at n (sym c.stands-2.ensures.answer ∙ c.if-stands-2.true) in
    λ m table. c.read_kind-then-stands-2.ensures.answer m table ∙ ap (noted_front m table) (sym e)

pub returns-clause-answer : goal.returns-clause-answer
unfolding single_word multi_word bytes
returns-clause-answer c =
    let s = c.args.s.now in
    let n = sym c.stands.ensures.answer ∙ c.if-stands.false in
    noted_wrong s _ (tender_neither s c.args.at n (sym c.stands-2.ensures.answer ∙ c.if-stands-2.false))
