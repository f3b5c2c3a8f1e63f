-- `read_line` meets its contract: a bid's line is read on, and where none stands the line is one of a head. Assumes nothing.
use Rattle.std.proofs.Common.{refl, sym, ap, ◌∙◌, arith, None}
use Rattle.tender.specs.Limits.{within}
use Rattle.tender.specs.Keywords.{bytes, bid_word}
use Rattle.reader_parts.specs.Scan.{lettered}
use Rattle.reader_parts.proofs.PlaceLaws.{not_last}
use Rattle.reader_forms.specs.Tally.{noted}
use Rattle.reader_line.specs.Answer.{noted_front}
use Rattle.reader_line.proofs.LinePlaceLaws.{line_unopened, line_bid}
use Rattle.reader_line.proofs.AnswerLaws.{noted_wrong, line_told, line_after}
use Rattle.reader_line.proofs.HeadLineLaws.{line_unbid}
use Rattle.reader_line.proofs.line.read_line.Goals as goal

pub returns-then-s-at-ne40-clause-answer : goal.returns-then-s-at-ne40-clause-answer
returns-then-s-at-ne40-clause-answer c =
    let s = c.args.s.now in
    let at = c.args.at in
    let h = c.requires.1.0 in
    let m = c.args.m in
    let table = c.args.windows.now in
    line_told s at h c.requires.1.1 m table table None (noted_wrong s _ (line_unopened s at h c.if-s-at-ne40.true) m table)

pub stands-requires : goal.stands-requires
unfolding lettered within
stands-requires c =
    let h = c.requires.1.0 in
    let ended = c.requires.1.1 in
    let b = c.if-s-at-ne40.false in
    (not_last c.args.s.now c.args.at ended h (λ e. omega (arith, e, b)), ended, refl)

pub returns-then-stands : goal.returns-then-stands
unfolding bid_word bytes
returns-then-stands c =
    let s = c.args.s.now in
    let at = c.args.at in
    let h = c.requires.1.0 in
    let ended = c.requires.1.1 in
    let m = c.args.m in
    let table = c.args.windows.now in
    let r = c.read_bid in
    let e = line_bid s at h c.if-s-at-ne40.false (sym c.stands.ensures.answer ∙ c.if-stands.true) in
    let q = r.ensures.answer ∙ ap (noted_front m table) (sym e) in
    let later = r.new.windows in
    record {
      answer = line_told s at h ended m table later r.result q;
      place = line_after s at h ended m table later r.result q r.ensures.place;
      rows = r.ensures.rows;
    }

pub returns-clause-answer : goal.returns-clause-answer
unfolding bid_word bytes
returns-clause-answer c =
    let m = c.args.m in
    let table = c.args.windows.now in
    let e = line_unbid c.args.s.now c.args.at c.requires.1.0 c.requires.1.1 c.if-s-at-ne40.false
    (sym c.stands.ensures.answer ∙ c.if-stands.false) in
    c.read_head_line.ensures.answer m table ∙ ap (noted m table) e
