-- `fill` meets its contract: the lines up to the last byte 10, and whether bytes follow them, settle the answer. Assumes nothing.
use Rattle.std.proofs.Common.{sym, subst, ap, ◌∙◌, arith}
use Rattle.std.proofs.Common.{length-take-le}
use Rattle.reader_fill.specs.Answer.{fill_answer, Holds}
use Rattle.reader_fill.proofs.RestLaws.{front_ended, front_length}
use Rattle.reader_fill.proofs.LinesReadLaws.{told_refused}
use Rattle.reader_fill.proofs.FillLaws.{too_long, no_lines, by_lines}
use Rattle.reader_fill.proofs.fill.Goals as goal

pub returns-then-text-gt-MAX_TEXT : goal.returns-then-text-gt-MAX_TEXT
returns-then-text-gt-MAX_TEXT c =
    let t = told_refused _ _ _ _ (too_long c.args.text.now c.if-text-gt-MAX_TEXT.true) in
    record { answer = t.0; tables = t.1 }

pub returns-then-end-eq0 : goal.returns-then-end-eq0
returns-then-end-eq0 c =
    let t = told_refused _ _ _ _ (no_lines c.args.text.now c.if-text-gt-MAX_TEXT.false _ c.last_line-end.ensures c.if-end-eq0.true) in
    record { answer = t.0; tables = t.1 }

pub slice_bounds-read_lines-end : goal.slice_bounds-read_lines-end
slice_bounds-read_lines-end c = sym (length-take-le _ _ c.last_line-end.ensures.inside)

pub read_lines-requires : goal.read_lines-requires
read_lines-requires c =
    let text = c.args.text.now in
    let x = c.last_line-end.ensures in (
      front_ended text _ x (omega arith),
      omega (arith, front_length text _ x (omega arith)),
      c.requires.0,
      c.requires.1,
    )

pub returns : goal.returns
returns c =
    let text = c.args.text.now in
    let new = c.read_lines.new in
    let b = by_lines text c.if-text-gt-MAX_TEXT.false _ c.last_line-end.ensures (omega arith) in
    record {
      answer = c.read_lines.ensures.answer ∙ ap fill_answer b;
      tables = subst (λ o. Holds o new.rows new.windows) b c.read_lines.ensures.tables;
    }
