-- `read_lines` meets its contract: the head, the bids and the rest settle the answer. Assumes nothing.
use Rattle.std.proofs.Common.{refl, ap, ◌∙◌, arith, Err}
use Rattle.std.proofs.lemmas.Result.{err_from_is_err_and}
use Rattle.reader_text.proofs.HeadLaws.{head_short}
use Rattle.reader_fill.proofs.LinesReadLaws.{told_refused, told_accepted, head_refused, bids_refused, rest_refused}
use Rattle.reader_fill.proofs.read_lines.Goals as goal

pub returns-in_err-head : goal.returns-in_err-head
returns-in_err-head c =
    let e = err_from_is_err_and c.from_residual.result c.from_residual.ensures.1 in
    let t = told_refused _ _ _ _ (head_refused _ _ _ c.in_err-head.ensures) in
    record { answer = rw (e.1 ∙ ap Err e.2) t.0; tables = t.1 }

pub read_bids-requires : goal.read_bids-requires
read_bids-requires c =
    let pre = c.requires in
    let b = c.in_ok-head.ensures in
    (b.inside, head_short _ _ _ _ b.lines, pre.1, refl, pre.2, pre.3, pre.0)

pub returns-in_err-counts : goal.returns-in_err-counts
returns-in_err-counts c =
    let e = err_from_is_err_and c.from_residual-in_err-counts.result c.from_residual-in_err-counts.ensures.1 in
    let t = told_refused _ _ _ _ (bids_refused _ _ _ _ c.in_ok-head.ensures.lines _ _ c.in_err-counts.ensures) in
    record { answer = rw (e.1 ∙ ap Err e.2) t.0; tables = t.1 }

pub overflow_add-line : goal.overflow_add-line
overflow_add-line c =
    omega (arith, head_short _ _ _ _ c.in_ok-head.ensures.lines, c.in_ok-counts.ensures.few_bids)

pub returns-then-rest : goal.returns-then-rest
returns-then-rest c =
    let t = told_refused _ _ _ _ (rest_refused _ _ _ _ c.in_ok-head.ensures.lines _ _ _ _ c.in_ok-counts.ensures _ c.if-rest.true) in
    record { answer = t.0; tables = t.1 }

pub returns : goal.returns
returns c =
    let t = told_accepted _ _ _ _ c.in_ok-head.ensures.lines _ _ _ _ c.in_ok-counts.ensures _ c.if-rest.false in
    record { answer = t.0; tables = t.1 }
