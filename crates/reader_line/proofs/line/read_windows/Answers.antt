-- `read_windows` meets its contract: what is left of the line adds to what was read. Assumes nothing.
use Rattle.std.proofs.Common.{sym, ap, ◌∙◌, ◌+◌, ◌*◌, arith, take}
use Rattle.tender.specs.Tables.{window_width}
use Rattle.reader_parts.proofs.PlaceLaws.{not_last, window_further}
use Rattle.reader_line.proofs.TallyLaws.{rows_before, tally_wrong, tally_more, tally_last, tally_unended}
use Rattle.reader_line.proofs.line.read_windows.Goals as goal

pub returns-in_err-w-clause-answer : goal.returns-in_err-w-clause-answer
returns-in_err-w-clause-answer c =
    let l = c.loop-w in
    rw c.from_residual.ensures
    (sym (tally_wrong c.args.s.now c.args.m l.count l.flaw l.windows l.p c.in_err-w.ensures) ∙ l.invariant.0)

pub returns-then-s-p-ne10-clause-answer : goal.returns-then-s-p-ne10-clause-answer
returns-then-s-p-ne10-clause-answer c =
    let s = c.args.s.now in
    let l = c.loop-w in
    let x = c.in_ok-w.ensures in
    let d = c.if-s-p-eq41.true in
    let k = not_last s _ c.requires.1.1 x.inside (λ e. omega (arith, e, d)) in
    sym (tally_unended s c.args.m l.count l.flaw l.windows l.p _ _ x d k c.if-s-p-ne10.true) ∙ l.invariant.0

pub returns-then-s-p-ne10-clause-rows : goal.returns-then-s-p-ne10-clause-rows
returns-then-s-p-ne10-clause-rows c =
    let l = c.loop-w in
    ap (take (window_width * c.args.m)) c.put_window.ensures
    ∙ rows_before l.windows c.args.m (c.args.m + l.count) _ (omega arith) ∙ l.invariant.4

pub returns-then-s-p-eq41-clause-answer : goal.returns-then-s-p-eq41-clause-answer
returns-then-s-p-eq41-clause-answer c =
    let s = c.args.s.now in
    let l = c.loop-w in
    let x = c.in_ok-w.ensures in
    let d = c.if-s-p-eq41.true in
    let k = not_last s _ c.requires.1.1 x.inside (λ e. omega (arith, e, d)) in
    rw (c.worse-flaw.ensures, c.put_window.ensures)
    (sym (tally_last s c.args.m l.count l.flaw l.windows l.p _ _ x d k c.if-s-p-ne10.false) ∙ l.invariant.0)

pub returns-then-s-p-eq41-clause-rows : goal.returns-then-s-p-eq41-clause-rows
returns-then-s-p-eq41-clause-rows c =
    let l = c.loop-w in
    ap (take (window_width * c.args.m)) c.put_window.ensures
    ∙ rows_before l.windows c.args.m (c.args.m + l.count) _ (omega arith) ∙ l.invariant.4

pub loop-w-preserved : goal.loop-w-preserved
loop-w-preserved c =
    let s = c.args.s.now in
    let l = c.loop-w in
    let x = c.in_ok-w.ensures in (
      rw (c.worse-flaw.ensures, c.put_window.ensures)
          (sym (tally_more s c.args.m l.count l.flaw l.windows l.p _ _ x c.if-s-p-eq41.false) ∙ l.invariant.0),
      omega (arith, window_further s l.p (l.p + 2) _ _ x, l.invariant.1),
      x.inside,
      c.put_window.auto.windows ∙ l.invariant.3,
      ap (take (window_width * c.args.m)) c.put_window.ensures
          ∙ rows_before l.windows c.args.m (c.args.m + l.count) _ (omega arith) ∙ l.invariant.4,
    )
