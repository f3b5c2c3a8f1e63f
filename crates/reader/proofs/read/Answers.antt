-- `read` meets its contract: the text is read into tables that have room for it, and the rows are copied where the lent tables have
-- room too. Assumes nothing.
use Rattle.std.proofs.Common.{ℕ, sym, ap, ◌∙◌, arith, length-take-le, Err}
use Rattle.std.proofs.lemmas.List.{length-replicate}
use Rattle.std.proofs.lemmas.Result.{err_from_is_err_and}
use Rattle.tender.specs.Tables.{bid_table, window_table}
use Rattle.reader_fill.proofs.FillLaws.{filled_is, refused_is, few_rows, few_windows}
use Rattle.reader.proofs.TableLaws.{same_long}
use Rattle.reader.proofs.WholeLaws.{answer_refused, text_refused, bids_short, windows_short, answer_accepted}
use Rattle.reader.proofs.read.Goals as goal

pub returns-in_err-filled : goal.returns-in_err-filled
returns-in_err-filled c =
    let args = c.args in
    let e = err_from_is_err_and c.from_residual.result c.from_residual.ensures.1 in
    let x = answer_refused args.text.now args.bids.now args.windows.now _
    (text_refused args.text.now args.bids.now args.windows.now _
    (refused_is args.text.now _ c.fill.ensures.answer c.in_err-filled.was)) in
    record { answer = rw (e.1 ∙ ap Err e.2) x.0; rows = x.1; own = x.2 }

pub returns-then-bids-filled : goal.returns-then-bids-filled
returns-then-bids-filled c =
    let args = c.args in
    let h = filled_is args.text.now _ _ _ c.fill.ensures.answer c.fill.ensures.tables c.in_ok-filled.was in
    let x = answer_refused args.text.now args.bids.now args.windows.now _
    (bids_short args.text.now args.bids.now args.windows.now _ _ _ _ _ h c.if-bids-filled.true) in
    record { answer = x.0; rows = x.1; own = x.2 }

pub returns-then-windows-filled : goal.returns-then-windows-filled
returns-then-windows-filled c =
    let args = c.args in
    let h = filled_is args.text.now _ _ _ c.fill.ensures.answer c.fill.ensures.tables c.in_ok-filled.was in
    let x = answer_refused args.text.now args.bids.now args.windows.now _
    (windows_short args.text.now args.bids.now args.windows.now _ _ _ _ _ h c.if-bids-filled.false c.if-windows-filled.true) in
    record { answer = x.0; rows = x.1; own = x.2 }

pub slice_bounds-rows-end : goal.slice_bounds-rows-end
slice_bounds-rows-end c =
    let h = filled_is c.args.text.now _ _ _ c.fill.ensures.answer c.fill.ensures.tables c.in_ok-filled.was in
    omega (arith, few_rows h, c.fill.auto.rows, length-replicate {A = ℕ} bid_table 1)

pub slice_bounds-copy_from_slice-end-3 : goal.slice_bounds-copy_from_slice-end-3
slice_bounds-copy_from_slice-end-3 c =
    let h = filled_is c.args.text.now _ _ _ c.fill.ensures.answer c.fill.ensures.tables c.in_ok-filled.was in
    sym (length-take-le _ _ (omega (arith, few_rows h, c.fill.auto.rows, length-replicate {A = ℕ} bid_table 1)))

pub copy_from_slice-requires : goal.copy_from_slice-requires
copy_from_slice-requires c =
    let h = filled_is c.args.text.now _ _ _ c.fill.ensures.answer c.fill.ensures.tables c.in_ok-filled.was in
    same_long _ _ _ (omega (arith, c.if-bids-filled.false))
    (omega (arith, few_rows h, c.fill.auto.rows, length-replicate {A = ℕ} bid_table 1))

pub slice_bounds-spans-end : goal.slice_bounds-spans-end
slice_bounds-spans-end c =
    let h = filled_is c.args.text.now _ _ _ c.fill.ensures.answer c.fill.ensures.tables c.in_ok-filled.was in
    omega (arith, few_windows h, c.fill.auto.windows, length-replicate {A = ℕ} window_table 1)

pub slice_bounds-copy_from_slice-end-6 : goal.slice_bounds-copy_from_slice-end-6
slice_bounds-copy_from_slice-end-6 c =
    let h = filled_is c.args.text.now _ _ _ c.fill.ensures.answer c.fill.ensures.tables c.in_ok-filled.was in
    sym (length-take-le _ _ (omega (arith, few_windows h, c.fill.auto.windows, length-replicate {A = ℕ} window_table 1)))

pub copy_from_slice-requires-2 : goal.copy_from_slice-requires-2
copy_from_slice-requires-2 c =
    let h = filled_is c.args.text.now _ _ _ c.fill.ensures.answer c.fill.ensures.tables c.in_ok-filled.was in
    same_long _ _ _ (omega (arith, c.if-windows-filled.false))
    (omega (arith, few_windows h, c.fill.auto.windows, length-replicate {A = ℕ} window_table 1))

pub returns : goal.returns
returns c =
    let args = c.args in
    let h = filled_is args.text.now _ _ _ c.fill.ensures.answer c.fill.ensures.tables c.in_ok-filled.was in
    let y = answer_accepted args.text.now args.bids.now args.windows.now _ _ _ _ _ h c.if-bids-filled.false c.if-windows-filled.false in
    record {
      answer = y.0;
      rows = rw c.copy_from_slice.ensures.after y.1;
      own = rw c.copy_from_slice-2.ensures.after y.2;
    }
