-- `read_bids` meets its contract: the lines before the walk's place are in the tables. Assumes nothing.
use Rattle.std.proofs.Common.{◌≡◌, refl, sym, ap, ◌∙◌, ◌+◌, arith, add-zero, length, Err}
use Rattle.std.proofs.lemmas.Result.{err_from_is_err_and}
use Rattle.numbers.specs.Members.{members}
use Rattle.numbers.specs.MembersLaws.{members_none, members_length, members_same}
use Rattle.reader_forms.proofs.PiecesLaws.{lines_end}
use Rattle.reader_bids.specs.FillsLaws.{walk_begins, walk_ends}
use Rattle.reader_bids.specs.PlacesLaws.{walk_goes, walk_stops}
use Rattle.reader_bids.proofs.read_bids.Goals as goal

pub loop-i-init : goal.loop-i-init
loop-i-init c =
    let pre = c.requires in
    let w = walk_begins _ _ _ _ _ _ (ap members pre.3 ∙ members_none 15625) pre.4 pre.5 in
    (rw (add-zero c.args.from) w, pre.0, refl, refl, refl, omega arith)

pub take_line-requires : goal.take_line-requires
take_line-requires c =
    let inv = c.loop-i.invariant in
    let w = inv.0 in (
      w.few_bids,
      (inv.5, c.requires.2, w.windows_long),
      sym (members_length _) ∙ w.used_long,
      w.rows_long,
      c.loop-i-test.true,
      c.requires.6,
    )

pub returns-in_err-taken : goal.returns-in_err-taken
returns-in_err-taken c =
    let e = err_from_is_err_and c.from_residual.result c.from_residual.ensures.1 in
    rw (e.1 ∙ ap Err e.2) (walk_stops _ _ _ c.args.text.now c.loop-i.i _ _ _ _ _ _ _ _ _ c.requires.6 c.loop-i-test.true
    c.loop-i.invariant.0 _ c.take_line.ensures _ c.in_err-taken.was)

pub overflow_add-m : goal.overflow_add-m
overflow_add-m c =
    let pre = c.requires in let inv = c.loop-i.invariant in let kept = c.take_line.auto in
    let g = walk_goes _ _ _ c.args.text.now c.loop-i.i _ _ _ _ _ _ _ _ _ pre.6 c.loop-i-test.true inv.0 _
    c.take_line.ensures pre.2 inv.5 (members_same _ _ kept.used) kept.rows kept.windows _ _ c.in_ok-taken.was in
    omega (arith, g.0.few_windows, g.0.few_bids)

pub loop-i-smaller : goal.loop-i-smaller
loop-i-smaller c =
    let pre = c.requires in let inv = c.loop-i.invariant in let kept = c.take_line.auto in
    let g = walk_goes _ _ _ c.args.text.now c.loop-i.i _ _ _ _ _ _ _ _ _ pre.6 c.loop-i-test.true inv.0 _
    c.take_line.ensures pre.2 inv.5 (members_same _ _ kept.used) kept.rows kept.windows _ _ c.in_ok-taken.was in
    omega (arith, g.1, g.2)

pub loop-i-preserved : goal.loop-i-preserved
loop-i-preserved c =
    let pre = c.requires in let inv = c.loop-i.invariant in let kept = c.take_line.auto in
    let g = walk_goes _ _ _ c.args.text.now c.loop-i.i _ _ _ _ _ _ _ _ _ pre.6 c.loop-i-test.true inv.0 _
    c.take_line.ensures pre.2 inv.5 (members_same _ _ kept.used) kept.rows kept.windows _ _ c.in_ok-taken.was in
    let e : c.args.from + (c.loop-i.k + 1) ≡ c.args.from + c.loop-i.k + 1 = omega arith in
    (rw e g.0, g.2, kept.used ∙ inv.2, kept.rows ∙ inv.3, kept.windows ∙ inv.4, g.3)

pub returns : goal.returns
returns c =
    let args = c.args in let inv = c.loop-i.invariant in let e : c.loop-i.i ≡ length args.text.now = omega arith in
    walk_ends _ _ _ _ _ _ _ _ _ (rw (e, lines_end args.text.now) at inv.0) (omega (arith, inv.5, inv.1, c.requires.2))
