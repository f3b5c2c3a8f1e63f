-- The runs found so far are written, and those from `from` on are left. Assumes nothing.
use Rattle.std.proofs.Common.{refl, sym, ◌∙◌, ◌*◌, arith, drop}
use Rattle.tender.specs.Tables.{windows_of, window_width}
use Rattle.writer_line.proofs.PutLaws.{putting_begins, putting_room, putting_size, putting_late, putting_goes, putting_ends}
use Rattle.writer_line.proofs.put_windows.Goals as goal

pub minutes-requires : goal.minutes-requires
minutes-requires c =
    let pre = c.requires in
    (pre.0, (pre.1.0, pre.1.1.1.0))

pub loop-from-init : goal.loop-from-init
loop-from-init c =
    let args = c.args in
    let page = args.page.now in
    (refl, putting_begins (windows_of args.count (drop (window_width * args.first) args.windows.now)) page.buf.now page.at)

pub next-run-requires : goal.next-run-requires
next-run-requires c =
    (c.minutes.ensures.wide, (omega (arith, c.loop-from.invariant.1.within), c.requires.1.1.1.1))

pub shape_of-row-then-run-ge10080 : goal.shape_of-row-then-run-ge10080
shape_of-row-then-run-ge10080 c =
    c.minutes.ensures.wide ∙ sym c.requires.1.1.1.0

pub returns-then-run-ge10080 : goal.returns-then-run-ge10080
returns-then-run-ge10080 c =
    let put = c.loop-from.invariant in
    ((put.0, putting_late put.1 c.minutes.ensures c.next-run.ensures c.if-run-ge10080.true), c.minutes.ensures.wide)

pub put_window-requires : goal.put_window-requires
put_window-requires c =
    let put = c.loop-from.invariant.1 in omega (arith, putting_room put, putting_size put, c.requires.1.1.0)

pub loop-from-smaller : goal.loop-from-smaller
loop-from-smaller c =
    let some = c.next-run.ensures.some (omega (arith, c.if-run-ge10080.false)) in
    omega (arith, some, c.next-run.ensures.on, c.loop-from-test.true)

pub loop-from-preserved : goal.loop-from-preserved
loop-from-preserved c =
    let put = c.loop-from.invariant in
    let more = c.put_window.ensures in (
      more.0 ∙ put.0,
      putting_goes put.1 c.minutes.ensures c.next-run.ensures c.requires.1.0 (omega (arith, c.if-run-ge10080.false)) more.1,
    )

pub shape_of-row : goal.shape_of-row
shape_of-row c =
    c.minutes.ensures.wide ∙ sym c.requires.1.1.1.0

pub returns : goal.returns
returns c =
    let put = c.loop-from.invariant in
    ((put.0, putting_ends put.1 c.loop-from-test.false), c.minutes.ensures.wide)
