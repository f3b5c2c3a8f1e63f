-- The runs found so far are written, and those from `from` on are left. Assumes nothing.
use Rattle.std.proofs.Common.{◌≡◌, ◌-◌, ◌*◌, drop}
use Rattle.tender.specs.Tables.{windows_of, window_width}
use Rattle.writer_line.proofs.PutLaws.{Putting}
use Rattle.writer_line.proofs.put_windows.Given as goal

abbrev pub invariant-loop-from : goal.invariant-loop-from
invariant-loop-from l =
    let old = l.initial.page in
    let ws = windows_of l.count (drop (window_width * l.first) l.windows) in
    (l.page.buf.ghost_name ≡ old.buf.ghost_name) × Putting ws old.buf.now old.at l.page.buf.now l.page.at l.from

abbrev pub decreases-loop-from : goal.decreases-loop-from
decreases-loop-from l = 10080 - l.from
