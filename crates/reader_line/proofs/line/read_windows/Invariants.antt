-- `read_windows` meets its contract: what is left of the line adds to what was read. Assumes nothing.
use Rattle.std.proofs.Common.{◌≡◌, ◌+◌, ◌-◌, ◌*◌, ◌≤◌, ◌<◌, length, take, drop, None}
use Rattle.tender.specs.Tables.{window_width}
use Rattle.reader_forms.specs.LineFront.{windows_front}
use Rattle.reader_line.specs.Answer.{tallied_front}
use Rattle.reader_line.proofs.line.read_windows.Given as goal

abbrev pub invariant-loop-w : goal.invariant-loop-w
invariant-loop-w l =
    (tallied_front l.m l.count l.flaw l.windows (windows_front (drop l.p l.s))
    ≡ tallied_front l.m 0 None l.initial.windows (windows_front (drop l.at l.s)))
    × (6 * (l.m + l.count) ≤ l.p) × (l.p < length l.s) × (length l.windows ≡ length l.initial.windows)
    × (take (window_width * l.m) l.windows ≡ take (window_width * l.m) l.initial.windows)

abbrev pub decreases-loop-w : goal.decreases-loop-w
decreases-loop-w l = length l.s - l.p
