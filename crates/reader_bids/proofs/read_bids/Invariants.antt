-- `read_bids` meets its contract: the lines before the walk's place are in the tables. Assumes nothing.
use Rattle.std.proofs.Common.{◌≡◌, ◌+◌, ◌-◌, ◌*◌, ◌≤◌, length, drop}
use Rattle.numbers.specs.Members.{members}
use Rattle.reader_parts.specs.Words.{cut}
use Rattle.reader_forms.specs.Line.{lines_of}
use Rattle.reader_bids.specs.FillsLaws.{Walk}
use Rattle.reader_bids.proofs.read_bids.Given as goal

abbrev pub invariant-loop-i : goal.invariant-loop-i
invariant-loop-i l =
    Walk l.tender l.from (lines_of (cut 10 (drop l.at l.text))) (lines_of (cut 10 (drop l.i l.text))) (l.from + l.k) l.k l.m
    (members l.used) l.rows l.windows
    × (l.i ≤ length l.text)
    × (length l.used ≡ length l.initial.used) × (length l.rows ≡ length l.initial.rows)
    × (length l.windows ≡ length l.initial.windows)
    × (6 * l.m ≤ l.i)

abbrev pub decreases-loop-i : goal.decreases-loop-i
decreases-loop-i l = length l.text - l.i
