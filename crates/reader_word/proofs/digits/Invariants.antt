-- `digits` meets its contract: what the digits from here on add is what they add from the start. Assumes nothing.
use Rattle.std.proofs.Common.{◌≡◌, ◌-◌, ◌≤◌, ◌<◌, drop, length}
use Rattle.reader_parts.specs.Front.{digits_front}
use Rattle.reader_word.proofs.digits.Given as goal

abbrev pub invariant-loop-value : goal.invariant-loop-value
invariant-loop-value l =
    (digits_front l.value (drop l.next l.s) ≡ digits_front l.first (drop l.at l.s)) × (l.at ≤ l.next) × (l.next < length l.s)

abbrev pub decreases-loop-value : goal.decreases-loop-value
decreases-loop-value l = length l.s - l.next
