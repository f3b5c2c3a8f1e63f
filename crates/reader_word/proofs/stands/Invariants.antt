-- `stands` meets its contract: what is left of the keyword compares as all of it does. Assumes nothing.
use Rattle.std.proofs.Common.{◌≡◌, [], ◌∷◌, ◌++◌, ◌+◌, ◌≤◌, ◌<◌, drop, length}
use Rattle.reader_parts.specs.Scan.{starts_with}
use Rattle.reader_word.proofs.stands.Given as goal

abbrev pub invariant-loop-i : goal.invariant-loop-i
invariant-loop-i l =
    (starts_with (drop l.i l.word ++ 32 ∷ []) (drop (l.at + l.i) l.s) ≡ starts_with (l.word ++ 32 ∷ []) (drop l.at l.s))
    × (l.at + l.i < length l.s) × (l.i ≤ length l.word)
