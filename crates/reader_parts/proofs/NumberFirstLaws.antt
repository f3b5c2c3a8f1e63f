-- What a number read from the front goes on with, by its first digit. Assumes nothing.
use Rattle.std.specs.Prelude.{ℕ, ◌-◌, ◌≤◌, ◌≡◌, List, ◌∷◌}
use Rattle.std.proofs.Common.{arith, le-leb}
use Rattle.tender.specs.Limits.{within}
use Rattle.reader_parts.specs.Front.{got, digits_front, number_front}

pub number_first : (b : ℕ) (s : List ℕ) → 49 ≤ b → b ≤ 57 → number_front (b ∷ s) ≡ digits_front (b - 48) s
unfolding number_front within
number_first b s h k = rw (le-leb 49 b (omega arith), le-leb b 57 k)

pub number_zero_first : (b : ℕ) (s : List ℕ) → b ≡ 48 → number_front (b ∷ s) ≡ got 0 s
unfolding number_front within
number_zero_first b s p = rw p
