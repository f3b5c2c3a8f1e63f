-- Digits and their value, and when a word of digits spells a number. Assumes nothing.
use Rattle.std.specs.Prelude.{ℕ, ◌+◌, ◌*◌, ◌≤◌, ◌<◌, ◌^◌, ◌≡◌, refl, List, [], ◌∷◌, true, false, length}
use Rattle.std.specs.Prelude.{get_or}
use Rattle.std.proofs.Common.{arith, pow-suc, add-one, lit<, le-leb, ne_eqb}
use Rattle.std.proofs.Math.Nat.{pow-le-pow_right}
use Rattle.std.proofs.lemmas.Bool.{lt-leb}
use Rattle.tender.specs.Limits.{within}
use Rattle.reader_parts.specs.Words.{digits, leading_zero, numeral_of}

pub inside : (b : ℕ) → 48 ≤ b → b < 58 → within 48 57 b ≡ true
unfolding within
inside b h k = simp (le-leb 48 b h, le-leb b 57 (omega arith))

pub digits_below : (b : ℕ) → b < 48 → within 48 57 b ≡ false
unfolding within
digits_below b h = simp (lt-leb 48 b h)

-- one more digit keeps the value below the power of ten
pub ten_more : (v n d : ℕ) → v < 10 ^ n → d ≤ 9 → v * 10 + d < 10 ^ (n + 1)
ten_more v n d h k = rw (add-one n, pow-suc 10 n) (omega arith)

pub ten_below : (v n : ℕ) → v < 10 ^ n → n ≤ 8 → v < 100000000
ten_below v n h k = omega (arith, pow-le-pow_right {n = 10} (lit< tt) k)

-- when a word spells a number

pub leading_other : (w : List ℕ) → (get_or w 0 0 ≡ 48 → ⊥) → leading_zero w ≡ false
unfolding leading_zero
leading_other [] e = refl
leading_other (b ∷ []) e = refl
leading_other (b ∷ c ∷ w) e = ne_eqb b 48 e

pub number_digits : (w : List ℕ) → (length w ≡ 0 → ⊥) → length w ≤ 9 → leading_zero w ≡ false
    → numeral_of w ≡ digits 0 w
unfolding numeral_of
number_digits w h k e = let l : 1 ≤ length w = omega arith in simp (le-leb 1 (length w) l, le-leb (length w) 9 k, e)
