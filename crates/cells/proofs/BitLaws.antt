-- Laws of one bit of a number. Assumes nothing.
use Rattle.std.specs.Prelude.{◌≡◌, refl, ℕ, zero, suc, ◌-◌, ◌/◌, ◌%◌, ◌^◌, ◌≤◌, ◌<◌, min, max}
use Rattle.std.proofs.Common.{sym, ap, ◌∙◌, add_comm, pow-suc, not-suc-le-zero, le_of_suc-le-suc, add-one, arith, pow_pos, shr-shr}
use Rattle.std.proofs.Math.Nat.{zero-div}
use Rattle.std.specs.Int.Bits.{bit_and, bit_or, and_step, or_step}
use Rattle.std.proofs.lemmas.Nat.{and_shr, or_shr}
use Rattle.cells.specs.Cells.{bit_of}

pub bit_lt : (w k : ℕ) → bit_of w k < 2
bit_lt w k = omega arith

-- the next bit of w is this bit of its half
pub bit_suc : (w k : ℕ) → bit_of w (suc k) ≡ bit_of (w / 2) k
bit_suc w k = ap (λ (j : ℕ). w / 2 ^ j % 2) (sym (add-one k) ∙ add_comm k 1) ∙ ap (λ (x : ℕ). x % 2) (sym (shr-shr w 1 k))

and_low : (a b : ℕ) → bit_and a b % 2 ≡ min (a % 2) (b % 2)
and_low a b = omega (arith, and_step a b)

or_low : (a b : ℕ) → bit_or a b % 2 ≡ max (a % 2) (b % 2)
or_low a b = omega (arith, or_step a b)

pub and_bit : (a b k : ℕ) → bit_of (bit_and a b) k ≡ min (bit_of a k) (bit_of b k)
and_bit a b k = ap (λ (x : ℕ). x % 2) (and_shr a b k) ∙ and_low (a / 2 ^ k) (b / 2 ^ k)

pub or_bit : (a b k : ℕ) → bit_of (bit_or a b) k ≡ max (bit_of a k) (bit_of b k)
or_bit a b k = ap (λ (x : ℕ). x % 2) (or_shr a b k) ∙ or_low (a / 2 ^ k) (b / 2 ^ k)

-- the bits of the complement
not_half : (n m : ℕ) → m < 2 ^ suc n → (2 ^ suc n - 1 - m) / 2 ≡ 2 ^ n - 1 - m / 2
not_half n m h = omega (arith, pow-suc 2 n, pow_pos n)

pub not_bit : (n m k : ℕ) → m < 2 ^ n → k < n → bit_of (2 ^ n - 1 - m) k ≡ 1 - bit_of m k
not_bit zero m k h hk = absurd (not-suc-le-zero hk)
not_bit (suc n) m zero h hk = omega (arith, pow-suc 2 n, pow_pos n)
not_bit (suc n) m (suc k) h hk =
    bit_suc (2 ^ suc n - 1 - m) k ∙ ap (λ (x : ℕ). bit_of x k) (not_half n m h)
    ∙ not_bit n (m / 2) k (omega (arith, pow-suc 2 n)) (le_of_suc-le-suc hk)
    ∙ ap (λ (x : ℕ). 1 - x) (sym (bit_suc m k))

-- the number of k set bits: bit j is set just where j < k
ones_pred : (k : ℕ) → (2 ^ suc k - 1) / 2 ≡ 2 ^ k - 1
ones_pred k = omega (arith, pow-suc 2 k, pow_pos k)

pub ones_in : (k j : ℕ) → j < k → bit_of (2 ^ k - 1) j ≡ 1
ones_in zero j h = absurd (not-suc-le-zero h)
ones_in (suc k) zero h = omega (arith, pow-suc 2 k, pow_pos k)
ones_in (suc k) (suc j) h = bit_suc (2 ^ suc k - 1) j ∙ ap (λ (x : ℕ). bit_of x j) (ones_pred k) ∙ ones_in k j (le_of_suc-le-suc h)

pub zero_bit : (j : ℕ) → bit_of 0 j ≡ 0
zero_bit j = ap (λ (x : ℕ). x % 2) (zero-div (2 ^ j))

pub ones_out : (k j : ℕ) → k ≤ j → bit_of (2 ^ k - 1) j ≡ 0
ones_out zero j h = zero_bit j
ones_out (suc k) zero h = absurd (not-suc-le-zero h)
ones_out (suc k) (suc j) h = bit_suc (2 ^ suc k - 1) j ∙ ap (λ (x : ℕ). bit_of x j) (ones_pred k) ∙ ones_out k j (le_of_suc-le-suc h)

-- `a & !m` on words
pub clear_bit : (a m k : ℕ) → m < 2 ^ 64 → k < 64 → bit_of (bit_and a (18446744073709551615 - m)) k ≡ bit_of a k - bit_of m k
clear_bit a m k h hk =
    and_bit a (18446744073709551615 - m) k ∙ ap (min (bit_of a k)) (not_bit 64 m k h hk) ∙ omega arith

power_half : (k : ℕ) → 2 ^ suc k / 2 ≡ 2 ^ k
power_half k = omega (arith, pow-suc 2 k)

-- the number of one set bit: bit j is set just where j is k
pub power_in : (k : ℕ) → bit_of (2 ^ k) k ≡ 1
power_in zero = refl
power_in (suc k) = bit_suc (2 ^ suc k) k ∙ ap (λ (x : ℕ). bit_of x k) (power_half k) ∙ power_in k

pub power_out : (k j : ℕ) → (j ≡ k → ⊥) → bit_of (2 ^ k) j ≡ 0
power_out zero zero h = absurd (h refl)
power_out zero (suc j) h = bit_suc 1 j ∙ zero_bit j
power_out (suc k) zero h = omega (arith, pow-suc 2 k)
power_out (suc k) (suc j) h = bit_suc (2 ^ suc k) j ∙ ap (λ (x : ℕ). bit_of x j) (power_half k) ∙ power_out k j (λ e. h (ap suc e))
