-- Laws of sums of cells. Assumes nothing.
use Rattle.std.specs.Prelude.{◌≡◌, refl, List, ℕ, zero, suc, ◌+◌, ◌*◌, ◌/◌, ◌%◌, ◌^◌, ◌≤◌, ◌<◌, min}
use Rattle.std.specs.Prelude.{get_or}
use Rattle.std.proofs.Common.{sym, ap, ap₂, ◌∙◌, add-zero, add-suc, pow-suc, lt_of_le_of_lt, arith}
use Rattle.std.proofs.Math.Arith.{lt-one}
use Rattle.std.specs.Int.Bits.{bit_and}
use Rattle.std.proofs.lemmas.Nat.{and_le_l}
use Rattle.std.specs.Int.Count.{ones, ones_step}
use Rattle.cells.specs.Cells.{bit_of, cell, total, both}
use Rattle.cells.proofs.BitLaws.{bit_suc, and_bit}

pub total_ext : (f g : ℕ → ℕ) (n : ℕ) → ((i : ℕ) → i < n → f i ≡ g i) → total f n ≡ total g n
unfolding total
total_ext f g zero h = refl
total_ext f g (suc n) h = ap₂ (λ (x y : ℕ). x + y) (total_ext f g n (λ i hi. h i (omega arith))) (h n (omega arith))

pub total_add : (f : ℕ → ℕ) (m n : ℕ) → total f (m + n) ≡ total f m + total (λ i. f (m + i)) n
unfolding total
total_add f m zero = ap (total f) (add-zero m) ∙ sym (add-zero (total f m))
total_add f m (suc n) = ap (total f) (add-suc m n) ∙ omega (arith, total_add f m n)

pub total_le : (f : ℕ → ℕ) (n : ℕ) → ((i : ℕ) → i < n → f i < 2) → total f n ≤ n
unfolding total
total_le f zero h = omega arith
total_le f (suc n) h = omega (arith, total_le f n (λ i hi. h i (omega arith)), h n (omega arith))

total_shift : (f : ℕ → ℕ) (n : ℕ) → total f (suc n) ≡ f 0 + total (λ i. f (suc i)) n
unfolding total
total_shift f zero = omega arith
total_shift f (suc n) = omega (arith, total_shift f n)

-- a number of n bits has as many set bits as the sum of its bits
pub ones_total : (n w : ℕ) → w < 2 ^ n → ones w ≡ total (bit_of w) n
unfolding total ones
ones_total zero w h = ap ones (lt-one h)
ones_total (suc n) w h =
    ones_step w
    ∙ ap₂ (λ (x y : ℕ). x + y) (ap (λ (x : ℕ). x % 2) (omega arith))
    (ones_total n (w / 2) (omega (arith, pow-suc 2 n))
    ∙ total_ext (bit_of (w / 2)) (λ i. bit_of w (suc i)) n (λ i hi. sym (bit_suc w i)))
    ∙ sym (total_shift (bit_of w) n)

-- cell 64 q + k is bit k of word q
pub cell_at : (ws : List ℕ) (q k : ℕ) → k < 64 → cell ws (64 * q + k) ≡ bit_of (get_or ws q 0) k
unfolding cell
cell_at ws q k h = ap₂ (λ (x y : ℕ). bit_of (get_or ws x 0) y) (omega arith) (omega arith)

-- one word more: the cells 64 q up to 64 (q + 1)
pub word_more : (a b : List ℕ) (q : ℕ) → get_or a q 0 < 2 ^ 64
    → total (both a b) (64 * (q + 1)) ≡ total (both a b) (64 * q) + ones (bit_and (get_or a q 0) (get_or b q 0))
unfolding both
word_more a b q h =
    ap (total (both a b)) (omega arith) ∙ total_add (both a b) (64 * q) 64
    ∙ ap (λ (x : ℕ). total (both a b) (64 * q) + x)
    (total_ext (λ i. both a b (64 * q + i)) (bit_of (bit_and (get_or a q 0) (get_or b q 0))) 64
    (λ i hi. ap₂ min (cell_at a q i hi) (cell_at b q i hi) ∙ sym (and_bit (get_or a q 0) (get_or b q 0) i))
    ∙ sym (ones_total 64 (bit_and (get_or a q 0) (get_or b q 0)) (lt_of_le_of_lt (and_le_l (get_or a q 0) (get_or b q 0)) h)))

pub both_lt : (a b : List ℕ) (x : ℕ) → both a b x < 2
unfolding both cell
both_lt a b x = omega arith

pub total_both_le : (a b : List ℕ) (n : ℕ) → total (both a b) n ≤ n
total_both_le a b n = total_le (both a b) n (λ i hi. both_lt a b i)

pub none : (a b : List ℕ) → total (both a b) 0 ≡ 0
unfolding total
none a b = refl
