-- Laws of rows of words that are written: bits, a row copied, a bid added. Assumes nothing.
use Rattle.std.specs.Prelude.{◌≡◌, refl, Bool, true, false, List, ℕ, zero, suc, ◌+◌, ◌*◌, ◌/◌, ◌%◌, ◌^◌}
use Rattle.std.specs.Prelude.{◌≤◌, ◌<◌, eqb, length, get_or, set}
use Rattle.std.proofs.Common.{sym, ap, ◌∙◌, mul_assoc, pow-suc, arith, length-set, get_or-set_same, get_or-set_other, eqb-true}
use Rattle.std.proofs.Math.Nat.{div-div-eq-div-mul, pow-succ'}
use Rattle.std.proofs.lemmas.Bool.{eqb-false}
use Rattle.cover.specs.Sets.{bit, when}
use Rattle.cover.proofs.SetMemberLaws.{add_below}
use Rattle.single_lead.specs.Rows.{of_words, set_in}
use Rattle.single_lead.specs.RowsLaws.{words_same}
use Rattle.single_select.specs.Extend.{Off, Copied, Extended}

-- powers and bits

twice : (v k : ℕ) → v * 2 ^ suc k ≡ v * 2 ^ k * 2
twice v k = ap (λ x. v * x) (pow-suc 2 k) ∙ sym (mul_assoc v (2 ^ k) 2)

pow_add : (k m : ℕ) → 2 ^ (k + m) ≡ 2 ^ k * 2 ^ m
pow_add k zero = ap (λ x. 2 ^ x) zero_right ∙ omega arith
  where
    zero_right : k + 0 ≡ k
    zero_right = omega arith
pow_add k (suc m) = ap (λ x. 2 ^ x) next ∙ omega (arith, pow-suc 2 (k + m), twice (2 ^ k) m, pow_add k m)
  where
    next : k + suc m ≡ suc (k + m)
    next = omega arith

bit_low : (k w v i : ℕ) → i < k → bit (w + v * 2 ^ k) i ≡ bit w i
unfolding bit
bit_low zero w v i l = absurd (omega arith)
bit_low (suc k) w v zero l = let e : (w + v * 2 ^ suc k) % 2 ≡ w % 2 = omega (arith, twice v k) in ap (λ x. eqb x 1) e
bit_low (suc k) w v (suc i) l = ap (λ x. bit x i) half ∙ bit_low k (w / 2) v i (omega arith)
  where
    half : (w + v * 2 ^ suc k) / 2 ≡ w / 2 + v * 2 ^ k
    half = omega (arith, twice v k)

bit_high : (k w v i j : ℕ) → j ≡ k + i → w < 2 ^ k → bit (w + v * 2 ^ k) j ≡ bit v i
unfolding bit
bit_high zero w v i j e l =
    let a : w + v * 2 ^ 0 ≡ v = omega arith in
    let b : j ≡ i = omega arith in
    ap (λ x. bit x j) a ∙ ap (bit v) b
bit_high (suc k) w v i zero e l = absurd (omega arith)
bit_high (suc k) w v i (suc j) e l = ap (λ x. bit x j) half ∙ bit_high k (w / 2) v i j (omega arith) (omega (arith, pow-suc 2 k))
  where
    half : (w + v * 2 ^ suc k) / 2 ≡ w / 2 + v * 2 ^ k
    half = omega (arith, twice v k)

pub bit_shift : (i s : ℕ) → s / 2 ^ i % 2 ≡ when (bit s i) 1
unfolding bit
bit_shift zero s = go (eqb (s % 2) 1) refl
  where
    go : (t : Bool) → eqb (s % 2) 1 ≡ t → s / 2 ^ 0 % 2 ≡ when t 1
    go true e = omega (arith, eqb-true (s % 2) 1 e)
    go false e = omega (arith, eqb-false (s % 2) 1 e)
bit_shift (suc i) s = ap (λ x. x % 2) (ap (λ x. s / x) (pow-succ' 2 i) ∙ sym (div-div-eq-div-mul s 2 (2 ^ i))) ∙ bit_shift i (s / 2)

-- words

bit_words : (m : ℕ) (f : ℕ → ℕ) → ((j : ℕ) → j < m → f j < 18446744073709551616) → (j r : ℕ) → j < m → r < 64
    → bit (of_words f m) (j * 64 + r) ≡ bit (f j) r
unfolding of_words
bit_words zero f h j r k l = absurd (omega arith)
bit_words (suc m) f h zero r k l =
    let e : 0 * 64 + r ≡ r = omega arith in
    ap (bit (f 0 + of_words (λ j. f (suc j)) m * 18446744073709551616)) e ∙ bit_low 64 (f 0) (of_words (λ j. f (suc j)) m) r l
bit_words (suc m) f h (suc j) r k l = bit_high 64 (f 0) (of_words (λ j. f (suc j)) m) (j * 64 + r) (suc j * 64 + r) (omega arith)
    (h 0 (omega arith)) ∙ bit_words m (λ j. f (suc j)) (λ j l. h (suc j) (omega arith)) j r (omega arith) l

words_add : (m : ℕ) (f g : ℕ → ℕ) (i d : ℕ) → i < m → g i ≡ f i + d
    → ((j : ℕ) → j < m → (j ≡ i → ⊥) → g j ≡ f j)
    → of_words g m ≡ of_words f m + d * 2 ^ (i * 64)
unfolding of_words
words_add zero f g i d l e h = absurd (omega arith)
words_add (suc m) f g zero d l e h = omega (
  arith,
  words_same m (λ j. g (suc j)) (λ j. f (suc j)) (λ j k. h (suc j) (omega arith) (λ q. omega arith)),
)
words_add (suc m) f g (suc i) d l e h = omega (
  arith,
  h 0 (omega arith) (λ q. omega arith),
  words_add m (λ j. f (suc j)) (λ j. g (suc j)) i d (omega arith) e (λ j k q. h (suc j) (omega arith) (λ p. q (omega arith))),
  up,
)
  where
    up : d * 2 ^ (suc i * 64) ≡ d * 2 ^ (i * 64) * 18446744073709551616
    up =
        let q : suc i * 64 ≡ i * 64 + 64 = omega arith in
        ap (λ x. d * 2 ^ x) q ∙ ap (λ x. d * x) (pow_add (i * 64) 64) ∙ sym (mul_assoc d (2 ^ (i * 64)) 18446744073709551616)

-- rows

row_same : (xs ys : List ℕ) (p q : ℕ) → ((j : ℕ) → j < 16 → get_or xs (p * 16 + j) 0 ≡ get_or ys (q * 16 + j) 0)
    → set_in 16 xs p ≡ set_in 16 ys q
unfolding set_in
row_same xs ys p q h = words_same 16 (λ j. get_or xs (p * 16 + j) 0) (λ j. get_or ys (q * 16 + j) 0) h

-- a row of which no place was written
pub row_kept : (old new : List ℕ) (i q : ℕ) → (q ≡ i → ⊥) → ((x : ℕ) → Off i x → get_or new x 0 ≡ get_or old x 0)
    → set_in 16 new q ≡ set_in 16 old q
row_kept old new i q d h = row_same new old q q (λ j l. h (q * 16 + j) (λ u v. d (omega arith)))

pub bit_row : (sets : List ℕ) (q i : ℕ) → ((j : ℕ) → get_or sets j 0 < 18446744073709551616) → i < 1024
    → get_or sets (q * 16 + i / 64) 0 / 2 ^ (i % 64) % 2 ≡ when (bit (set_in 16 sets q) i) 1
unfolding set_in
bit_row sets q i f l =
    let e : i / 64 * 64 + i % 64 ≡ i = omega arith in
    bit_shift (i % 64) (get_or sets (q * 16 + i / 64) 0)
    ∙ ap (λ s. when s 1) (sym (bit_words 16 (λ j. get_or sets (q * 16 + j) 0) (λ j d. f (q * 16 + j)) (i / 64) (i % 64) (omega arith)
    (omega arith)) ∙ ap (bit (set_in 16 sets q)) e)

-- a word of a set without bid i has room for it
pub word_room : (sets : List ℕ) (q i : ℕ) → ((j : ℕ) → get_or sets j 0 < 18446744073709551616) → i < 1024
    → bit (set_in 16 sets q) i ≡ false
    → get_or sets (q * 16 + i / 64) 0 + 2 ^ (i % 64) < 18446744073709551616
unfolding set_in
word_room sets q i f l e =
    let z : i / 64 * 64 + i % 64 ≡ i = omega arith in
    add_below 64 (i % 64) (get_or sets (q * 16 + i / 64) 0) (omega arith)
    (sym (bit_words 16 (λ j. get_or sets (q * 16 + j) 0) (λ j d. f (q * 16 + j)) (i / 64) (i % 64) (omega arith) (omega arith))
    ∙ ap (bit (set_in 16 sets q)) z ∙ e) (f (q * 16 + i / 64))

-- a row copied, and bid i put into its word
pub row_extended : (old new : List ℕ) (from i : ℕ) → i < 1024 → i * 16 + 16 ≤ length old → Copied old new from i 16
    → Extended old (set new (i * 16 + i / 64) (get_or new (i * 16 + i / 64) 0 + 2 ^ (i % 64))) from i (2 ^ i)
unfolding set_in
row_extended old new from i l f h = record {
  sized = length-set new (i * 16 + i / 64) v ∙ h.sized;
  kept = λ x d. get_or-set_other new (i * 16 + i / 64) x v 0 (λ e. d (omega arith) (omega arith)) ∙ h.kept x d;
  is = words_add 16 (λ j. get_or old (from * 16 + j) 0) (λ j. get_or (set new (i * 16 + i / 64) v) (i * 16 + j) 0) (i / 64) (2 ^ (i % 64))
      (omega arith) here there
      ∙ ap (λ x. of_words (λ j. get_or old (from * 16 + j) 0) 16 + x) power;
}
  where
    v : ℕ
    v = get_or new (i * 16 + i / 64) 0 + 2 ^ (i % 64)

    here : get_or (set new (i * 16 + i / 64) v) (i * 16 + i / 64) 0 ≡ get_or old (from * 16 + i / 64) 0 + 2 ^ (i % 64)
    here = get_or-set_same new (i * 16 + i / 64) v 0 (omega (arith, h.sized))
        ∙ ap (λ x. x + 2 ^ (i % 64)) (h.written (i / 64) (omega arith))

    there : (j : ℕ) → j < 16 → (j ≡ i / 64 → ⊥) → get_or (set new (i * 16 + i / 64) v) (i * 16 + j) 0
        ≡ get_or old (from * 16 + j) 0
    there j d e = get_or-set_other new (i * 16 + i / 64) (i * 16 + j) v 0 (λ z. e (omega arith)) ∙ h.written j d

    power : 2 ^ (i % 64) * 2 ^ (i / 64 * 64) ≡ 2 ^ i
    power = let q : i % 64 + i / 64 * 64 ≡ i = omega arith in sym (pow_add (i % 64) (i / 64 * 64)) ∙ ap (λ x. 2 ^ x) q
