-- The lowest bit of a word, and the next cell of one row that is not in another. Assumes nothing.
use Rattle.std.specs.Prelude.{◌≡◌, refl, ◌⊎◌, List, ℕ, zero, suc, ◌+◌, ◌-◌, ◌*◌, ◌/◌, ◌%◌, ◌^◌}
use Rattle.std.specs.Prelude.{◌≤◌, ◌<◌, length, get_or}
use Rattle.std.proofs.Common.{sym, ap, ◌∙◌, inl, inr, ⊎_elim, pow-suc, not-suc-le-zero, arith, shr-shr, pow_mono}
use Rattle.std.proofs.Math.Nat.{div-eq_of_lt}
use Rattle.std.proofs.lemmas.Nat.{shr_le, and_le_l}
use Rattle.std.specs.Int.Bits.{bit_and}
use Rattle.std.specs.Int.Count.{count_trailing_zeros, under}
use Rattle.cells.specs.Cells.{cell, bit_of, whole, Next}
use Rattle.cells.proofs.BitLaws.{bit_suc, clear_bit, zero_bit}
use Rattle.cells.proofs.StoreLaws.{lt_or_le}

abbrev at : List ℕ → ℕ → ℕ
at xs q = get_or xs q 0

pub two : (x : ℕ) → x < 2 → (x ≡ 0) ⊎ (x ≡ 1)
two zero l = inl refl
two (suc x) l = inr (omega arith)

-- below the lowest bit no bit is set
pub lowest_none : (d n j : ℕ) → j < count_trailing_zeros d n → bit_of n j ≡ 0
unfolding count_trailing_zeros
lowest_none zero n j l = absurd (omega arith)
lowest_none (suc d) n j l = go (two (n % 2) (omega arith)) j l (lowest_none d (n / 2))
  where
    go : (n % 2 ≡ 0) ⊎ (n % 2 ≡ 1) → (j : ℕ) → j < under (n % 2) (count_trailing_zeros d (n / 2))
        → ((j : ℕ) → j < count_trailing_zeros d (n / 2) → bit_of (n / 2) j ≡ 0) → bit_of n j ≡ 0
    go (inr o) j l ih = absurd (not-suc-le-zero (rw o at l))
    go (inl e) zero l ih = omega arith
    go (inl e) (suc j) l ih = bit_suc n j ∙ ih j (omega (arith, rw e at l))

-- the lowest bit is set
pub lowest_set : (d n : ℕ) → n < 2 ^ d → (n ≡ 0 → ⊥) → bit_of n (count_trailing_zeros d n) ≡ 1
unfolding count_trailing_zeros
lowest_set zero n l z = absurd (z (omega arith))
lowest_set (suc d) n l z = go (two (n % 2) (omega arith)) (lowest_set d (n / 2) (omega (arith, pow-suc 2 d)))
  where
    go : (n % 2 ≡ 0) ⊎ (n % 2 ≡ 1) → ((n / 2 ≡ 0 → ⊥) → bit_of (n / 2) (count_trailing_zeros d (n / 2)) ≡ 1)
        → bit_of n (under (n % 2) (count_trailing_zeros d (n / 2))) ≡ 1
    go (inr o) ih = rw o (omega arith)
    go (inl e) ih = rw e (bit_suc n (count_trailing_zeros d (n / 2)) ∙ ih (λ y. z (omega arith)))

-- no bit of a word is past its 64
pub past_bits : (m j : ℕ) → m < 2 ^ 64 → 64 ≤ j → bit_of m j ≡ 0
past_bits m j l h = ap (λ (x : ℕ). x % 2) (div-eq_of_lt (omega (arith, pow_mono h)))

pub shifted_bit : (m s j : ℕ) → bit_of (m / 2 ^ s) j ≡ bit_of m (s + j)
shifted_bit m s j = ap (λ (x : ℕ). x % 2) (shr-shr m s j)

-- the cells of word q that are in a and not in b
module _ (a b : List ℕ) (q : ℕ) (fa : at a q < 2 ^ 64) (fb : at b q < 2 ^ 64) where
  abbrev free : ℕ
  free = bit_and (at a q) (whole - at b q)

  free_small : free < 2 ^ 64
  free_small = omega (arith, and_le_l (at a q) (whole - at b q))

  free_none : (x : ℕ) → x / 64 ≡ q → bit_of free (x % 64) ≡ 0 → cell a x ≡ 1 → cell b x ≡ 1
  unfolding cell
  free_none x e z u = rw e (omega (arith, rw e at u, clear_bit (at a q) (at b q) (x % 64) fb (omega arith)))

  free_found : (x : ℕ) → x / 64 ≡ q → bit_of free (x % 64) ≡ 1 → (cell a x ≡ 1) × (cell b x ≡ 0)
  unfolding cell
  free_found x e z = rw e ((
    omega (arith, clear_bit (at a q) (at b q) (x % 64) fb (omega arith)),
    omega (arith, clear_bit (at a q) (at b q) (x % 64) fb (omega arith)),
  ))

  module _ (s : ℕ) (hs : s < 64) where
    -- from bit s on the word has no such cell
    pub none_here : free / 2 ^ s ≡ 0 → (x : ℕ) → 64 * q + s ≤ x → x < 64 * (q + 1) → cell a x ≡ 1 → cell b x ≡ 1
    none_here z x l m = free_none x (omega arith) (ap (λ (j : ℕ). bit_of free j) (omega arith) ∙ sym (shifted_bit free s (x % 64 - s))
        ∙ rw z (zero_bit (x % 64 - s)))

    -- or the first such cell
    pub first_here : (free / 2 ^ s ≡ 0 → ⊥) → q < length a
        → Next a b (64 * q + s) (64 * q + s + count_trailing_zeros 64 (free / 2 ^ s))
    first_here n l = record {
      on = omega arith;
      within = omega (arith, inside);
      none = λ x y z. free_none x (omega (arith, inside))
          (ap (λ (j : ℕ). bit_of free j) (omega (arith, inside)) ∙ sym (shifted_bit free s (x - (64 * q + s)))
          ∙ lowest_none 64 (free / 2 ^ s) (x - (64 * q + s)) (omega arith));
      inside = λ y. found.0;
      outside = λ y. found.1;
    }
      where
        t : ℕ
        t = count_trailing_zeros 64 (free / 2 ^ s)

        is_set : bit_of free (s + t) ≡ 1
        is_set = sym (shifted_bit free s t) ∙ lowest_set 64 (free / 2 ^ s) (omega (arith, shr_le free s, free_small)) n

        inside : s + t < 64
        inside = ⊎_elim (λ y. y) (λ y. absurd (omega (arith, past_bits free (s + t) free_small y, is_set))) (lt_or_le (s + t) 64)

        found : (cell a (64 * q + s + t) ≡ 1) × (cell b (64 * q + s + t) ≡ 0)
        found = free_found (64 * q + s + t) (omega (arith, inside)) (ap (λ (j : ℕ). bit_of free j) (omega (arith, inside)) ∙ is_set)

-- a search that found nothing up to m goes on from there
pub search_on : {a b : List ℕ} {from m r : ℕ} → from ≤ m
    → ((x : ℕ) → from ≤ x → x < m → cell a x ≡ 1 → cell b x ≡ 1) → Next a b m r
    → Next a b from r
search_on {a} {b} {from} {m} {r} l h n = record {
  on = omega (arith, n.on);
  within = n.within;
  none = λ x y z u. ⊎_elim (λ v. h x y v u) (λ v. n.none x v z u) (lt_or_le x m);
  inside = n.inside;
  outside = n.outside;
}

pub search_over : (a b : List ℕ) (from : ℕ) → 64 * length a ≤ from → from ≤ 64 * length a → Next a b from (64 * length a)
search_over a b from l m = record {
  on = m;
  within = omega arith;
  none = λ x y z. absurd (omega arith);
  inside = λ y. absurd (omega arith);
  outside = λ y. absurd (omega arith);
}

-- the same for a whole word, and for a place
module _ (a b : List ℕ) (q : ℕ) (fa : at a q < 2 ^ 64) (fb : at b q < 2 ^ 64) where
  whole_word : bit_and (at a q) (whole - at b q) / 2 ^ 0 ≡ bit_and (at a q) (whole - at b q)
  whole_word = omega arith

  pub first_in_word : (bit_and (at a q) (whole - at b q) ≡ 0 → ⊥) → q < length a
      → Next a b (64 * q) (64 * q + count_trailing_zeros 64 (bit_and (at a q) (whole - at b q)))
  first_in_word n l = let e : 64 * q + 0 ≡ 64 * q = omega arith in
      rw (whole_word, e) at (first_here a b q fa fb 0 (omega arith) (λ z. n (sym whole_word ∙ z)) l)

  pub none_in_word : (first : ℕ) → bit_and (at a q) (whole - at b q) ≡ 0
      → ((x : ℕ) → 64 * first ≤ x → x < 64 * q → cell a x ≡ 1 → cell b x ≡ 1)
      → (x : ℕ) → 64 * first ≤ x → x < 64 * (q + 1) → cell a x ≡ 1 → cell b x ≡ 1
  none_in_word first z h x l m u = ⊎_elim (λ y. h x l y u)
      (λ y. none_here a b q fa fb 0 (omega arith) (whole_word ∙ z) x (omega arith) m u) (lt_or_le x (64 * q))

module _ (a b : List ℕ) (from : ℕ) (fa : at a (from / 64) < 2 ^ 64) (fb : at b (from / 64) < 2 ^ 64) where
  place : 64 * (from / 64) + from % 64 ≡ from
  place = omega arith

  pub first_at : (bit_and (at a (from / 64)) (whole - at b (from / 64)) / 2 ^ (from % 64) ≡ 0 → ⊥) → from / 64 < length a
      → Next a b from (from + count_trailing_zeros 64 (bit_and (at a (from / 64)) (whole - at b (from / 64)) / 2 ^ (from % 64)))
  first_at n l = carry (64 * (from / 64) + from % 64) place
      (count_trailing_zeros 64 (bit_and (at a (from / 64)) (whole - at b (from / 64)) / 2 ^ (from % 64)))
      (first_here a b (from / 64) fa fb (from % 64) (omega arith) n l)
    where
      carry : (y : ℕ) → y ≡ from → (t : ℕ) → Next a b y (y + t) → Next a b from (from + t)
      carry y e t x = rw (← e) x

  pub none_at : bit_and (at a (from / 64)) (whole - at b (from / 64)) / 2 ^ (from % 64) ≡ 0 → (x : ℕ) → from ≤ x
      → x < 64 * (from / 64 + 1)
      → cell a x ≡ 1 → cell b x ≡ 1
  none_at z x l m = none_here a b (from / 64) fa fb (from % 64) (omega arith) z x (omega arith) m
