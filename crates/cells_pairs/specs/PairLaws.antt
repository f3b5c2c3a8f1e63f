-- Laws of cells as pairs: what a pair more or another list changes, and the steps of the loops that read pairs. Assumes nothing.
use Rattle.std.specs.Prelude.{◌≡◌, refl, ◌⊎◌, Bool, true, false, ◌&&◌, ◌||◌, List, ℕ, zero, suc, ◌+◌, ◌-◌}
use Rattle.std.specs.Prelude.{◌*◌, ◌/◌, ◌%◌, ◌^◌, ◌≤◌, ◌<◌, length, get_or, set, eqb}
use Rattle.std.proofs.Common.{sym, ap₂, ◌∙◌, inl, inr, ⊎_elim}
use Rattle.std.proofs.Math.Path.{ap}
use Rattle.std.proofs.Math.Bool.{or-true}
use Rattle.std.proofs.lemmas.Bool.{false≢true}
use native.Mathlib.Omega.{arith}
use Rattle.std.specs.Int.Bits.{bit_and, and_le_l}
use Rattle.std.specs.Int.Count.{count_trailing_zeros}
use borrow.Author.Tests.{eqb-true, eq-eqb, ne_eqb}
use Rattle.cover.specs.Sets.{when}
use Rattle.cells.specs.Cells.{bit_of, cell, whole}
use Rattle.cells.proofs.BitLaws.{bit_lt, clear_bit, zero_bit}
use Rattle.cells.proofs.LowestLaws.{two, lowest_set, past_bits}
use Rattle.cells.proofs.StoreLaws.{lt_or_le, ne_or_eq, cell_lt, set_same, set_other}
use Rattle.cells_count.specs.Hops.{Counted}
use Rattle.cells_count.specs.CountsLaws.{counting_from, counting_done}
use Rattle.cells_pairs.specs.Pairs.{in_pair, in_pairs, Paired, Covering, Shut}

abbrev at : List ℕ → ℕ → ℕ
at xs q = get_or xs q 0

or_cases : (a b : Bool) → (a || b) ≡ true → (a ≡ true) ⊎ (b ≡ true)
or_cases true b e = inl refl
or_cases false b e = inr e

and_parts : (a b : Bool) → (a && b) ≡ true → (a ≡ true) × (b ≡ true)
and_parts true b e = (refl, e)
and_parts false b e = absurd (false≢true e)

-- ---- one pair: its word and its cells
pub pair_word : (pairs : List ℕ) (p x : ℕ) → in_pair pairs p x ≡ true → at pairs (2 * p) ≡ x / 64
unfolding in_pair
pair_word pairs p x h = eqb-true (at pairs (2 * p)) (x / 64)
    (and_parts (eqb (at pairs (2 * p)) (x / 64)) (eqb (bit_of (at pairs (2 * p + 1)) (x % 64)) 1) h).0

pub pair_bit : (pairs : List ℕ) (p x : ℕ) → in_pair pairs p x ≡ true → bit_of (at pairs (2 * p + 1)) (x % 64) ≡ 1
unfolding in_pair
pair_bit pairs p x h = eqb-true (bit_of (at pairs (2 * p + 1)) (x % 64)) 1
    (and_parts (eqb (at pairs (2 * p)) (x / 64)) (eqb (bit_of (at pairs (2 * p + 1)) (x % 64)) 1) h).1

-- a cell of the pair's word is in the pair where the pair's mask has its bit
pub pair_here : (pairs : List ℕ) (p x : ℕ) → at pairs (2 * p) ≡ x / 64
    → in_pair pairs p x ≡ eqb (bit_of (at pairs (2 * p + 1)) (x % 64)) 1
unfolding in_pair
pair_here pairs p x e = ap (λ (b : Bool). b && eqb (bit_of (at pairs (2 * p + 1)) (x % 64)) 1) (eq-eqb (at pairs (2 * p)) (x / 64) e)

pub pair_elsewhere : (pairs : List ℕ) (p x : ℕ) → (at pairs (2 * p) ≡ x / 64 → ⊥) → in_pair pairs p x ≡ false
unfolding in_pair
pair_elsewhere pairs p x n = ap (λ (b : Bool). b && eqb (bit_of (at pairs (2 * p + 1)) (x % 64)) 1) (ne_eqb (at pairs (2 * p)) (x / 64) n)

pair_same : (old new : List ℕ) (p : ℕ) → at new (2 * p) ≡ at old (2 * p) → at new (2 * p + 1) ≡ at old (2 * p + 1) → (x : ℕ)
    → in_pair new p x ≡ in_pair old p x
unfolding in_pair
pair_same old new p e f x =
    ap₂ (λ (v w : ℕ). eqb v (x / 64) && eqb (bit_of w (x % 64)) 1) e f

-- ---- some pairs
pub pairs_none : (pairs : List ℕ) (a x : ℕ) → in_pairs pairs a (a - a) x ≡ false
unfolding in_pairs
pairs_none pairs a x = let e : a - a ≡ 0 = omega arith in rw e

pub pairs_more : (pairs : List ℕ) (a p : ℕ) → a ≤ p → (x : ℕ)
    → in_pairs pairs a (p + 1 - a) x ≡ (in_pairs pairs a (p - a) x || in_pair pairs p x)
unfolding in_pairs
pairs_more pairs a p l x =
    let e : p + 1 - a ≡ suc (p - a) = omega arith in
    let f : a + (p - a) ≡ p = omega arith in
    ap (λ (n : ℕ). in_pairs pairs a n x) e ∙ ap (λ (j : ℕ). in_pairs pairs a (p - a) x || in_pair pairs j x) f

-- pairs depend on their own entries alone
pub pairs_same : (old new : List ℕ) (a n : ℕ)
    → ((p : ℕ) → 2 * a ≤ p → p < 2 * (a + n) → get_or new p 0 ≡ get_or old p 0)
    → (x : ℕ) → in_pairs new a n x ≡ in_pairs old a n x
unfolding in_pairs
pairs_same old new a zero h x = refl
pairs_same old new a (suc n) h x =
    ap₂ (λ (b c : Bool). b || c) (pairs_same old new a n (λ p l m. h p l (omega arith)) x)
    (pair_same old new (a + n) (h (2 * (a + n)) (omega arith) (omega arith)) (h (2 * (a + n) + 1) (omega arith) (omega arith)) x)

pub paired_same : (old new : List ℕ) (w a z : ℕ) → length new ≡ length old
    → ((p : ℕ) → 2 * a ≤ p → p < 2 * z → get_or new p 0 ≡ get_or old p 0)
    → Paired old w a z → Paired new w a z
paired_same old new w a z e h k = record {
  rising = k.rising;
  room = omega (arith, k.room);
  words = λ p l m. rw (h (2 * p) (omega arith) (omega arith)) (k.words p l m);
}

-- the pair that has the cell x
pub record Some (pairs : List ℕ) (a n x : ℕ) : Type 0 where
  pub pair : ℕ
  pub after : a ≤ pair
  pub before : pair < a + n
  pub has : in_pair pairs pair x ≡ true

pub in_some : (pairs : List ℕ) (a n x : ℕ) → in_pairs pairs a n x ≡ true → Some pairs a n x
unfolding in_pairs
in_some pairs a zero x h = absurd (false≢true h)
in_some pairs a (suc n) x h = ⊎_elim
    (λ y. let s = in_some pairs a n x y in record { pair = s.pair; after = s.after; before = omega (arith, s.before); has = s.has })
    (λ y. record { pair = a + n; after = omega arith; before = omega arith; has = y })
    (or_cases (in_pairs pairs a n x) (in_pair pairs (a + n) x) h)

pub in_of : (pairs : List ℕ) (a n p x : ℕ) → a ≤ p → p < a + n → in_pair pairs p x ≡ true → in_pairs pairs a n x ≡ true
unfolding in_pairs
in_of pairs a zero p x l m h = absurd (omega arith)
in_of pairs a (suc n) p x l m h = ⊎_elim
    (λ y. ap (λ (b : Bool). b || in_pair pairs (a + n) x) (in_of pairs a n p x l y h))
    (λ y. let e : a + n ≡ p = omega arith in rw (e, h) (or-true (in_pairs pairs a n x)))
    (lt_or_le p (a + n))

-- ---- all_held: the cells of the pairs a up to p are held
pub record HeldTo (held pairs : List ℕ) (a p : ℕ) : Type 0 where
  pub held_there : (x : ℕ) → in_pairs pairs a (p - a) x ≡ true → cell held x ≡ 1

pub held_none : (held pairs : List ℕ) (a : ℕ) → HeldTo held pairs a a
held_none held pairs a = record { held_there = λ x h. absurd (false≢true (sym (pairs_none pairs a x) ∙ h)) }

pub held_all : (held pairs : List ℕ) (a z : ℕ) → HeldTo held pairs a z → Covering held pairs a z true
held_all held pairs a z s = record { yes = λ e. s.held_there; no = λ e. absurd (false≢true (sym e)) }

module _ (held pairs : List ℕ) (a p : ℕ) (l : a ≤ p)
    (fits_word : at held (at pairs (2 * p)) < 2 ^ 64) (fits_mask : at pairs (2 * p + 1) < 2 ^ 64) where
  -- the cells of pair p that are not held
  abbrev missing : ℕ
  missing = bit_and (at pairs (2 * p + 1)) (whole - at held (at pairs (2 * p)))

  missing_bit : (k : ℕ) → k < 64 → bit_of missing k ≡ bit_of (at pairs (2 * p + 1)) k - bit_of (at held (at pairs (2 * p))) k
  missing_bit k h = clear_bit (at pairs (2 * p + 1)) (at held (at pairs (2 * p))) k fits_word h

  none_missing : missing ≡ 0 → (x : ℕ) → in_pair pairs p x ≡ true → cell held x ≡ 1
  unfolding cell
  none_missing z x h = rw (← pair_word pairs p x h) (omega (
    arith,
    missing_bit (x % 64) (omega arith),
    ap (λ (v : ℕ). bit_of v (x % 64)) z,
    zero_bit (x % 64),
    pair_bit pairs p x h,
    bit_lt (at held (at pairs (2 * p))) (x % 64),
  ))

  pub held_more : missing ≡ 0 → HeldTo held pairs a p → HeldTo held pairs a (p + 1)
  held_more z s = record {
    held_there = λ x h. ⊎_elim (λ y. s.held_there x y) (λ y. none_missing z x y)
        (or_cases (in_pairs pairs a (p - a) x) (in_pair pairs p x) (sym (pairs_more pairs a p l x) ∙ h));
  }

  -- one that is missing: the lowest
  pub held_not : (z : ℕ) → p < z → (missing ≡ 0 → ⊥) → Covering held pairs a z false
  unfolding cell
  held_not z m n = record {
    yes = λ e. absurd (false≢true e);
    no = λ e. record {
      where_it_is = x;
      paired_there = in_of pairs a (z - a) p x l (omega arith) (pair_here pairs p x (sym word) ∙ eq-eqb
          (bit_of (at pairs (2 * p + 1)) (x % 64)) 1 (rw place (omega (arith, missing_bit k inside, set_there))));
      closed_there = rw (word, place) (omega (
        arith,
        missing_bit k inside,
        set_there,
        bit_lt (at pairs (2 * p + 1)) k,
        bit_lt (at held (at pairs (2 * p))) k,
      ));
    };
  }
    where
      small : missing < 2 ^ 64
      small = omega (arith, and_le_l (at pairs (2 * p + 1)) (whole - at held (at pairs (2 * p))))

      k : ℕ
      k = count_trailing_zeros 64 missing

      set_there : bit_of missing k ≡ 1
      set_there = lowest_set 64 missing small n

      inside : k < 64
      inside = ⊎_elim (λ y. y) (λ y. absurd (omega (arith, past_bits missing k small y, set_there))) (lt_or_le k 64)

      x : ℕ
      x = 64 * at pairs (2 * p) + k

      word : x / 64 ≡ at pairs (2 * p)
      word = omega (arith, inside)

      place : x % 64 ≡ k
      place = omega (arith, inside)

-- ---- close_pairs: the cells of the pairs a up to p are cleared
pub shut_none : (old pairs : List ℕ) (a : ℕ) → Shut old (in_pairs pairs a (a - a)) old
shut_none old pairs a = record { clears = λ x. rw (pairs_none pairs a x) (omega arith) }

as_when : (v : ℕ) → v < 2 → v ≡ when (eqb v 1) 1
as_when v l = ⊎_elim (λ e. rw e) (λ e. rw e) (two v l)

clear_both : (u : ℕ) → u < 2 → (b c : Bool) → u - when b 1 - when c 1 ≡ u - when (b || c) 1
clear_both u l true true = omega arith
clear_both u l true false = omega arith
clear_both u l false c = omega arith

module _ (pairs new : List ℕ) (p : ℕ) (h : at pairs (2 * p) < length new) (fits_mask : at pairs (2 * p + 1) < 2 ^ 64) where
  abbrev left : ℕ
  left = bit_and (at new (at pairs (2 * p))) (whole - at pairs (2 * p + 1))

  word_cell : (x : ℕ) → x / 64 ≡ at pairs (2 * p) → bit_of (at new (at pairs (2 * p))) (x % 64) ≡ cell new x
  unfolding cell
  word_cell x e = rw e

  store_clears : (x : ℕ) → cell (set new (at pairs (2 * p)) left) x ≡ cell new x - when (in_pair pairs p x) 1
  store_clears x = ⊎_elim
      (λ n. set_other new (at pairs (2 * p)) h x left n
      ∙ rw (pair_elsewhere pairs p x (λ e. n (sym e))) (omega arith))
      (λ e. set_same new (at pairs (2 * p)) h x left e
      ∙ clear_bit (at new (at pairs (2 * p))) (at pairs (2 * p + 1)) (x % 64) fits_mask (omega arith)
      ∙ ap₂ (λ (v w : ℕ). v - w) (word_cell x e) (as_when (bit_of (at pairs (2 * p + 1)) (x % 64)) (omega arith)
      ∙ ap (λ (b : Bool). when b 1) (sym (pair_here pairs p x (sym e)))))
      (ne_or_eq (x / 64) (at pairs (2 * p)))

  pub shut_more : (old : List ℕ) (a : ℕ) → a ≤ p → Shut old (in_pairs pairs a (p - a)) new
      → Shut old (in_pairs pairs a (p + 1 - a)) (set new (at pairs (2 * p)) left)
  shut_more old a l s = record {
    clears = λ x. store_clears x ∙ ap (λ (v : ℕ). v - when (in_pair pairs p x) 1) (s.clears x)
        ∙ clear_both (cell old x) (cell_lt old x) (in_pairs pairs a (p - a) x) (in_pair pairs p x)
        ∙ ap (λ (b : Bool). cell old x - when b 1) (sym (pairs_more pairs a p l x));
  }

-- no sum is counted
pub counted_not : {words counts : List ℕ} → Counted words counts → Counted words (set counts (length words + 1) 0)
counted_not {words} {counts} k = counting_done 0 (counting_from k) (omega arith) (omega arith)
