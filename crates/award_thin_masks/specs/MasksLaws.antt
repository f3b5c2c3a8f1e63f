-- Laws of the cells in one bid and in two, seen word by word in the bids' masks. Assumes nothing.
use Rattle.std.specs.Prelude.{◌≡◌, refl, List, Bool, true, false, ℕ, zero, suc, ◌+◌, ◌-◌, ◌*◌, ◌/◌, ◌%◌}
use Rattle.std.specs.Prelude.{◌≤◌, ◌<◌, min, max, length, get_or, set, take, drop, replicate, leb, ltb, eqb}
use Rattle.std.proofs.Common.{sym, ◌∙◌, ⊎_elim, add-one, length-take-le}
use Rattle.std.proofs.Math.Path.{ap}
use native.Mathlib.Omega.{arith}
use Rattle.std.proofs.lemmas.List.{length-replicate}
use Rattle.std.proofs.Math.Seq.{get_or-take, get_or-drop}
use Rattle.std.specs.Int.Bits.{bit_and, bit_or}
use borrow.Author.Tests.{leb-true, leb-false, le-leb, lt-ltb, le-ltb, ltb-true, ltb-false, eqb-true, eqb-false}
use Rattle.cells.specs.Cells.{bit_of, cell, Next}
use Rattle.cells.proofs.BitLaws.{bit_lt, zero_bit, and_bit, or_bit}
use Rattle.cells.proofs.StoreLaws.{lt_or_le, cell_lt, set_same, set_other}
use Rattle.cover.specs.Sets.{when, bidders}
use Rattle.multi_market.specs.Market.{word_row, has, First}
use Rattle.award_thin.specs.Thin.{fewer, Reached, Gathered, FirstOf}

-- the first w words of a row of ones
pub ones_length : (w : ℕ) → w ≤ 158 → length (take w (replicate {A = ℕ} 158 1)) ≡ w
ones_length w h = length-take-le w (replicate 158 1) (omega (arith, length-replicate {A = ℕ} 158 1))

-- ---- counts up to two

flag : (c : ℕ) → c < 2 → when (eqb c 1) 1 ≡ c
flag c l = go (eqb c 1) refl
  where
    go : (b : Bool) → eqb c 1 ≡ b → when b 1 ≡ c
    go true e = omega (arith, eqb-true c 1 e)
    go false e = low (ltb 0 c) refl
      where
        low : (b : Bool) → ltb 0 c ≡ b → 0 ≡ c
        low true t = absurd (eqb-false c 1 e (omega (arith, ltb-true 0 c t)))
        low false t = omega (arith, ltb-false 0 c t)

min_zero : (v : ℕ) → min v 0 ≡ 0
min_zero v = omega arith

none_more : (b : ℕ) → max (min 1 (b - 1)) 0 ≡ min 1 (0 + b - 1)
none_more b = omega arith

full : (v : ℕ) → max (min 1 v) 1 ≡ 1
full v = omega arith

two_in : (b : ℕ) → min (min 1 (suc (suc b))) 1 ≡ 1
two_in b = omega arith

two_out : (b : ℕ) → 1 ≡ min 1 (1 + suc (suc b) - 1)
two_out b = omega arith

twice_more : (b c : ℕ) → c < 2 → max (min 1 (b - 1)) (min (min 1 b) c) ≡ min 1 (c + b - 1)
twice_more b zero l = ap (max (min 1 (b - 1))) (min_zero (min 1 b)) ∙ none_more b
twice_more zero (suc zero) l = refl
twice_more (suc zero) (suc zero) l = refl
twice_more (suc (suc b)) (suc zero) l = ap (max (min 1 (suc (suc b) - 1))) (two_in b) ∙ full (suc (suc b) - 1) ∙ two_out b
twice_more b (suc (suc c)) l = absurd (omega arith)

-- a count of two or more as a bit
count_bit : (b : ℕ) → min 1 (b - 1) ≡ when (leb 2 b) 1
count_bit b = go (leb 2 b) refl
  where
    go : (t : Bool) → leb 2 b ≡ t → min 1 (b - 1) ≡ when t 1
    go true t = omega (arith, leb-true 2 b t)
    go false t = omega (arith, leb-false 2 b t)

pub bidders_grow : (has : ℕ → ℕ → Bool) (i n x : ℕ) → i ≤ n → bidders has i x ≤ bidders has n x
unfolding bidders
bidders_grow has i zero x l = let e : i ≡ 0 = omega arith in rw e (omega arith)
bidders_grow has i (suc n) x l = ⊎_elim (λ lt. let h = bidders_grow has i n x (omega arith) in omega arith)
    (λ (le : suc n ≤ i). let e : i ≡ suc n = omega arith in rw e (omega arith)) (lt_or_le i (suc n))

-- ---- seen: bit k of `one` and of `two` say whether the first i bids have cell k of word q once and twice
pub record Seeing (ms : List ℕ) (w q i one two : ℕ) : Type 0 where
  pub once : (k : ℕ) → k < 64 → bit_of one k ≡ min 1 (bidders (has ms w) i (64 * q + k))
  pub twice : (k : ℕ) → k < 64 → bit_of two k ≡ min 1 (bidders (has ms w) i (64 * q + k) - 1)

pub seeing_none : (ms : List ℕ) (w q : ℕ) → Seeing ms w q 0 0 0
unfolding bidders
seeing_none ms w q = record { once = λ k l. zero_bit k; twice = λ k l. zero_bit k }

module _ (ms : List ℕ) (w q : ℕ) (lq : q < w) where
  -- the cells of word q of bid i are the bits of one word of the masks
  row_bit : (i k : ℕ) → k < 64 → cell (word_row ms w i) (64 * q + k) ≡ bit_of (get_or ms (w * i + q) 0) k
  unfolding cell word_row
  row_bit i k l =
      let a : (64 * q + k) / 64 ≡ q = omega arith in
      let b : (64 * q + k) % 64 ≡ k = omega arith in
      rw (a, b, get_or-take w (drop (w * i) ms) q 0 lq, get_or-drop (w * i) ms q 0)

  more : (i k : ℕ) → k < 64 → bidders (has ms w) (i + 1) (64 * q + k) ≡ bit_of (get_or ms (w * i + q) 0) k
      + bidders (has ms w) i (64 * q + k)
  unfolding bidders has
  more i k l =
      ap (λ (j : ℕ). bidders (has ms w) j (64 * q + k)) (add-one i)
      ∙ ap (λ (v : ℕ). v + bidders (has ms w) i (64 * q + k))
      (flag (cell (word_row ms w i) (64 * q + k)) (cell_lt (word_row ms w i) (64 * q + k)) ∙ row_bit i k l)

  pub seeing_more : (i one two : ℕ) → Seeing ms w q i one two
      → Seeing ms w q (i + 1) (bit_or one (get_or ms (w * i + q) 0)) (bit_or two (bit_and one (get_or ms (w * i + q) 0)))
  seeing_more i one two s = record {
    once = λ k l. or_bit one (get_or ms (w * i + q) 0) k ∙ omega (arith, s.once k l, more i k l, bit_lt (get_or ms (w * i + q) 0) k);
    twice = λ k l. or_bit two (bit_and one (get_or ms (w * i + q) 0)) k
        ∙ ap (max (bit_of two k)) (and_bit one (get_or ms (w * i + q) 0) k)
        ∙ ap (λ (v : ℕ). max v (min (bit_of one k) (bit_of (get_or ms (w * i + q) 0) k))) (s.twice k l)
        ∙ ap (λ (v : ℕ). max (min 1 (bidders (has ms w) i (64 * q + k) - 1)) (min v (bit_of (get_or ms (w * i + q) 0) k))) (s.once k l)
        ∙ twice_more (bidders (has ms w) i (64 * q + k)) (bit_of (get_or ms (w * i + q) 0) k) (bit_lt (get_or ms (w * i + q) 0) k)
        ∙ ap (λ (v : ℕ). min 1 (v - 1)) (sym (more i k l));
  }

module _ (ms : List ℕ) (w q i one two : ℕ) (s : Seeing ms w q i one two) (wanted : ℕ) where
  -- each cell wanted is in two bids, and so it is with the bids that follow
  pub reached_soon : (n : ℕ) → i ≤ n → bit_and two wanted ≡ wanted → Reached ms w n q wanted wanted
  reached_soon n l e = record {
    each = λ k lk on.
        let both : bit_of wanted k ≡ min (bit_of two k) (bit_of wanted k) = ap (λ (v : ℕ). bit_of v k) (sym e)
        ∙ and_bit two wanted k in
        let two_on : bit_of two k ≡ 1 = omega arith in
        on ∙ ap (λ b. when b 1) (sym (le-leb 2 (bidders (has ms w) n (64 * q + k))
        (omega (arith, s.twice k lk, bidders_grow (has ms w) i n (64 * q + k) l))));
  }

  pub reached_all : (n : ℕ) → i ≡ n → Reached ms w n q wanted two
  reached_all n e = rw (← e) (record { each = λ k l on. s.twice k l ∙ count_bit (bidders (has ms w) i (64 * q + k)) })

-- ---- gather: one word more
word_bit : (ws : List ℕ) (q x : ℕ) → x / 64 ≡ q → bit_of (get_or ws q 0) (x % 64) ≡ cell ws x
unfolding cell
word_bit ws q x e = ap (λ (j : ℕ). bit_of (get_or ws j 0) (x % 64)) (sym e)

pub gathered_none : (ms : List ℕ) (w n : ℕ) (wanted enough : List ℕ) → Gathered ms w n wanted enough 0
gathered_none ms w n wanted enough = record { each = λ x l. absurd (omega arith) }

pub gathered_more : (ms : List ℕ) (w n : ℕ) (wanted enough : List ℕ) (q r : ℕ) → q < length enough
    → Gathered ms w n wanted enough q
    → Reached ms w n q (get_or wanted q 0) r → Gathered ms w n wanted (set enough q r) (q + 1)
gathered_more ms w n wanted enough q r h g s = record {
  each = λ x l on. ⊎_elim (λ lt. set_other enough q h x r (λ e. omega arith) ∙ g.each x lt on) (λ le. here x (omega arith) on)
      (lt_or_le x (64 * q));
}
  where
    here : (x : ℕ) → x / 64 ≡ q → cell wanted x ≡ 1 → cell (set enough q r) x ≡ when (leb 2 (bidders (has ms w) n x)) 1
    here x e on = let d : 64 * q + x % 64 ≡ x = omega arith in
        set_same enough q h x r e ∙ s.each (x % 64) (omega arith) (word_bit wanted q x e ∙ on)
        ∙ ap (λ (y : ℕ). when (leb 2 (bidders (has ms w) n y)) 1) d

-- ---- the first cell wanted that is not among those with two bidders
module _ (ms : List ℕ) (w n L : ℕ) (wanted enough : List ℕ) (x : ℕ) (f : First L wanted) (g : Gathered ms w n wanted enough w)
    (t : Next wanted enough 0 x) (size : length wanted ≡ w) (within : L ≤ 64 * w) where
  passed : (y : ℕ) → y < x → y < L → fewer (has ms w) n 2 y ≡ false
  unfolding fewer
  passed y l h = le-ltb (bidders (has ms w) n y) 2
      (omega (
        arith,
        t.none y (omega arith) l (f.inside y h),
        g.each y (omega arith) (f.inside y h),
        count_bit (bidders (has ms w) n y),
      ))

  pub first_is : FirstOf (fewer (has ms w) n 2) L (min x L)
  unfolding fewer
  first_is = ⊎_elim
      (λ (l : x < L). let e : min x L ≡ x = omega arith in rw e (record {
        inside = omega arith;
        here = λ h. lt-ltb (bidders (has ms w) n x) 2 (omega
            (arith, t.outside (omega arith), g.each x (omega arith) (f.inside x l), count_bit (bidders (has ms w) n x)));
        before = λ y h. passed y h (omega arith);
      }))
      (λ (l : L ≤ x). let e : min x L ≡ L = omega arith in
      rw e (record { inside = omega arith; here = λ h. absurd (omega arith); before = λ y h. passed y (omega arith) h }))
      (lt_or_le x L)
