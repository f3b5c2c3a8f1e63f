-- Laws of a store to one word, cell by cell, and the steps of the two loops that store. Assumes nothing.
use Rattle.std.specs.Prelude.{◌≡◌, refl, ◌⊎◌, Bool, true, false, ◌&&◌, ◌||◌, List, length, set, leb, ltb, eqb}
use Rattle.std.proofs.Common.{sym, ap₂, ◌∙◌, inl, inr, ⊎_elim, arith, get_or-set_same, get_or-set_other, leb-true, leb-false}
use Rattle.std.proofs.Common.{ltb-true, ltb-false, eq-eqb, pow_mono, shl_exact}
use Rattle.std.proofs.Math.Path.{ap}
use Rattle.std.proofs.Math.Bool.{or-true, or-false}
use Prim.Native.Nat.{ℕ, zero, suc, ◌+◌, ◌-◌, ◌*◌, ◌/◌, ◌%◌, ◌^◌, ◌≤◌, ◌<◌, zero-le, suc-le-suc, max}
use Rattle.std.proofs.Math.ListN.{get_or, get_or-eq_default}
use Rattle.std.specs.Int.Bits.{bit_and, bit_or}
use Rattle.cells.specs.Cells.{bit_of, cell, Closed, Span, RangeAdded}
use Rattle.cells.proofs.BitLaws.{or_bit, clear_bit, zero_bit, ones_in, ones_out, power_in, power_out}
use Rattle.std.proofs.Math.Pow.{ones_lt}

pub lt_or_le : (a b : ℕ) → (a < b) ⊎ (b ≤ a)
lt_or_le a zero = inr zero-le
lt_or_le zero (suc b) = inl (suc-le-suc zero-le)
lt_or_le (suc a) (suc b) = ⊎_elim (λ h. inl (suc-le-suc h)) (λ h. inr (suc-le-suc h)) (lt_or_le a b)

pub ne_or_eq : (a b : ℕ) → (a ≡ b → ⊥) ⊎ (a ≡ b)
ne_or_eq a b = ⊎_elim (λ lt. inl (λ e. omega arith))
    (λ le. ⊎_elim (λ gt. inl (λ e. omega arith)) (λ ge. inr (omega arith)) (lt_or_le b a)) (lt_or_le a b)

pub cell_lt : (ws : List ℕ) (x : ℕ) → cell ws x < 2
unfolding cell
cell_lt ws x = omega arith

-- past the last word no cell is set
pub cell_past : (ws : List ℕ) (x : ℕ) → 64 * length ws ≤ x → cell ws x ≡ 0
unfolding cell
cell_past ws x h =
    ap (λ (v : ℕ). bit_of v (x % 64)) (get_or-eq_default ws 0 {n = x / 64} (omega arith)) ∙ zero_bit (x % 64)

module _ (ws : List ℕ) (q : ℕ) (h : q < length ws) (x : ℕ) where
  pub set_same : (v : ℕ) → x / 64 ≡ q → cell (set ws q v) x ≡ bit_of v (x % 64)
  unfolding cell
  set_same v e =
      ap (λ (j : ℕ). bit_of (get_or (set ws q v) j 0) (x % 64)) e ∙ ap (λ (u : ℕ). bit_of u (x % 64)) (get_or-set_same ws q v 0 h)

  pub set_other : (v : ℕ) → (x / 64 ≡ q → ⊥) → cell (set ws q v) x ≡ cell ws x
  unfolding cell
  set_other v n = ap (λ (u : ℕ). bit_of u (x % 64)) (get_or-set_other ws q (x / 64) v 0 n)

  pub or_same : (m : ℕ) → x / 64 ≡ q → cell (set ws q (bit_or (get_or ws q 0) m)) x ≡ max (cell ws x) (bit_of m (x % 64))
  unfolding cell
  or_same m e =
      set_same (bit_or (get_or ws q 0) m) e ∙ or_bit (get_or ws q 0) m (x % 64)
      ∙ ap (λ (j : ℕ). max (bit_of (get_or ws j 0) (x % 64)) (bit_of m (x % 64))) (sym e)

  pub clear_same : (ms : List ℕ) → get_or ms q 0 < 2 ^ 64 → x / 64 ≡ q
      → cell (set ws q (bit_and (get_or ws q 0) (18446744073709551615 - get_or ms q 0))) x ≡ cell ws x - cell ms x
  unfolding cell
  clear_same ms hm e =
      set_same (bit_and (get_or ws q 0) (18446744073709551615 - get_or ms q 0)) e
      ∙ clear_bit (get_or ws q 0) (get_or ms q 0) (x % 64) hm (omega arith)
      ∙ ap (λ (j : ℕ). bit_of (get_or ws j 0) (x % 64) - bit_of (get_or ms j 0) (x % 64)) (sym e)

-- ---- close: the words below w are done, the others are as they were
pub record Swept (w : ℕ) (old mask new : List ℕ) : Type 0 where
  pub done : (x : ℕ) → x < 64 * w → cell new x ≡ cell old x - cell mask x
  pub rest : (x : ℕ) → 64 * w ≤ x → cell new x ≡ cell old x

pub swept_none : (old mask : List ℕ) → Swept 0 old mask old
swept_none old mask = record { done = λ x h. omega arith; rest = λ x h. refl }

pub swept_more : (w : ℕ) (old mask new : List ℕ) → Swept w old mask new → w < length new → get_or mask w 0 < 2 ^ 64
    → Swept (w + 1) old mask (set new w (bit_and (get_or new w 0) (18446744073709551615 - get_or mask w 0)))
swept_more w old mask new s h hm =
    record {
      done = λ x hx.
          ⊎_elim (λ lt. set_other new w h x (bit_and (get_or new w 0) (18446744073709551615 - get_or mask w 0)) (λ e. omega arith)
          ∙ s.done x lt)
          (λ le. clear_same new w h x mask hm (omega arith) ∙ ap (λ (u : ℕ). u - cell mask x) (s.rest x le))
          (lt_or_le x (64 * w));
      rest = λ x hx. set_other new w h x (bit_and (get_or new w 0) (18446744073709551615 - get_or mask w 0)) (λ e. omega arith)
          ∙ s.rest x (omega arith);
    }

pub swept_all : (w : ℕ) (old mask new : List ℕ) → Swept w old mask new → w ≡ length old → length old ≡ length mask
    → Closed old mask new
swept_all w old mask new s e el =
    record {
      clears = λ x.
          ⊎_elim (λ lt. s.done x lt)
          (λ le. s.rest x le ∙ omega (arith, cell_past old x (omega arith)))
          (lt_or_le x (64 * w));
    }

-- ---- add_range: some bits of a word, whole words, and one range after another
pub filled_join : {s m e : ℕ} {old mid new : List ℕ} → s ≤ m → m ≤ e → RangeAdded s m old mid → RangeAdded m e mid new
    → RangeAdded s e old new
filled_join {s} {m} {e} lo hi f g = record {
  inside = λ x a b. ⊎_elim (λ lt. g.below x lt ∙ f.inside x a lt) (λ le. g.inside x le b) (lt_or_le x m);
  below = λ x a. g.below x (omega arith) ∙ f.below x a;
  above = λ x a. g.above x a ∙ f.above x (omega arith);
}

-- the same range, its ends written in another way
pub filled_at : {p r s e : ℕ} {old new : List ℕ} → p ≡ s → r ≡ e → RangeAdded p r old new → RangeAdded s e old new
filled_at a b f = rw (← a, ← b) f

-- the rest of the first word and whole words
pub filled_words : (s b : ℕ) {old mid new : List ℕ} → s / 64 < b → RangeAdded (64 * (s / 64) + s % 64) (64 * (s / 64) + 64) old mid
    → RangeAdded (64 * (s / 64 + 1)) (64 * b) mid new → RangeAdded s (64 * b) old new
filled_words s b l f g = filled_join (omega arith) (omega arith) (filled_at (omega arith) (omega arith) f) g

module _ (ws : List ℕ) (w : ℕ) (h : w < length ws) where
  pub bits_added : (lo hi m : ℕ) → lo < 64 → hi ≤ 64 → Span lo hi m
      → RangeAdded (64 * w + lo) (64 * w + hi) ws (set ws w (bit_or (get_or ws w 0) m))
  bits_added lo hi m hl hh p = record {
    inside = λ x a b. or_same ws w h x m (omega arith) ∙ ap (max (cell ws x)) (p.inside (x % 64) (omega arith) (omega arith))
        ∙ omega (arith, cell_lt ws x);
    below = λ x a. same x (λ q. p.below (x % 64) (omega arith));
    above = λ x a. same x (λ q. p.above (x % 64) (omega arith) (omega arith));
  }
    where
      same : (x : ℕ) → (x / 64 ≡ w → bit_of m (x % 64) ≡ 0) → cell (set ws w (bit_or (get_or ws w 0) m)) x ≡ cell ws x
      same x z = ⊎_elim (λ n. set_other ws w h x (bit_or (get_or ws w 0) m) n)
          (λ q. or_same ws w h x m q ∙ ap (max (cell ws x)) (z q) ∙ omega arith) (ne_or_eq (x / 64) w)

-- the words a up to b are all m, the others are as they were
pub words_added : (ws new : List ℕ) (a b m : ℕ) → Span 0 64 m → ((q : ℕ) → a ≤ q → q < b → get_or new q 0 ≡ m)
    → ((q : ℕ) → q < a → get_or new q 0 ≡ get_or ws q 0) → ((q : ℕ) → b ≤ q → get_or new q 0 ≡ get_or ws q 0)
    → RangeAdded (64 * a) (64 * b) ws new
unfolding cell
words_added ws new a b m full done low high = record {
  inside = λ x l h. ap (λ (v : ℕ). bit_of v (x % 64)) (done (x / 64) (omega arith) (omega arith))
      ∙ full.inside (x % 64) (omega arith) (omega arith);
  below = λ x h. ap (λ (v : ℕ). bit_of v (x % 64)) (low (x / 64) (omega arith));
  above = λ x h. ap (λ (v : ℕ). bit_of v (x % 64)) (high (x / 64) (omega arith));
}

-- ---- the bits lo up to hi, of two masks
module _ (lo hi : ℕ) (hl : lo ≤ 64) (hh : hi ≤ 64) where
  low_fits : 2 ^ lo - 1 < 2 ^ 64
  low_fits = omega (arith, ones_lt lo, pow_mono hl)

  each : (k : ℕ) → k < 64 → bit_of (bit_and (2 ^ hi - 1) (18446744073709551615 - (2 ^ lo - 1))) k
      ≡ bit_of (2 ^ hi - 1) k - bit_of (2 ^ lo - 1) k
  each k h = clear_bit (2 ^ hi - 1) (2 ^ lo - 1) k low_fits h

  pub span_of : Span lo hi (bit_and (2 ^ hi - 1) (18446744073709551615 - (2 ^ lo - 1)))
  span_of =
      record {
        inside = λ k a b. each k (omega arith) ∙ ap₂ (λ (x y : ℕ). x - y) (ones_in hi k b) (ones_out lo k a);
        below = λ k a. each k (omega arith) ∙ omega (arith, ones_in lo k a);
        above = λ k a b. each k b ∙ omega (arith, ones_out hi k a);
      }

-- ---- add: one cell is set
shifted : (k : ℕ) → k < 64 → (1 * 2 ^ k) % 2 ^ 64 ≡ 2 ^ k
shifted k h = shl_exact {a = 1} 1 k 64 (omega arith) (omega arith) ∙ omega arith

pub one_added : (ws : List ℕ) (x : ℕ) → x / 64 < length ws
    → RangeAdded x (x + 1) ws (set ws (x / 64) (bit_or (get_or ws (x / 64) 0) ((1 * 2 ^ (x % 64)) % 2 ^ 64)))
one_added ws x h =
    rw (shifted (x % 64) (omega arith)) (record {
      inside = λ y a b. let e : y ≡ x = omega arith in
          rw e (or_same ws (x / 64) h x (2 ^ (x % 64)) refl ∙ ap (max (cell ws x)) (power_in (x % 64)) ∙ omega (arith, cell_lt ws x));
      below = λ y a. other y (λ e. omega arith);
      above = λ y a. other y (λ e. omega arith);
    })
  where
    other : (y : ℕ) → (y ≡ x → ⊥) → cell (set ws (x / 64) (bit_or (get_or ws (x / 64) 0) (2 ^ (x % 64)))) y ≡ cell ws y
    other y n =
        ⊎_elim (λ q. set_other ws (x / 64) h y (bit_or (get_or ws (x / 64) 0) (2 ^ (x % 64))) q)
        (λ q. or_same ws (x / 64) h y (2 ^ (x % 64)) q ∙ ap (max (cell ws y)) (power_out (x % 64) (y % 64) (λ e. n (omega arith)))
        ∙ omega arith)
        (ne_or_eq (y / 64) (x / 64))

-- a cell is set after a range is added where it was set or is in the range
pub added : (s e : ℕ) (old new : List ℕ) → RangeAdded s e old new → (x : ℕ)
    → eqb (cell new x) 1 ≡ (eqb (cell old x) 1 || (leb s x && ltb x e))
added s e old new f x = go (leb s x) (ltb x e) refl refl
  where
    go : (a b : Bool) → leb s x ≡ a → ltb x e ≡ b → eqb (cell new x) 1 ≡ (eqb (cell old x) 1 || (a && b))
    go true true t u = eq-eqb (cell new x) 1 (f.inside x (leb-true s x t) (ltb-true x e u)) ∙ sym (or-true (eqb (cell old x) 1))
    go true false t u = ap (λ (v : ℕ). eqb v 1) (f.above x (ltb-false x e u)) ∙ sym (or-false (eqb (cell old x) 1))
    go false b t u = ap (λ (v : ℕ). eqb v 1) (f.below x (leb-false s x t)) ∙ sym (or-false (eqb (cell old x) 1))
