-- What is read from a place of bytes on, step by step: one byte, digits, numbers, spans and windows. Assumes nothing.
use Rattle.std.specs.Prelude.{ℕ, ◌+◌, ◌-◌, ◌*◌, ◌≤◌, ◌<◌, ◌≡◌, refl, List, Bool, true, false, length, drop}
use Rattle.std.specs.Prelude.{get_or, ltb, Some, None}
use Rattle.std.proofs.Common.{◌∙◌, length-drop}
use native.Mathlib.Omega.{arith}
use borrow.Author.Tests.{le-leb, lt-leb, eq-eqb, ne_eqb, lt-ltb, le-ltb, ltb-true, ltb-false}
use Rattle.tender.specs.declared.Span.{Span}
use Rattle.tender.specs.declared.Window.{Window}
use Rattle.tender.specs.Limits.{within, as_window}
use Rattle.reader_parts.specs.Scan.{Ended}
use Rattle.reader_parts.proofs.ScanLaws.{drop_next}
use Rattle.reader_parts.specs.Answer.{ReadAt, Reading, ReadIs}
use Rattle.reader_parts.specs.Front.{Front, got, wrong, onward, past, fork, digits_front, number_front, span_front, window_front}
use Rattle.reader_parts.proofs.FrontLaws.{window_took}

-- a byte other than 10 is not the last
pub not_last : (s : List ℕ) (i : ℕ) → Ended s → i < length s → (get_or s i 0 ≡ 10 → ⊥) → i + 1 < length s
not_last s i e h n = go (ltb (i + 1) (length s)) refl
  where
    go : (t : Bool) → ltb (i + 1) (length s) ≡ t → i + 1 < length s
    go true q = ltb-true (i + 1) (length s) q
    go false q = let k : i ≡ length s - 1 = omega (arith, ltb-false (i + 1) (length s) q) in absurd (n (rw k e.1))

-- the byte d at place i
module _ {A : Type 0} (d : ℕ) (s : List ℕ) (i : ℕ) (f : List ℕ → Front A) (h : i < length s) where
  pub past_at : get_or s i 0 ≡ d → past d (drop i s) f ≡ f (drop (i + 1) s)
  unfolding past
  past_at e = rw (drop_next s i h) (rw (eq-eqb (get_or s i 0) d e))

  pub past_not : (get_or s i 0 ≡ d → ⊥) → past d (drop i s) f ≡ wrong
  unfolding past
  past_not e = rw (drop_next s i h) (rw (ne_eqb (get_or s i 0) d e))

module _ {A : Type 0} (s : List ℕ) (i : ℕ) (h : i < length s) where
  pub fork_here : (d : ℕ) (x y : Front A) → get_or s i 0 ≡ d → fork d (drop i s) x y ≡ x
  unfolding fork
  fork_here d x y e = rw (drop_next s i h) (rw (eq-eqb (get_or s i 0) d e))

  pub fork_other : (d : ℕ) (x y : Front A) → (get_or s i 0 ≡ d → ⊥) → fork d (drop i s) x y ≡ y
  unfolding fork
  fork_other d x y e = rw (drop_next s i h) (rw (ne_eqb (get_or s i 0) d e))

-- digits after others of value v

module _ (s : List ℕ) (v i : ℕ) (h : i < length s) where
  pub digits_more : v < 100000000 → 48 ≤ get_or s i 0 → get_or s i 0 < 58
      → digits_front v (drop i s) ≡ digits_front (v * 10 + (get_or s i 0 - 48)) (drop (i + 1) s)
  unfolding digits_front within
  digits_more l a z = rw (drop_next s i h) (simp (lt-ltb v 100000000 l, le-leb 48 (get_or s i 0) a, le-leb (get_or s i 0) 57 (omega arith)))

  pub digits_below : v < 100000000 → get_or s i 0 < 48 → digits_front v (drop i s) ≡ got v (drop i s)
  unfolding digits_front within
  digits_below l k = rw (drop_next s i h) (simp (lt-ltb v 100000000 l, lt-leb 48 (get_or s i 0) k))

  pub digits_above : v < 100000000 → 58 ≤ get_or s i 0 → digits_front v (drop i s) ≡ got v (drop i s)
  unfolding digits_front within
  digits_above l k = rw (drop_next s i h)
      (simp (lt-ltb v 100000000 l, le-leb 48 (get_or s i 0) (omega arith), lt-leb (get_or s i 0) 57 (omega arith)))

  pub digits_full : 100000000 ≤ v → digits_front v (drop i s) ≡ got v (drop i s)
  unfolding digits_front
  digits_full l = rw (drop_next s i h) (simp (le-ltb v 100000000 l))

-- a number

module _ (s : List ℕ) (i : ℕ) (h : i < length s) where
  number_more : 49 ≤ get_or s i 0 → get_or s i 0 < 58 → number_front (drop i s) ≡ digits_front (get_or s i 0 - 48) (drop (i + 1) s)
  unfolding number_front within
  number_more a z = rw (drop_next s i h) (simp (le-leb 49 (get_or s i 0) a, le-leb (get_or s i 0) 57 (omega arith)))

  pub number_zero : get_or s i 0 ≡ 48 → number_front (drop i s) ≡ got 0 (drop (i + 1) s)
  unfolding number_front within
  number_zero e = rw (drop_next s i h) (simp (lt-leb 49 (get_or s i 0) (omega arith), eq-eqb (get_or s i 0) 48 e))

  pub number_below : get_or s i 0 < 48 → number_front (drop i s) ≡ wrong
  unfolding number_front within
  number_below k = rw (drop_next s i h)
      (simp (lt-leb 49 (get_or s i 0) (omega arith), ne_eqb (get_or s i 0) 48 (λ e. omega (arith, e))))

  pub number_above : 58 ≤ get_or s i 0 → number_front (drop i s) ≡ wrong
  unfolding number_front within
  number_above k = rw (drop_next s i h)
      (simp (
        le-leb 49 (get_or s i 0) (omega arith),
        lt-leb (get_or s i 0) 57 (omega arith),
        ne_eqb (get_or s i 0) 48 (λ e. omega (arith, e)),
      ))

  pub number_later : 49 ≤ get_or s i 0 → get_or s i 0 < 58 → (r : Reading ℕ)
      → ReadIs (digits_front (get_or s i 0 - 48) (drop (i + 1) s)) s (i + 1) r
      → ReadIs (number_front (drop i s)) s i r
  number_later a z (Some r) x =
      record { is = number_more a z ∙ x.is; after = omega (arith, x.after); inside = x.inside }
  number_later a z None x = number_more a z ∙ x

-- "S E)"

module _ (s : List ℕ) (i : ℕ) where
  pub span_first : number_front (drop i s) ≡ wrong → span_front (drop i s) ≡ wrong
  unfolding span_front onward
  span_first e = rw e

  module _ (a p : ℕ) (x : ReadAt (number_front (drop i s)) s i a p) where
    pub span_unparted : (get_or s p 0 ≡ 32 → ⊥) → span_front (drop i s) ≡ wrong
    unfolding span_front onward
    span_unparted n = rw x.is (past_not 32 s p _ x.inside n)

    module _ (b : get_or s p 0 ≡ 32) where
      pub span_second : number_front (drop (p + 1) s) ≡ wrong → span_front (drop i s) ≡ wrong
      unfolding span_front onward
      span_second e = rw x.is (past_at 32 s p _ x.inside b ∙ rw e)

      module _ (z q : ℕ) (y : ReadAt (number_front (drop (p + 1) s)) s (p + 1) z q) where
        pub span_unclosed : (get_or s q 0 ≡ 41 → ⊥) → span_front (drop i s) ≡ wrong
        unfolding span_front onward
        span_unclosed n = rw x.is (past_at 32 s p _ x.inside b ∙ rw y.is (past_not 41 s q _ y.inside n))

        pub span_whole : Ended s → get_or s q 0 ≡ 41 → ReadAt (span_front (drop i s)) s i (record { start = a; end = z }) (q + 1)
        unfolding span_front onward
        span_whole e d = record {
          is = rw x.is (past_at 32 s p _ x.inside b ∙ rw y.is (past_at 41 s q _ y.inside d));
          after = omega (arith, x.after, y.after);
          inside = not_last s q e y.inside (λ t. omega (arith, t, d));
        }

-- " (S E)"

module _ (s : List ℕ) (i : ℕ) (h : i < length s) where
  pub window_unparted : (get_or s i 0 ≡ 32 → ⊥) → window_front (drop i s) ≡ wrong
  unfolding window_front
  window_unparted n = past_not 32 s i _ h n

  module _ (b : get_or s i 0 ≡ 32) (k : i + 1 < length s) where
    pub window_unopened : (get_or s (i + 1) 0 ≡ 40 → ⊥) → window_front (drop i s) ≡ wrong
    unfolding window_front
    window_unopened n = past_at 32 s i _ h b ∙ past_not 40 s (i + 1) _ k n

    module _ (d : get_or s (i + 1) 0 ≡ 40) where
      opened : window_front (drop i s) ≡ onward (span_front (drop (i + 2) s)) (λ w u. got (as_window w) u)
      unfolding window_front
      opened =
          let e : i + 1 + 1 ≡ i + 2 = omega arith in
          past_at 32 s i _ h b ∙ past_at 40 s (i + 1) _ k d ∙ rw e

      pub window_unspanned : span_front (drop (i + 2) s) ≡ wrong → window_front (drop i s) ≡ wrong
      unfolding onward
      window_unspanned e = opened ∙ rw e

      pub window_span : (w : Span) (p : ℕ) → ReadAt (span_front (drop (i + 2) s)) s (i + 2) w p
          → ReadAt (window_front (drop i s)) s (i + 2) (as_window w) p
      unfolding onward
      window_span w p x = record { is = opened ∙ rw x.is; after = x.after; inside = x.inside }

-- the place past a window is six further at least
pub window_further : (s : List ℕ) (i j : ℕ) (w : Window) (q : ℕ) → ReadAt (window_front (drop i s)) s j w q → i + 6 ≤ q
window_further s i j w q x =
    omega (arith, window_took (drop i s) w (drop q s) x.is, length-drop i s, length-drop q s, x.inside)
