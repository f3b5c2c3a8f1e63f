-- The cells set in a row of words, as a list, and what closing and counting do to it. Assumes nothing.
use Rattle.std.specs.Prelude.{◌≡◌, refl, ◌⊎◌, Bool, true, false, List, ℕ, zero, suc, ◌+◌, ◌-◌, ◌*◌, ◌≤◌}
use Rattle.std.specs.Prelude.{◌<◌, min, length, eqb}
use Rattle.std.proofs.Common.{ap, inl, inr, eq-or-lt_of_le, eqb-true}
use native.Mathlib.Omega.{arith}
use Rattle.std.proofs.lemmas.Bool.{eqb-false}
use Rattle.cells.specs.Cells.{cell, total, both, common, Closed}
use Rattle.cover.specs.Greedy.{reach, keep, close}
use Rattle.cover.specs.Sets.{cells}
use Rattle.cells.proofs.LowestLaws.{two}
use Rattle.multi_market.specs.Market.{word_row, has}
use Rattle.multi_market.specs.Opens.{opens, open_of}

pub two_way : (ws : List ℕ) (x : ℕ) → (cell ws x ≡ 0) ⊎ (cell ws x ≡ 1)
unfolding cell
two_way ws x = two _ (omega arith)

module _ (h : ℕ → Bool) (x u v : ℕ) (e : h x ≡ eqb v 1) where
  reach_step : (xs : List ℕ) (t : ℕ) → reach h xs ≡ t → (u ≡ 0) ⊎ (u ≡ 1) → (v ≡ 0) ⊎ (v ≡ 1)
      → reach h (keep (eqb u 0) x xs) ≡ t + min u v
  unfolding keep reach
  reach_step xs t d (inl a) q = rw a (omega arith)
  reach_step xs t d (inr a) (inl b) = rw (a, e, b) (omega arith)
  reach_step xs t d (inr a) (inr b) = rw (a, e, b) (omega arith)

  pub close_step : (y : ℕ) (xs ys : List ℕ) → y ≡ u - v → close h xs ≡ ys → (u ≡ 0) ⊎ (u ≡ 1) → (v ≡ 0)
      ⊎ (v ≡ 1)
      → close h (keep (eqb u 0) x xs) ≡ keep (eqb y 0) x ys
  unfolding keep close
  close_step y xs ys c d (inl a) q = let z : y ≡ 0 = omega arith in rw (a, z) d
  close_step y xs ys c d (inr a) (inl b) = let z : y ≡ 1 = omega arith in rw (a, z, e, b, d)
  close_step y xs ys c d (inr a) (inr b) = let z : y ≡ 0 = omega arith in rw (a, z, e, b) d

pub reach_opens : (a m : List ℕ) (n : ℕ) → reach (λ x. eqb (cell m x) 1) (opens (cell a) n) ≡ total (both a m) n
unfolding opens total both reach
reach_opens a m zero = refl
reach_opens a m (suc n) = reach_step (λ x. eqb (cell m x) 1) n (cell a n) (cell m n) refl (opens (cell a) n) _ (reach_opens a m n)
    (two_way a n) (two_way m n)

pub close_opens : (a m b : List ℕ) → Closed a m b → (n : ℕ)
    → close (λ x. eqb (cell m x) 1) (opens (cell a) n) ≡ opens (cell b) n
unfolding opens close
close_opens a m b c zero = refl
close_opens a m b c (suc n) =
    close_step (λ x. eqb (cell m x) 1) n (cell a n) (cell m n) refl (cell b n) (opens (cell a) n) _ (c.clears n) (close_opens a m b c n)
    (two_way a n) (two_way m n)

opens_ones : (f : ℕ → ℕ) (n : ℕ) → ((x : ℕ) → x < n → f x ≡ 1) → opens f n ≡ cells n
unfolding opens cells
opens_ones f zero h = refl
opens_ones f (suc n) h = rw (h n (omega arith), opens_ones f n (λ x l. h x (omega arith)))

pub opens_first : (f : ℕ → ℕ) (k n : ℕ) → k ≤ n → ((x : ℕ) → x < k → f x ≡ 1)
    → ((x : ℕ) → k ≤ x → f x ≡ 0) → opens f n ≡ cells k
unfolding opens cells
opens_first f k zero l h g = let e : k ≡ 0 = omega arith in rw e
opens_first f k (suc n) l h g = go (eq-or-lt_of_le l) (opens_first f k n)
  where
    go : (k ≡ suc n) ⊎ (k < suc n) → (k ≤ n → ((x : ℕ) → x < k → f x ≡ 1) → ((x : ℕ) → k ≤ x → f x ≡ 0)
        → opens f n ≡ cells k)
        → opens f (suc n) ≡ cells k
    go (inl e) ih = rw e (opens_ones f (suc n) (λ x q. h x (omega arith)))
    go (inr q) ih = rw (g n (omega arith)) (ih (omega arith) h g)

pub length_cells : (n : ℕ) → length (cells n) ≡ n
unfolding cells
length_cells zero = refl
length_cells (suc n) = ap suc (length_cells n)

pub reach_open : (held ms : List ℕ) (w i : ℕ) → reach (has ms w i) (open_of held) ≡ common held (word_row ms w i)
unfolding open_of has common
reach_open held ms w i = reach_opens held (word_row ms w i) (64 * length held)

pub close_open : (held new ms : List ℕ) (w i : ℕ) → length new ≡ length held → Closed held (word_row ms w i) new
    → close (has ms w i) (open_of held) ≡ open_of new
unfolding open_of has
close_open held new ms w i e c = rw e (close_opens held (word_row ms w i) new c (64 * length held))

pub opens_same : (f g : ℕ → ℕ) (n : ℕ) → ((x : ℕ) → f x ≡ g x) → opens f n ≡ opens g n
unfolding opens
opens_same f g zero h = refl
opens_same f g (suc n) h = rw (h n, opens_same f g n h)

-- what f has of the cells of h, g has too
pub reach_less : (h : ℕ → Bool) (f g : ℕ → ℕ) (n : ℕ) → ((x : ℕ) → h x ≡ true → f x ≤ g x)
    → reach h (opens f n) ≤ reach h (opens g n)
unfolding opens reach
reach_less h f g zero e = omega arith
reach_less h f g (suc n) e = go (h n) (eqb (f n) 0) (eqb (g n) 0) refl refl refl (reach_less h f g n e)
  where
    go : (t a b : Bool) → h n ≡ t → eqb (f n) 0 ≡ a → eqb (g n) 0 ≡ b → reach h (opens f n) ≤ reach h (opens g n)
        → reach h (keep a n (opens f n)) ≤ reach h (keep b n (opens g n))
    go t true true y u v ih = ih
    go t true false y u v ih = omega arith
    go true false true y u v ih = absurd (omega (arith, e n y, eqb-false (f n) 0 u, eqb-true (g n) 0 v))
    go false false true y u v ih = rw y (omega (arith, ih))
    go t false false y u v ih = omega arith

-- the cells of h alike in both
pub reach_alike : (h : ℕ → Bool) (f g : ℕ → ℕ) (n : ℕ) → ((x : ℕ) → h x ≡ true → f x ≡ g x)
    → reach h (opens f n) ≡ reach h (opens g n)
reach_alike h f g n e = omega (
  arith,
  reach_less h f g n (λ x y. omega (arith, e x y)),
  reach_less h g f n (λ x y. omega (arith, e x y)),
)
