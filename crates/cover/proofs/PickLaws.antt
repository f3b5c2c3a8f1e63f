-- The pick of a round: of two bids one comes before the other, and the pick comes before all that reach a cell. Assumes nothing.
use Rattle.std.specs.Prelude.{◌≡◌, ◌⊎◌, Bool, ltb}
use Rattle.std.proofs.Math.Path.{refl}
use Rattle.std.proofs.Common.{inl, inr, true≢false, le_antisymm, eq-or-lt_of_le, le_of_suc-le-suc, mul-le-mul_right}
use Rattle.std.proofs.Common.{le_of_mul-le-mul_right, mul_right_comm}
use Rattle.std.proofs.Math.Bool.{true, false}
use Prim.Native.Nat.{ℕ, zero, suc, ◌+◌, ◌*◌, ◌≤◌, ◌<◌}
use native.Mathlib.Omega.{arith}
use borrow.Author.Tests.{ltb-true, ltb-false, lt-ltb, le-ltb}
use Rattle.cover.specs.Sets.{when, Found, nothing, found}
use Rattle.cover.specs.LeastCover.{choose}
use Rattle.cover.specs.Greedy.{cheaper, pick}
use Rattle.cover.specs.CriticalPrice.{late}

-- i is taken before j
abbrev pub TakenBefore : (ℕ → ℕ) → (ℕ → ℕ) → ℕ → ℕ → Type 0
TakenBefore p r i j = p i * r j + late i j ≤ p j * r i

pub record Best (p r : ℕ → ℕ) (n b : ℕ) : Type 0 where
  pub inside : b < n
  pub good : 0 < r b
  pub least : (s : ℕ) → s < n → 0 < r s → TakenBefore p r b s

abbrev pub IsPick : (ℕ → ℕ) → (ℕ → ℕ) → ℕ → Found → Type 0
IsPick p r n nothing = (s : ℕ) → s < n → 0 < r s → ⊥
IsPick p r n (found b) = Best p r n b

pub late_no : (i j : ℕ) → i ≤ j → late i j ≡ 0
unfolding late
late_no i j l = rw (le-ltb j i l)

pub late_yes : (i j : ℕ) → j < i → late i j ≡ 1
unfolding late
late_yes i j l = rw (lt-ltb j i l)

pub late_most : (i j : ℕ) → late i j ≤ 1
unfolding late
late_most i j = go (ltb j i)
  where
    go : (t : Bool) → when t 1 ≤ 1
    go true = omega arith
    go false = omega arith

-- fractions: a/b ≤ c/d ≤ e/f
pub chain : (a b c d e f : ℕ) → 0 < d → a * d ≤ c * b → c * f ≤ e * d → a * f ≤ e * b
chain a b c d e f l g h = le_of_mul-le-mul_right (omega
    (arith, mul-le-mul_right f g, mul-le-mul_right b h, mul_right_comm a f d, mul_right_comm c b f, mul_right_comm e b d)) l

-- a/b < c/d ≤ e/f
pub chain_lt : (a b c d e f : ℕ) → 0 < f → a * d < c * b → c * f ≤ e * d → a * f < e * b
chain_lt a b c d e f l g h = go (ltb (a * f) (e * b)) refl
  where
    go : (t : Bool) → ltb (a * f) (e * b) ≡ t → a * f < e * b
    go true q = ltb-true _ _ q
    go false q = absurd (omega (arith, chain c d e f a b l h (ltb-false (a * f) (e * b) q)))

module _ (p r : ℕ → ℕ) where
  -- a fact of each bid below suc n: of those below n, and of n
  last : {P : ℕ → Type 0} (n : ℕ) → ((s : ℕ) → s < n → 0 < r s → P s) → (0 < r n → P n) → (s : ℕ) → s < suc n
      → 0 < r s → P s
  last {P} n f h s l g = go (eq-or-lt_of_le (le_of_suc-le-suc l))
    where
      go : (s ≡ n) ⊎ (s < n) → P s
      go (inl e) = rw e (h (rw e at g))
      go (inr k) = f s k g

  step : (n : ℕ) (t u : Bool) (b : Found) → ltb 0 (r n) ≡ t → cheaper p r n b ≡ u → IsPick p r n b
      → IsPick p r (suc n) (choose t u b n)
  unfolding choose cheaper
  step n false u nothing e d h = last n h (λ g. omega (arith, ltb-false 0 (r n) e))
  step n false u (found b) e d h = record {
    inside = omega arith;
    good = h.good;
    least = last n h.least (λ g. absurd (omega (arith, ltb-false 0 (r n) e)));
  }
  step n true false nothing e d h = absurd (true≢false d)
  step n true false (found b) e d h = record {
    inside = omega arith;
    good = h.good;
    least = last n h.least (λ g. omega (arith, ltb-false (p n * r b) (p b * r n) d, late_no b n (omega (arith, h.inside))));
  }
  step n true true nothing e d h = record {
    inside = omega arith;
    good = ltb-true _ _ e;
    least = last n (λ s l g. absurd (h s l g)) (λ g. omega (arith, late_no n n (omega arith)));
  }
  step n true true (found b) e d h = record {
    inside = omega arith;
    good = ltb-true _ _ e;
    least = last n
        (λ s l g. omega (
          arith,
          chain_lt (p n) (r n) (p b) (r b) (p s) (r s) g (ltb-true _ _ d) (omega (arith, h.least s l g)),
          late_most n s,
        ))
        (λ g. omega (arith, late_no n n (omega arith)));
  }

  pub pick_right : (n : ℕ) → IsPick p r n (pick p r n)
  unfolding pick
  pick_right zero = λ s l g. omega arith
  pick_right (suc n) = step n (ltb 0 (r n)) (cheaper p r n (pick p r n)) (pick p r n) refl refl (pick_right n)

-- of two bids only one is taken before the other
pub before_le : (p r : ℕ → ℕ) (i j : ℕ) → TakenBefore p r i j → TakenBefore p r j i → i ≤ j
before_le p r i j u v = go (ltb j i) refl
  where
    go : (t : Bool) → ltb j i ≡ t → i ≤ j
    go true e = absurd (omega (arith, late_yes i j (ltb-true j i e)))
    go false e = ltb-false j i e

pub before_one : (p r : ℕ → ℕ) (i j : ℕ) → TakenBefore p r i j → TakenBefore p r j i → i ≡ j
before_one p r i j u v = le_antisymm (before_le p r i j u v) (before_le p r j i v u)
