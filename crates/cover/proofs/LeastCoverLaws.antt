-- The winners are the earliest of the sets of least cost, and no other set is. Assumes nothing.
use Rattle.std.specs.Prelude.{◌≡◌, ◌⊎◌, Bool, List, [], ◌∷◌, length, set}
use Rattle.std.proofs.Math.Path.{refl}
use Rattle.std.proofs.Common.{sym, ◌∙◌, inl, inr, true≢false, le_antisymm, eq-or-lt_of_le, le_of_suc-le-suc}
use Rattle.std.proofs.Math.Bool.{true, false}
use Rattle.std.proofs.lemmas.Bool.{false≢true}
use Prim.Native.Nat.{ℕ, zero, suc, ◌+◌, ◌/◌, ◌^◌, ◌<◌}
use native.Mathlib.Omega.{arith}
use borrow.Author.Tests.{ltb-true, ltb-false}
use Rattle.cover.specs.Sets.{when, Found, nothing, found, value_of, bit, cost}
use Rattle.cover.specs.LeastCover.{choose, dearer, first, Wins, Stands, winners}
use Rattle.cover.proofs.SetLaws.{stands}

abbrev pub IsFirst : (ℕ → Bool) → (ℕ → ℕ) → ℕ → Found → Type 0
IsFirst ok price n nothing = (s : ℕ) → s < n → ok s ≡ true → ⊥
IsFirst ok price n (found b) = Wins ok price n b

module _ (ok : ℕ → Bool) (price : ℕ → ℕ) where
  -- a fact of each number below suc n: of those below n, and of n
  last : {P : ℕ → Type 0} (n : ℕ) → ((s : ℕ) → s < n → ok s ≡ true → P s) → (ok n ≡ true → P n) → (s : ℕ)
      → s < suc n → ok s ≡ true → P s
  last {P} n f h s l g = go (eq-or-lt_of_le (le_of_suc-le-suc l))
    where
      go : (s ≡ n) ⊎ (s < n) → P s
      go (inl p) = rw p (h (rw p at g))
      go (inr k) = f s k g

  step : (n : ℕ) (t u : Bool) (r : Found) → ok n ≡ t → dearer price n r ≡ u → IsFirst ok price n r
      → IsFirst ok price (suc n) (choose t u r n)
  unfolding choose dearer
  step n false u nothing e d h = last n h (λ g. absurd (false≢true (sym e ∙ g)))
  step n false u (found b) e d h = record {
    inside = omega arith;
    good = h.good;
    least = last n h.least (λ g. absurd (false≢true (sym e ∙ g)));
    earliest = last n h.earliest (λ g. absurd (false≢true (sym e ∙ g)));
  }
  step n true false nothing e d h = absurd (true≢false d)
  step n true false (found b) e d h = record {
    inside = omega arith;
    good = h.good;
    least = last n h.least (λ g. ltb-false (price n) (price b) d);
    earliest = last n h.earliest (λ g q. omega arith);
  }
  step n true true nothing e d h = record {
    inside = omega arith;
    good = e;
    least = last n (λ s l g. absurd (h s l g)) (λ g. omega arith);
    earliest = last n (λ s l g. absurd (h s l g)) (λ g q. omega arith);
  }
  step n true true (found b) e d h = record {
    inside = omega arith;
    good = e;
    least = last n (λ s l g. omega (arith, h.least s l g, ltb-true (price n) (price b) d)) (λ g. omega arith);
    earliest = last n (λ s l g q. omega (arith, h.least s l g, ltb-true (price n) (price b) d)) (λ g q. omega arith);
  }

  pub first_right : (n : ℕ) → IsFirst ok price n (first ok price n)
  unfolding first
  first_right zero = λ s l g. omega arith
  first_right (suc n) = step n (ok n) (dearer price n (first ok price n)) (first ok price n) refl refl (first_right n)

-- the winner is one, and turns on the costs of the numbers that pass alone
pub wins_one : (ok : ℕ → Bool) (price : ℕ → ℕ) (n a b : ℕ) → Wins ok price n a → Wins ok price n b → a ≡ b
wins_one ok price n a b u v = le_antisymm (u.earliest b v.inside v.good (sym same)) (v.earliest a u.inside u.good same)
  where
    same : price a ≡ price b
    same = le_antisymm (u.least b v.inside v.good) (v.least a u.inside u.good)

pub wins_of : (ok : ℕ → Bool) (f g : ℕ → ℕ) (n b : ℕ) → ((s : ℕ) → ok s ≡ true → f s ≡ g s) → Wins ok f n b
    → Wins ok g n b
wins_of ok f g n b e w = record {
  inside = w.inside;
  good = w.good;
  least = λ s l h. omega (arith, w.least s l h, e s h, e b w.good);
  earliest = λ s l h q. w.earliest s l h (omega (arith, e s h, e b w.good));
}

pub winners_right : (ok : ℕ → Bool) (ps : List ℕ) (s : ℕ) → s < 2 ^ length ps → ok s ≡ true
    → Wins ok (cost ps) (2 ^ length ps) (winners ok ps)
unfolding winners value_of
winners_right ok ps s l g = go (first ok (cost ps) (2 ^ length ps)) (first_right ok (cost ps) (2 ^ length ps))
  where
    go : (r : Found) → IsFirst ok (cost ps) (2 ^ length ps) r → Wins ok (cost ps) (2 ^ length ps) (value_of r)
    go nothing h = absurd (h s l g)
    go (found b) h = h

pub cost_set : (ps : List ℕ) (i q s : ℕ) → i < length ps → cost (set ps i q) s ≡ cost (set ps i 0) s + when (bit s i) q
unfolding cost bit
cost_set [] i q s l = absurd (omega arith)
cost_set (p ∷ ps) zero q s l = go (bit s 0)
  where
    go : (b : Bool) → when b q + cost ps (s / 2) ≡ when b 0 + cost ps (s / 2) + when b q
    go true = omega arith
    go false = omega arith
cost_set (p ∷ ps) (suc i) q s l = omega (arith, cost_set ps i q (s / 2) (omega arith))

-- the tie rule in the paper's words: of a least-cost set other than the winners, the latest bid that tells the two apart is in it
-- and not in the winners
pub tie : (ok : ℕ → Bool) (ps : List ℕ) (s : ℕ) → s < 2 ^ length ps → ok s ≡ true → cost ps s ≡ cost ps (winners ok ps)
    → (s ≡ winners ok ps → ⊥) → Stands (winners ok ps) s
tie ok ps s l g e d = stands (length ps) (winners ok ps) s l (omega (arith, (winners_right ok ps s l g).earliest s l g e))
