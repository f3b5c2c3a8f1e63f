-- A bid taken into a set and out of it: m + 2 ^ i where m lacks bid i. Assumes nothing.
use Rattle.std.specs.Prelude.{◌≡◌, refl, true, false, List, [], ◌∷◌, ℕ, zero, suc, ◌+◌, ◌-◌, ◌*◌, ◌/◌}
use Rattle.std.specs.Prelude.{◌%◌, ◌^◌, ◌<◌, eqb, length, get_or}
use Rattle.std.proofs.Common.{ap, ◌∙◌, pow-suc, arith, eq-eqb, ne_eqb, eqb-true}
use Rattle.std.proofs.lemmas.Bool.{eqb-false}
use Rattle.cover.specs.Sets.{bit, cost}

pub record Added (m i : ℕ) : Type 0 where
  pub takes : bit (m + 2 ^ i) i ≡ true
  pub keeps : (j : ℕ) → (j ≡ i → ⊥) → bit (m + 2 ^ i) j ≡ bit m j

half_add : (i m : ℕ) → (m + 2 ^ suc i) / 2 ≡ m / 2 + 2 ^ i
half_add i m = omega (arith, pow-suc 2 i)

odd_add : (i m : ℕ) → (m + 2 ^ suc i) % 2 ≡ m % 2
odd_add i m = omega (arith, pow-suc 2 i)

pub added : (i m : ℕ) → bit m i ≡ false → Added m i
unfolding bit
added zero m e = record { takes = eq-eqb ((m + 1) % 2) 1 (omega (arith, eqb-false (m % 2) 1 e)); keeps = go }
  where
    go : (j : ℕ) → (j ≡ 0 → ⊥) → bit (m + 1) j ≡ bit m j
    go zero d = absurd (d refl)
    go (suc j) d = ap (λ x. bit x j) (omega (arith, eqb-false (m % 2) 1 e))
added (suc i) m e = up (added i (m / 2) e)
  where
    up : Added (m / 2) i → Added m (suc i)
    up h = record { takes = rw half_add h.takes; keeps = go }
      where
        go : (j : ℕ) → (j ≡ suc i → ⊥) → bit (m + 2 ^ suc i) j ≡ bit m j
        go zero d = ap (λ x. eqb x 1) (odd_add i m)
        go (suc j) d = rw half_add (h.keeps j (λ q. d (ap suc q)))

pub record Removed (s i : ℕ) : Type 0 where
  pub rest : ℕ
  pub sum : s ≡ rest + 2 ^ i
  pub lacks : bit rest i ≡ false

pub removed : (i s : ℕ) → bit s i ≡ true → Removed s i
unfolding bit
removed zero s e = record {
  rest = s - 1;
  sum = omega (arith, eqb-true (s % 2) 1 e);
  lacks = ne_eqb ((s - 1) % 2) 1 (λ p. omega (arith, eqb-true (s % 2) 1 e));
}
removed (suc i) s e = up (removed i (s / 2) e)
  where
    up : Removed (s / 2) i → Removed s (suc i)
    up h = record {
      rest = h.rest * 2 + s % 2;
      sum = omega (arith, h.sum, pow-suc 2 i);
      lacks = ap (λ x. bit x i) (omega arith) ∙ h.lacks;
    }

pub add_below : (n i m : ℕ) → i < n → bit m i ≡ false → m < 2 ^ n → m + 2 ^ i < 2 ^ n
unfolding bit
add_below zero i m l e b = absurd (omega arith)
add_below (suc n) zero m l e b = omega (arith, pow-suc 2 n, eqb-false (m % 2) 1 e)
add_below (suc n) (suc i) m l e b = omega (
  arith,
  pow-suc 2 n,
  pow-suc 2 i,
  add_below n i (m / 2) (omega arith) e (omega (arith, pow-suc 2 n)),
)

pub cost_none : (ps : List ℕ) → cost ps 0 ≡ 0
unfolding cost bit
cost_none [] = refl
cost_none (p ∷ ps) = omega (arith, cost_none ps)

pub cost_add : (ps : List ℕ) (i m : ℕ) → i < length ps → bit m i ≡ false → cost ps (m + 2 ^ i) ≡ cost ps m + get_or ps i 0
unfolding cost bit
cost_add [] i m l e = absurd (omega arith)
cost_add (p ∷ ps) zero m l e = rw ((added 0 m e).takes, e, half) (omega arith)
  where
    half : (m + 1) / 2 ≡ m / 2
    half = omega (arith, eqb-false (m % 2) 1 e)
cost_add (p ∷ ps) (suc i) m l e = rw (odd_add, half_add) (omega (arith, cost_add ps i (m / 2) (omega arith) e))
