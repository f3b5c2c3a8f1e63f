-- A mechanism with a threshold (Myerson's lemma): all else held, there is a θ that does not turn on the bidder's own price, such
-- that a price that wins is at most θ and a price that loses at least θ; a winner is paid θ. Then naming the true cost is best,
-- and no winner is paid less than the price named. Assumes nothing.
use Rattle.std.specs.Prelude.{◌≡◌, refl, Bool, true, false, ℕ, ◌+◌, ◌≤◌}
use Rattle.std.proofs.Common.{arith}
use Rattle.cover.specs.Sets.{when}

-- won q: whether the price q wins, all else standing
pub record Threshold (won : ℕ → Bool) (θ : ℕ) : Type 0 where
  pub below : (q : ℕ) → won q ≡ true → q ≤ θ
  pub above : (q : ℕ) → won q ≡ false → θ ≤ q

module _ (won : ℕ → Bool) (θ : ℕ) (t : Threshold won θ) where
  -- whoever's cost is c gains most by naming c: it gains no more where it wins, or not, and is paid at most θ
  pub honest : (c : ℕ) (b : Bool) (x : ℕ) → x ≤ θ → when b x + when (won c) c ≤ when (won c) θ + when b c
  honest c b x l = go (won c) b (t.below c) (t.above c)
    where
      go : (a b : Bool) → (a ≡ true → c ≤ θ) → (a ≡ false → θ ≤ c) → when b x + when a c ≤ when a θ + when b c
      go true true f g = omega arith
      go true false f g = omega (arith, f refl)
      go false true f g = omega (arith, g refl)
      go false false f g = omega arith

  -- a winner is paid no less than it named
  pub enough : (q : ℕ) → when (won q) q ≤ when (won q) θ
  enough q = go (won q) (t.below q)
    where
      go : (a : Bool) → (a ≡ true → q ≤ θ) → when a q ≤ when a θ
      go true f = f refl
      go false f = omega arith
