-- Bid k wins just where the run without it leaves it a chance, in words. Assumes nothing.
use Rattle.std.specs.Prelude.{◌≡◌, refl, ◌⊎◌, Bool, true, false, ℕ, ◌+◌, ◌*◌, ◌≤◌, ◌<◌, ltb}
use Rattle.std.proofs.Common.{inl, inr, eq-or-lt_of_le, arith, ltb-true, ltb-false, lt-ltb, le-leb, leb-true}
use Rattle.std.proofs.Math.Bool.{or-true}
use Rattle.cover.specs.Greedy.{reach, Rounds, stop, round, left}
use Rattle.cover.specs.CriticalPrice.{late}
use Rattle.cover.specs.Chance.{ahead, chance, Chance}
use Rattle.cover.proofs.SetLaws.{and_split, or_split}
use Rattle.cover.proofs.PickLaws.{late_no, late_yes, late_most}

late_in : (k i x y : ℕ) → x + late k i ≤ y → (x < y) ⊎ ((x ≡ y) × (k ≤ i))
late_in k i x y l = go (eq-or-lt_of_le {n = x} {m = y} (omega arith)) (ltb i k) refl
  where
    go : (x ≡ y) ⊎ (x < y) → (t : Bool) → ltb i k ≡ t → (x < y) ⊎ ((x ≡ y) × (k ≤ i))
    go (inr h) t e = inl h
    go (inl h) true e = absurd (omega (arith, late_yes k i (ltb-true i k e)))
    go (inl h) false e = inr (h, ltb-false i k e)

late_out : (k i x y : ℕ) → (x < y) ⊎ ((x ≡ y) × (k ≤ i)) → x + late k i ≤ y
late_out k i x y (inl l) = omega (arith, late_most k i)
late_out k i x y (inr h) = omega (arith, late_no k i h.1)

pub chance_in : (k p : ℕ) (h : ℕ → Bool) (t : Rounds) → chance k p h t ≡ true → Chance k p h t
unfolding chance ahead
chance_in k p h (stop O) e = ltb-true _ _ e
chance_in k p h (round i c O t) e = go (or_split (ahead k p h i c O) (chance k p h t) e) (chance_in k p h t)
  where
    go : (ahead k p h i c O ≡ true) ⊎ (chance k p h t ≡ true) → (chance k p h t ≡ true → Chance k p h t)
        → Chance k p h (round i c O t)
    go (inl a) f = let s = and_split (ltb 0 (reach h O)) _ a in inl (ltb-true _ _ s.0, late_in k i _ _ (leb-true _ _ s.1))
    go (inr b) f = inr (f b)

pub chance_out : (k p : ℕ) (h : ℕ → Bool) (t : Rounds) → Chance k p h t → chance k p h t ≡ true
unfolding chance ahead
chance_out k p h (stop O) l = lt-ltb _ _ l
chance_out k p h (round i c O t) (inl (l, d)) = rw
    (lt-ltb 0 (reach h O) l, le-leb (p * reach c.has O + late k i) (c.price * reach h O) (late_out k i _ _ d))
chance_out k p h (round i c O t) (inr s) = rw (chance_out k p h t s) (or-true (ahead k p h i c O))

-- a cell that stays open is a chance at every price
pub chance_left : (k p : ℕ) (h : ℕ → Bool) (t : Rounds) → 0 < reach h (left t) → chance k p h t ≡ true
unfolding chance left
chance_left k p h (stop O) l = lt-ltb _ _ l
chance_left k p h (round i c O t) l = rw (chance_left k p h t l) (or-true (ahead k p h i c O))
