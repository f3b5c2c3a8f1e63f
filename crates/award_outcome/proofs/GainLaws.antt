-- Gains compared as sums of naturals. Assumes nothing.
use Rattle.std.specs.Prelude.{◌≡◌, refl, Bool, true, false, cond, ℕ, suc, ◌+◌, ◌-◌, ◌≤◌, pos, negsuc, ltb}
use Rattle.std.proofs.Common.{arith, ltb-true, ltb-false}
use Rattle.std.proofs.Math.IntN.{sub_ℕ}
use Rattle.cover.specs.Sets.{when}
use Rattle.tender.specs.declared.AwardRow.{AwardRow}
use Rattle.award_outcome.specs.Gain.{gain, AtMost}

pub sub_most : (a b c d : ℕ) → a + d ≤ c + b → AtMost (sub_ℕ a b) (sub_ℕ c d)
sub_most a b c d l = go (ltb a b) (ltb c d) refl refl
  where
    go : (s t : Bool) → ltb a b ≡ s → ltb c d ≡ t → AtMost (cond s (negsuc (b - suc a)) (pos (a - b)))
        (cond t (negsuc (d - suc c)) (pos (c - d)))
    go true true e f = omega (arith, ltb-true a b e, ltb-true c d f)
    go true false e f = tt
    go false true e f = absurd (omega (arith, ltb-false a b e, ltb-true c d f))
    go false false e f = omega (arith, ltb-false a b e, ltb-false c d f)

-- as sums of naturals, where a loser's row says 0
pub gain_most : (c : ℕ) (r s : AwardRow) → (r.won ≡ false → r.cents ≡ 0) → (s.won ≡ false → s.cents ≡ 0)
    → r.cents + when s.won c ≤ s.cents + when r.won c → AtMost (gain c r) (gain c s)
unfolding gain
gain_most c r s f g l = go r.won s.won f g l
  where
    go : (a b : Bool) → (a ≡ false → r.cents ≡ 0) → (b ≡ false → s.cents ≡ 0)
        → r.cents + when b c ≤ s.cents + when a c
        → AtMost (cond a (sub_ℕ r.cents c) (pos 0)) (cond b (sub_ℕ s.cents c) (pos 0))
    go true true f g l = sub_most r.cents c s.cents c l
    go true false f g l = sub_most r.cents c 0 0 (omega (arith, g refl))
    go false true f g l = sub_most 0 0 s.cents c (omega (arith, f refl))
    go false false f g l = omega arith
