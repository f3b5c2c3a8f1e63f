-- Runs hold the minutes that pass among those looked at, and no other. Assumes nothing.
use Rattle.std.specs.Prelude.{◌≡◌, refl, Bool, true, false, cond, ◌&&◌, ◌||◌, ℕ, zero, suc, ◌+◌, leb, ltb, eqb}
use Rattle.std.proofs.Common.{sym, ap, ◌∙◌, arith, leb-true, le-ltb, eqb-true}
use Rattle.std.proofs.Math.Bool.{and-true, and-false, and-or_distrib_right}
use Rattle.award_check.specs.Cells.{holds}
use Rattle.runs.specs.Runs.{extended, runs}
use Rattle.runs.proofs.RunsLaws.{runs_between, first_longer, extended_holds}

pub runs_hold : (P : ℕ → Bool) (at n m : ℕ) → holds (runs P at n) m ≡ ((leb at m && ltb m (at + n)) && P m)
unfolding runs holds
runs_hold P at zero m = sym (none (leb at m) refl)
  where
    none : (b : Bool) → leb at m ≡ b → ((b && ltb m (at + 0)) && P m) ≡ false
    none true e = rw (le-ltb m (at + 0) (omega (arith, leb-true at m e)))
    none false e = refl
runs_hold P at (suc n) m = go (P at) refl (runs_hold P (at + 1) n m)
  where
    later : (leb (at + 1) m && ltb m (at + 1 + n)) ≡ (leb (at + 1) m && ltb m (at + suc n))
    later = let e : at + 1 + n ≡ at + suc n = omega arith in ap (λ (z : ℕ). leb (at + 1) m && ltb m z) e

    here : (b : Bool) → P at ≡ b → (c : Bool) → eqb m at ≡ c → (c && P m) ≡ (c && b)
    here b e true f = ap P (eqb-true m at f) ∙ e
    here b e false f = refl

    whole : (b : Bool) → P at ≡ b → ((leb at m && ltb m (at + suc n)) && P m)
        ≡ ((eqb m at && b) || ((leb (at + 1) m && ltb m (at + 1 + n)) && P m))
    whole b e = ap (λ c. c && P m) (first_longer at m (at + suc n) (omega arith))
        ∙ and-or_distrib_right (eqb m at) (leb (at + 1) m && ltb m (at + suc n)) (P m)
        ∙ ap (λ c. c || ((leb (at + 1) m && ltb m (at + suc n)) && P m)) (here b e (eqb m at) refl)
        ∙ ap (λ c. (eqb m at && b) || (c && P m)) (sym later)

    go : (b : Bool) → P at ≡ b → holds (runs P (at + 1) n) m ≡ ((leb (at + 1) m && ltb m (at + 1 + n)) && P m) →
        holds (cond b (extended at (runs P (at + 1) n)) (runs P (at + 1) n)) m ≡ ((leb at m && ltb m (at + suc n)) && P m)
    go true e ih = extended_holds at (at + 1 + n) m (runs P (at + 1) n) (runs_between P (at + 1) n) ∙ ap (λ c. eqb m at || c) ih
        ∙ ap (λ c. c || ((leb (at + 1) m && ltb m (at + 1 + n)) && P m)) (sym (and-true (eqb m at))) ∙ sym (whole true e)
    go false e ih = ih ∙ ap (λ c. c || ((leb (at + 1) m && ltb m (at + 1 + n)) && P m)) (sym (and-false (eqb m at)))
        ∙ sym (whole false e)
