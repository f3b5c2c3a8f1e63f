-- Runs of minutes lie among the minutes looked at, each has a minute, and one minute more is held by one more run or a longer one. Assumes
-- nothing.
use Rattle.std.specs.Prelude.{◌≡◌, refl, Bool, true, false, cond, ◌&&◌, ◌||◌, List, [], ◌∷◌, ℕ, zero, suc, ◌+◌}
use Rattle.std.specs.Prelude.{◌≤◌, ◌<◌, leb, ltb, eqb}
use Rattle.std.proofs.Common.{ap, ◌∙◌, arith, leb-true, leb-false, lt-ltb, le-ltb, le-leb, eqb-true}
use Rattle.std.proofs.Math.Bool.{or_assoc}
use Rattle.std.proofs.lemmas.Bool.{lt-leb, eqb-false}
use Rattle.tender.specs.declared.Window.{Window}
use Rattle.award_check.specs.Cells.{holds}
use Rattle.runs.specs.Runs.{extended, runs}

-- each run lies between a and z and has a minute
abbrev pub Between : ℕ → ℕ → List Window → Type 0
Between a z [] = Unit {0}
Between a z (w ∷ ws) = ((a ≤ w.start) × ((w.start < w.end) × (w.end ≤ z))) × Between a z ws

wider : (a b z : ℕ) (ws : List Window) → a ≤ b → Between b z ws → Between a z ws
wider a b z [] l h = tt
wider a b z (w ∷ ws) l h = ((omega (arith, h.0.0), h.0.1), wider a b z ws l h.1)

extended_between : (at z : ℕ) (ws : List Window) → at < z → Between (at + 1) z ws → Between at z (extended at ws)
unfolding extended
extended_between at z [] l h = ((omega arith, (omega arith, omega arith)), tt)
extended_between at z (w ∷ ws) l h = go (eqb w.start (at + 1))
  where
    go : (b : Bool) → Between at z (cond b (record { start = at; end = w.end } ∷ ws)
        (record { start = at; end = at + 1 } ∷ w ∷ ws))
    go true = ((omega arith, (omega (arith, h.0.0, h.0.1.0), h.0.1.1)), wider at (at + 1) z ws (omega arith) h.1)
    go false = ((omega arith, (omega arith, omega arith)), wider at (at + 1) z (w ∷ ws) (omega arith) h)

pub runs_between : (P : ℕ → Bool) (at n : ℕ) → Between at (at + n) (runs P at n)
unfolding runs
runs_between P at zero = tt
runs_between P at (suc n) = go (P at) (up (runs P (at + 1) n) (runs_between P (at + 1) n))
  where
    up : (ws : List Window) → Between (at + 1) (at + 1 + n) ws → Between (at + 1) (at + suc n) ws
    up ws h = let e : at + 1 + n ≡ at + suc n = omega arith in rw e at h

    go : (b : Bool) → Between (at + 1) (at + suc n) (runs P (at + 1) n)
        → Between at (at + suc n) (cond b (extended at (runs P (at + 1) n)) (runs P (at + 1) n))
    go true h = extended_between at (at + suc n) (runs P (at + 1) n) (omega arith) h
    go false h = wider at (at + 1) (at + suc n) (runs P (at + 1) n) (omega arith) h

-- they hold the minutes that pass

one : (at m : ℕ) → (leb at m && ltb m (at + 1)) ≡ eqb m at
one at m = go (eqb m at) refl
  where
    go : (b : Bool) → eqb m at ≡ b → (leb at m && ltb m (at + 1)) ≡ b
    go true e = let d = eqb-true m at e in rw (le-leb at m (omega arith), lt-ltb m (at + 1) (omega arith))
    go false e = let d = eqb-false m at e in side (leb at m) refl
      where
        side : (c : Bool) → leb at m ≡ c → (c && ltb m (at + 1)) ≡ false
        side true f = le-ltb m (at + 1) (omega (arith, leb-true at m f, eqb-false m at e))
        side false f = refl

pub first_longer : (at m e : ℕ) → at < e → (leb at m && ltb m e) ≡ (eqb m at || (leb (at + 1) m && ltb m e))
first_longer at m e l = go (eqb m at) refl
  where
    go : (b : Bool) → eqb m at ≡ b → (leb at m && ltb m e) ≡ (b || (leb (at + 1) m && ltb m e))
    go true f = let d = eqb-true m at f in rw (le-leb at m (omega arith), lt-ltb m e (omega arith))
    go false f = ap (λ b. b && ltb m e) (side (leb (at + 1) m) refl)
      where
        side : (c : Bool) → leb (at + 1) m ≡ c → leb at m ≡ c
        side true g = le-leb at m (omega (arith, leb-true (at + 1) m g))
        side false g = lt-leb at m (omega (arith, leb-false (at + 1) m g, eqb-false m at f))

pub extended_holds : (at z m : ℕ) (ws : List Window) → Between (at + 1) z ws → holds (extended at ws) m ≡ (eqb m at || holds ws m)
unfolding extended holds
extended_holds at z m [] h = ap (λ b. b || false) (one at m)
extended_holds at z m (w ∷ ws) h = go (eqb w.start (at + 1)) refl
  where
    go : (b : Bool) → eqb w.start (at + 1) ≡ b
        → holds (cond b (record { start = at; end = w.end } ∷ ws) (record { start = at; end = at + 1 } ∷ w ∷ ws)) m
        ≡ (eqb m at || ((leb w.start m && ltb m w.end) || holds ws m))
    go true e = rw (eqb-true w.start (at + 1) e)
        (ap (λ b. b || holds ws m) (first_longer at m w.end (omega (arith, h.0.0, h.0.1.0)))
        ∙ or_assoc (eqb m at) (leb (at + 1) m && ltb m w.end) (holds ws m))
    go false e = ap (λ b. b || ((leb w.start m && ltb m w.end) || holds ws m)) (one at m)
