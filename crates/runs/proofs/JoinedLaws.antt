-- A bid's windows joined: the same minutes, lawful, one at least and no more than before. Assumes nothing.
use Rattle.std.specs.Prelude.{◌≡◌, refl, Bool, true, false, ◌&&◌, ◌||◌, List, [], ◌∷◌, ℕ, ◌+◌, ◌-◌, ◌≤◌}
use Rattle.std.specs.Prelude.{◌<◌, length, leb, ltb}
use Rattle.std.proofs.Common.{sym, ap, ◌∙◌, arith, leb-true, ltb-true, lt-ltb, le-leb}
use Rattle.std.proofs.Math.Path.{fun_ext}
use Rattle.std.proofs.lemmas.Bool.{false≢true}
use Rattle.tender.specs.declared.Window.{Window}
use Rattle.tender.specs.Limits.{every, lawful}
use Rattle.tender.specs.RulesLaws.{every_split}
use Rattle.cover.proofs.SetLaws.{and_split}
use Rattle.award_check.specs.Cells.{holds}
use Rattle.runs.specs.Runs.{runs, joined}
use Rattle.runs.proofs.RunsLaws.{Between, runs_between}
use Rattle.runs.proofs.RunsHoldLaws.{runs_hold}

-- lawful windows hold no minute past the week
pub holds_early : (ws : List Window) (m : ℕ) → every lawful ws ≡ true → holds ws m ≡ true → m < 10080
unfolding lawful holds
holds_early [] m e h = absurd (false≢true h)
holds_early (w ∷ ws) m e h =
    let a = every_split lawful w ws e in
    let b = and_split (ltb w.start w.end) (leb w.end 10080) a.0 in
    go (leb w.start m && ltb m w.end) refl (leb-true w.end 10080 b.1) h (holds_early ws m a.1)
  where
    go : (t : Bool) → leb w.start m && ltb m w.end ≡ t → w.end ≤ 10080 → t || holds ws m ≡ true
        → (holds ws m ≡ true → m < 10080) → m < 10080
    go true f l x ih = omega (arith, ltb-true m w.end (and_split (leb w.start m) (ltb m w.end) f).1)
    go false f l x ih = ih x

pub joined_holds : (ws : List Window) (m : ℕ) → every lawful ws ≡ true → holds (joined ws) m ≡ holds ws m
unfolding joined
joined_holds ws m e = runs_hold (holds ws) 0 10080 m ∙ go (holds ws m) refl
  where
    go : (t : Bool) → holds ws m ≡ t → ((leb 0 m && ltb m (0 + 10080)) && t) ≡ t
    go true f = rw (le-leb 0 m (omega arith), lt-ltb m 10080 (holds_early ws m e f))
    go false f = none (leb 0 m && ltb m 10080)
      where
        none : (b : Bool) → (b && false) ≡ false
        none true = refl
        none false = refl

between_lawful : (a : ℕ) (ws : List Window) → Between a 10080 ws → every lawful ws ≡ true
unfolding every lawful
between_lawful a [] h = refl
between_lawful a (w ∷ ws) h = rw (lt-ltb w.start w.end h.0.1.0, le-leb w.end 10080 h.0.1.1)
    (between_lawful a ws h.1)

pub joined_lawful : (ws : List Window) → every lawful (joined ws) ≡ true
unfolding joined
joined_lawful ws = between_lawful 0 (runs (holds ws) 0 10080) (runs_between (holds ws) 0 10080)

first_held : (w : Window) (ws : List Window) → lawful w ≡ true → holds (w ∷ ws) w.start ≡ true
unfolding holds lawful
first_held w ws e = rw (le-leb w.start w.start (omega arith), (and_split (ltb w.start w.end) (leb w.end 10080) e).0)

-- there is a window
pub joined_some : (ws : List Window) → every lawful ws ≡ true → 0 < length ws
    → (w : Window) × (vs : List Window) × (joined ws ≡ w ∷ vs)
unfolding holds
joined_some [] e l = absurd (omega arith)
joined_some (w ∷ ws) e l = go (joined (w ∷ ws)) refl (joined_holds (w ∷ ws) w.start e
    ∙ first_held w ws (every_split lawful w ws e).0)
  where
    go : (vs : List Window) → joined (w ∷ ws) ≡ vs → holds (joined (w ∷ ws)) w.start ≡ true
        → (v : Window) × (us : List Window) × (joined (w ∷ ws) ≡ v ∷ us)
    go [] q h = absurd (false≢true (ap (λ l. holds l w.start) (sym q) ∙ h))
    go (v ∷ us) q h = (v, us, q)

-- windows with the same minutes are joined alike
pub joined_same : (ws vs : List Window) → ((m : ℕ) → holds ws m ≡ holds vs m) → joined ws ≡ joined vs
unfolding joined
joined_same ws vs h = ap (λ (P : ℕ → Bool). runs P 0 10080) (fun_ext h)

-- before the first minute all runs are left
pub joined_runs : (ws : List Window) → joined ws ≡ runs (holds ws) 0 (10080 - 0)
unfolding joined
joined_runs ws = let e : 10080 ≡ 10080 - 0 = omega arith in ap (λ (n : ℕ). runs (holds ws) 0 n) e
