-- The greedy run by its rounds, and what the run without bid k says of it. Assumes nothing.
use Rattle.std.specs.Prelude.{◌≡◌, ◌⊎◌, Bool, ◌&&◌, length, leb}
use Rattle.std.proofs.Math.Path.{refl, fun_ext}
use Rattle.std.proofs.Common.{ap, true≢false, arith}
use Rattle.std.proofs.Math.Logic.{inl, inr}
use Rattle.std.proofs.Math.Bool.{true, false}
use mathlib.Core.List.{List, [], ◌∷◌}
use Prim.Native.Nat.{ℕ, zero, suc, ◌+◌, ◌*◌, ◌≤◌, ◌<◌}
use Rattle.std.proofs.Math.Dec.{ltb, eqb}
use borrow.Author.Tests.{ltb-true, lt-ltb, le-leb, leb-true, eqb-true, eqb-false, ne_eqb, eq-eqb}
use Rattle.cover.specs.Sets.{when, Found, nothing, found}
use Rattle.cover.specs.Greedy.{Entry, reach, keep, close, best, Rounds, stop, round, grow_run, run, taken}
use Rattle.cover.specs.CriticalPrice.{late, mute, withdrawn}
use Rattle.cover.specs.Chance.{ahead, chance}
use Rattle.cover.proofs.PickLaws.{TakenBefore, IsPick, pick_right, before_one}

pub shrink : (h : ℕ → Bool) (O : List ℕ) → reach h O + length (close h O) ≡ length O
unfolding reach close
shrink h [] = refl
shrink h (x ∷ xs) = go (h x) (shrink h xs)
  where
    go : (t : Bool) → reach h xs + length (close h xs) ≡ length xs → when t 1 + reach h xs + length (keep t x (close h xs))
        ≡ suc (length xs)
    go true e = omega arith
    go false e = omega arith

-- a bid that is taken reaches no cell from then on, and is not taken again
pub close_own : (h : ℕ → Bool) (O : List ℕ) → reach h (close h O) ≡ 0
unfolding reach close
close_own h [] = refl
close_own h (x ∷ xs) = go (h x) refl (close_own h xs)
  where
    go : (t : Bool) → h x ≡ t → reach h (close h xs) ≡ 0 → reach h (keep t x (close h xs)) ≡ 0
    go true e l = l
    go false e l = rw e (omega arith)

pub reach_none : (O : List ℕ) → reach (λ x. false) O ≡ 0
unfolding reach
reach_none [] = refl
reach_none (x ∷ xs) = omega (arith, reach_none xs)

pub withdrawn_other : (k : ℕ) (B : ℕ → Entry) (i : ℕ) → (i ≡ k → ⊥) → withdrawn k B i ≡ B i
unfolding withdrawn
withdrawn_other k B i d = rw (ne_eqb i k d)

pub withdrawn_same : (k : ℕ) (B B' : ℕ → Entry) → ((i : ℕ) → (i ≡ k → ⊥) → B' i ≡ B i)
    → withdrawn k B' ≡ withdrawn k B
unfolding withdrawn
withdrawn_same k B B' h = fun_ext (λ i. go i (eqb i k) refl)
  where
    go : (i : ℕ) (t : Bool) → eqb i k ≡ t → mute t (B' i) ≡ mute t (B i)
    go i true e = refl
    go i false e = h i (eqb-false i k e)

pub withdrawn_reach : (k : ℕ) (B : ℕ → Entry) (O : List ℕ) (i : ℕ) → 0 < reach (withdrawn k B i).has O → i ≡ k → ⊥
unfolding withdrawn
withdrawn_reach k B O i l e = omega (arith, reach_none O, rw (eq-eqb i k e) at l)

abbrev pub Rightly : (ℕ → Entry) → ℕ → List ℕ → Found → Type 0
Rightly B n O u = IsPick (λ i. (B i).price) (λ i. reach (B i).has O) n u

pub best_right : (B : ℕ → Entry) (n : ℕ) (O : List ℕ) → Rightly B n O (best B n O)
unfolding best
best_right B n O = pick_right (λ i. (B i).price) (λ i. reach (B i).has O) n

pub close_other : (g h : ℕ → Bool) (O : List ℕ) → reach h (close g O) ≤ reach h O
unfolding reach close
close_other g h [] = omega arith
close_other g h (x ∷ xs) = go (g x) (close_other g h xs)
  where
    go : (t : Bool) → reach h (close g xs) ≤ reach h xs → reach h (keep t x (close g xs)) ≤ when (h x) 1 + reach h xs
    go true l = omega arith
    go false l = omega arith

-- a fact of a run, by its rounds: of the end, where nothing reaches an open cell, and of a round before others. As many rounds as
-- open cells are enough
module _ (B : ℕ → Entry) (n : ℕ) (P : List ℕ → Rounds → Type 0)
    (end : (O : List ℕ) → ((i : ℕ) → i < n → reach (B i).has O ≡ 0) → P O (stop O))
    (more : (O : List ℕ) (i : ℕ) (t : Rounds) → Rightly B n O (found i) → P (close (B i).has O) t → P O (round i (B i) O t))
  where
    pub rounds : (f : ℕ) (O : List ℕ) → length O ≤ f → P O (run B n f O)
    unfolding run reach
    rounds zero [] l = end [] (λ i m. refl)
    rounds zero (x ∷ O) l = absurd (omega arith)
    rounds (suc f) O l = go (best B n O) (best_right B n O) (λ i h. rounds f (close (B i).has O) (omega (arith, shrink (B i).has O)))
      where
        go : (u : Found) → Rightly B n O u → ((i : ℕ) → 0 < reach (B i).has O
            → P (close (B i).has O) (run B n f (close (B i).has O)))
            → P O (grow_run B O u (λ i. run B n f (close (B i).has O)))
        go nothing x ih = end O (λ i m. omega (arith, x i m))
        go (found a) x ih = more O a _ x (ih a x.good)

pub once : (B : ℕ → Entry) (n k f : ℕ) (O : List ℕ) → length O ≤ f → reach (B k).has O ≡ 0
    → taken k (run B n f O) ≡ false
unfolding taken
once B n k = rounds B n (λ O t. reach (B k).has O ≡ 0 → taken k t ≡ false) (λ O e z. refl)
    (λ O i t b ih z. rw (ne_eqb i k (λ j. omega (arith, z, rw j at b.good)), ih (omega (arith, close_other (B i).has (B k).has O))))

module _ (n k : ℕ) (inside : k < n) (B : ℕ → Entry) where
  abbrev p : ℕ → ℕ
  p i = (B i).price

  abbrev r : List ℕ → ℕ → ℕ
  r O i = reach (B i).has O

  -- in the round where the run withdrawn k takes v
  here : List ℕ → Found → Bool
  here O nothing = ltb 0 (r O k)
  here O (found i) = ahead k (p k) (B k).has i (withdrawn k B i) O

  -- the run takes k where k is ahead of what the run withdrawn k takes, and else it takes the same
  turn : (O : List ℕ) (u v : Found) → Rightly B n O u → Rightly (withdrawn k B) n O v → ((u ≡ found k) × (here O v ≡ true))
      ⊎ ((u ≡ v) × (here O v ≡ false))
  unfolding here ahead
  turn O nothing nothing x y = inr (refl, none (ltb 0 (r O k)) refl)
    where
      none : (q : Bool) → ltb 0 (r O k) ≡ q → q ≡ false
      none true e = absurd (x k inside (ltb-true _ _ e))
      none false e = refl
  turn O nothing (found b) x y = absurd (x b y.inside (rw (withdrawn_other k B b (withdrawn_reach k B O b y.good)) at y.good))
  turn O (found a) nothing x y = go (eqb a k) refl
    where
      go : (q : Bool) → eqb a k ≡ q → ((found a ≡ found k) × (ltb 0 (r O k) ≡ true))
          ⊎ ((found a ≡ nothing) × (ltb 0 (r O k) ≡ false))
      go true e = inl (ap found (eqb-true a k e), lt-ltb _ _ (rw (eqb-true a k e) at x.good))
      go false e = absurd (y a x.inside (rw (withdrawn_other k B a (eqb-false a k e)) x.good))
  turn O (found a) (found b) x y = go (eqb a k) refl
    where
      same_b : withdrawn k B b ≡ B b
      same_b = withdrawn_other k B b (withdrawn_reach k B O b y.good)

      a_first : TakenBefore p (r O) a b
      a_first = x.least b y.inside (rw same_b at y.good)

      equal : withdrawn k B a ≡ B a → a ≡ b
      equal same_a = before_one p (r O) a b a_first (rw (same_a, same_b) at (y.least a x.inside (rw same_a x.good)))

      beaten : (a ≡ k → ⊥) → (c d : Bool) → ltb 0 (r O k) ≡ c → leb (p k * r O a + late k a) (p a * r O k) ≡ d → c
          && d ≡ false
      beaten ne true true e f = absurd (ne (before_one p (r O) a k (x.least k inside (ltb-true _ _ e)) (leb-true _ _ f)))
      beaten ne true false e f = refl
      beaten ne false d e f = refl

      go : (q : Bool) → eqb a k ≡ q → ((found a ≡ found k) × (ahead k (p k) (B k).has b (withdrawn k B b) O ≡ true))
          ⊎ ((found a ≡ found b) × (ahead k (p k) (B k).has b (withdrawn k B b) O ≡ false))
      go true e = let j = eqb-true a k e in
          inl (
            ap found j,
            rw (
              same_b,
              lt-ltb 0 (r O k) (rw j at x.good),
              le-leb (p k * r O b + late k b) (p b * r O k) (rw j at a_first),
            ),
          )
      go false e = let j = eqb-false a k e in let m = equal (withdrawn_other k B a j) in
          inr (ap found m, rw (same_b, ← m) (beaten j _ _ refl refl))

  -- bid k is taken where the run withdrawn it leaves it a chance
  pub follow : (f : ℕ) (O : List ℕ) → length O ≤ f
      → taken k (run B n f O) ≡ chance k (p k) (B k).has (run (withdrawn k B) n f O)
  unfolding run taken chance here
  follow zero [] l = refl
  follow zero (x ∷ O) l = absurd (omega arith)
  follow (suc f) O l = go (best B n O) (best (withdrawn k B) n O) (best_right (withdrawn k B) n O)
      (turn O _ _ (best_right B n O) (best_right (withdrawn k B) n O))
      (λ i h. follow f (close (B i).has O) (omega (arith, shrink (B i).has O)))
    where
      s : ℕ → Rounds
      s i = run B n f (close (B i).has O)

      t : ℕ → Rounds
      t i = run (withdrawn k B) n f (close (withdrawn k B i).has O)

      go : (u v : Found) → Rightly (withdrawn k B) n O v → ((u ≡ found k) × (here O v ≡ true))
          ⊎ ((u ≡ v) × (here O v ≡ false))
          → ((i : ℕ) → 0 < r O i → taken k (s i) ≡ chance k (p k) (B k).has (run (withdrawn k B) n f (close (B i).has O)))
          → taken k (grow_run B O u s) ≡ chance k (p k) (B k).has (grow_run (withdrawn k B) O v t)
      go u nothing y (inl e) ih = rw (e.0, e.1, eq-eqb k k refl)
      go u (found b) y (inl e) ih = rw (e.0, e.1, eq-eqb k k refl)
      go u nothing y (inr e) ih = rw (e.0, e.1)
      go u (found b) y (inr e) ih = let ne = withdrawn_reach k B O b y.good in
          rw (e.0, e.1, ne_eqb b k ne, withdrawn_other k B b ne) (ih b (rw (withdrawn_other k B b ne) at y.good))

  -- while k is not taken the rounds are those of the run withdrawn it
  pub alike : (f : ℕ) (O : List ℕ) → taken k (run B n f O) ≡ false → run B n f O ≡ run (withdrawn k B) n f O
  unfolding run taken
  alike zero O e = refl
  alike (suc f) O e = go (best B n O) (best (withdrawn k B) n O) (best_right (withdrawn k B) n O)
      (turn O _ _ (best_right B n O) (best_right (withdrawn k B) n O)) e
      (λ i. alike f (close (B i).has O))
    where
      s : ℕ → Rounds
      s i = run B n f (close (B i).has O)

      t : ℕ → Rounds
      t i = run (withdrawn k B) n f (close (withdrawn k B i).has O)

      go : (u v : Found) → Rightly (withdrawn k B) n O v → ((u ≡ found k) × (here O v ≡ true))
          ⊎ ((u ≡ v) × (here O v ≡ false))
          → taken k (grow_run B O u s) ≡ false
          → ((i : ℕ) → taken k (s i) ≡ false → s i ≡ run (withdrawn k B) n f (close (B i).has O))
          → grow_run B O u s ≡ grow_run (withdrawn k B) O v t
      go u v y (inl h) e ih = absurd (true≢false (rw (h.0, eq-eqb k k refl) at e))
      go u nothing y (inr h) e ih = rw h.0
      go u (found b) y (inr h) e ih = let ne = withdrawn_reach k B O b y.good in
          rw (h.0, withdrawn_other k B b ne, ih b (rw (h.0, ne_eqb b k ne) at e))
