-- Where the bids cover all the cells the greedy run closes them all, and the bids that it takes cover. Assumes nothing.
use Rattle.std.specs.Prelude.{◌≡◌, Bool, ℕ, ◌≤◌, ◌<◌, length, eqb}
use Rattle.std.proofs.Math.Path.{refl}
use Rattle.std.proofs.Math.Bool.{true, false, or-true}
use mathlib.Core.List.{List, [], ◌∷◌}
use Rattle.std.proofs.Common.{arith, eq-eqb}
use Rattle.cover.specs.Greedy.{Entry, reach, keep, close, Rounds, round, run, taken, left}
use Rattle.cover.proofs.GreedyLaws.{rounds}

abbrev pub Each : (ℕ → Type 0) → List ℕ → Type 0
Each P [] = Unit {0}
Each P (x ∷ xs) = P x × Each P xs

each_close : (P : ℕ → Type 0) (h : ℕ → Bool) (O : List ℕ) → Each P O → Each P (close h O)
unfolding close
each_close P h [] g = tt
each_close P h (x ∷ O) g = go (h x) (each_close P h O g.1)
  where
    go : (t : Bool) → Each P (close h O) → Each P (keep t x (close h O))
    go true e = e
    go false e = (g.0, e)

-- some bid has the cell
pub record Covered (B : ℕ → Entry) (n x : ℕ) : Type 0 where
  pub who : ℕ
  pub inside : who < n
  pub covers : (B who).has x ≡ true

-- a run of bids that cover all the cells closes them all
pub covered_closes : (B : ℕ → Entry) (n f : ℕ) (O : List ℕ) → length O ≤ f → Each (Covered B n) O
    → left (run B n f O) ≡ []
unfolding reach left
covered_closes B n = rounds B n (λ O t. Each (Covered B n) O → left t ≡ []) go
    (λ O i t b ih g. ih (each_close (Covered B n) (B i).has O g))
  where
    go : (O : List ℕ) → ((i : ℕ) → i < n → reach (B i).has O ≡ 0) → Each (Covered B n) O → O ≡ []
    go [] h g = refl
    go (x ∷ O) h g = absurd (omega (arith, rw g.0.covers at (h g.0.who g.0.inside)))

-- a bid that is taken has the cell
pub record Served (B : ℕ → Entry) (t : Rounds) (x : ℕ) : Type 0 where
  pub who : ℕ
  pub picked : taken who t ≡ true
  pub covers : (B who).has x ≡ true

module _ (B : ℕ → Entry) (i : ℕ) (c : Entry) (U : List ℕ) (t : Rounds) where
  later : (x : ℕ) → Served B t x → Served B (round i c U t) x
  unfolding taken
  later x s = record { who = s.who; picked = rw s.picked (or-true (eqb i s.who)); covers = s.covers }

  reopen : (O : List ℕ) → Each (Served B t) (close (B i).has O) → Each (Served B (round i c U t)) O
  unfolding close taken
  reopen [] g = tt
  reopen (x ∷ O) g = go ((B i).has x) refl (reopen O) g
    where
      go : (s : Bool) → (B i).has x ≡ s → (Each (Served B t) (close (B i).has O) → Each (Served B (round i c U t)) O)
          → Each (Served B t) (keep s x (close (B i).has O)) → Each (Served B (round i c U t)) (x ∷ O)
      go true e ih g = (record { who = i; picked = rw (eq-eqb i i refl); covers = e }, ih g)
      go false e ih g = (later x g.0, ih g.1)

pub served : (B : ℕ → Entry) (n f : ℕ) (O : List ℕ) → length O ≤ f → Each (Covered B n) O → Each (Served B (run B n f O)) O
unfolding left
served B n f O l g = rounds B n (λ O t. left t ≡ [] → Each (Served B t) O) (λ O e z. rw z tt)
    (λ O i t b ih z. reopen B i (B i) O t O (ih z)) f O l (covered_closes B n f O l g)
