-- The theory's rounds as a run goes through them: one more, and none left. Assumes nothing.
use Rattle.std.specs.Prelude.{◌≡◌, refl, List, [], ◌∷◌, ℕ, zero, suc, ◌≤◌, ◌<◌, length}
use Rattle.std.proofs.Common.{sym, ap, ◌∙◌, arith}
use Rattle.cover.specs.Greedy.{Entry, reach, close, Rounds, stop, round, best, grow_run, run}
use Rattle.cover.proofs.GreedyLaws.{Rightly, best_right, shrink}
use Rattle.cover.proofs.PickLaws.{IsPick, before_one}
use Rattle.cover.specs.Sets.{Found, nothing, found}

-- one bid alone is the pick
pub right_one : (p r : ℕ → ℕ) (n : ℕ) (u v : Found) → IsPick p r n u → IsPick p r n v → u ≡ v
right_one p r n nothing nothing x y = refl
right_one p r n nothing (found b) x y = absurd (x b y.inside y.good)
right_one p r n (found a) nothing x y = absurd (y a x.inside x.good)
right_one p r n (found a) (found b) x y = ap found
    (before_one p r a b (x.least b y.inside y.good) (y.least a x.inside x.good))

-- as many rounds as open cells are enough
empty : (B : ℕ → Entry) (n f : ℕ) → run B n f [] ≡ stop []
unfolding run reach grow_run
empty B n zero = refl
empty B n (suc f) = go (best B n []) (best_right B n [])
  where
    go : (u : Found) → Rightly B n [] u → grow_run B [] u (λ i. run B n f (close (B i).has [])) ≡ stop []
    go nothing x = refl
    go (found a) x = absurd (omega (arith, x.good))

pub fuel : (B : ℕ → Entry) (n f g : ℕ) (O : List ℕ) → length O ≤ f → length O ≤ g → run B n f O ≡ run B n g O
unfolding run grow_run
fuel B n zero g [] l m = sym (empty B n g)
fuel B n zero g (x ∷ O) l m = absurd (omega arith)
fuel B n (suc f) zero [] l m = empty B n (suc f)
fuel B n (suc f) zero (x ∷ O) l m = absurd (omega arith)
fuel B n (suc f) (suc g) O l m = go (best B n O) (best_right B n O)
    (λ i h. fuel B n f g (close (B i).has O) (omega (arith, shrink (B i).has O)) (omega (arith, shrink (B i).has O)))
  where
    go : (u : Found) → Rightly B n O u → ((i : ℕ) → 0 < reach (B i).has O
        → run B n f (close (B i).has O) ≡ run B n g (close (B i).has O))
        → grow_run B O u (λ i. run B n f (close (B i).has O)) ≡ grow_run B O u (λ i. run B n g (close (B i).has O))
    go nothing x ih = refl
    go (found a) x ih = ap (round a (B a) O) (ih a x.good)

-- the rounds from the open cells
unfoldable pub rounds_of : (ℕ → Entry) → ℕ → List ℕ → Rounds
unfolding run
rounds_of B n O = run B n (length O) O

pub rounds_stop : (B : ℕ → Entry) (n : ℕ) (O : List ℕ) → best B n O ≡ nothing → rounds_of B n O ≡ stop O
unfolding rounds_of run grow_run
rounds_stop B n O e = go (length O)
  where
    go : (f : ℕ) → run B n f O ≡ stop O
    go zero = refl
    go (suc f) = rw e

pub rounds_more : (B : ℕ → Entry) (n : ℕ) (O : List ℕ) (b : ℕ) → best B n O ≡ found b
    → rounds_of B n O ≡ round b (B b) O (rounds_of B n (close (B b).has O))
unfolding rounds_of run grow_run
rounds_more B n O b e = fuel B n (length O) (suc (length O)) O (omega arith) (omega arith) ∙ go
  where
    go : grow_run B O (best B n O) (λ i. run B n (length O) (close (B i).has O))
        ≡ round b (B b) O (run B n (length (close (B b).has O)) (close (B b).has O))
    go = rw e (ap (round b (B b) O) (fuel B n (length O) (length (close (B b).has O)) (close (B b).has O)
        (omega (arith, shrink (B b).has O)) (omega arith)))
