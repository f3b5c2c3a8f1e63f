-- The bid with the least key is the one that a round takes, and keys rise as cells close. Assumes nothing.
use Rattle.std.specs.Prelude.{◌≡◌, ◌⊎◌, Bool, true, false, List, ℕ, zero, suc, ◌≤◌, ◌<◌, length, eqb}
use Rattle.std.proofs.Math.Path.{refl, ap}
use Rattle.std.proofs.Common.{◌∙◌, inl, inr}
use Rattle.std.proofs.Math.Logic.{⊎_elim}
use native.Mathlib.Omega.{arith}
use Rattle.cover.specs.Sets.{found}
use Rattle.cover.specs.Greedy.{Entry, reach, keep, best, bids}
use Rattle.cover.proofs.GreedyLaws.{best_right, shrink}
use Rattle.cover.proofs.PickLaws.{Best}
use Rattle.multi_keys.specs.Keys.{at, last, key_of}
use Rattle.multi_keys.proofs.KeyLaws.{key_none, key_low, key_most}
use Rattle.multi_keys.proofs.KeyOrder.{key_before, before_key}
use Rattle.multi_market.specs.Opens.{opens}
use Rattle.multi_market.specs.Seats.{key_in}
use Rattle.multi_market.proofs.RunLaws.{right_one}

pub zero_or : (x : ℕ) → (x ≡ 0) ⊎ (0 < x)
zero_or zero = inl refl
zero_or (suc x) = inr (omega arith)

pub key_at_lem : (has : ℕ → ℕ → Bool) (ps : List ℕ) (O : List ℕ) (i : ℕ)
    → key_in (bids has ps) O i ≡ key_of (at ps i) (reach (has i) O) i
unfolding key_in bids
key_at_lem has ps O i = refl

-- no bid reaches more cells than are open
pub opens_most : (f : ℕ → ℕ) (n : ℕ) → length (opens f n) ≤ n
unfolding opens keep
opens_most f zero = omega arith
opens_most f (suc n) = go (eqb (f n) 0) (opens_most f n)
  where
    go : (t : Bool) → length (opens f n) ≤ n → length (keep t n (opens f n)) ≤ suc n
    go true h = omega arith
    go false h = omega arith

pub reach_most : (h : ℕ → Bool) (O : List ℕ) → reach h O ≤ length O
reach_most h O = omega (arith, shrink h O)

module _ (B : ℕ → Entry) (n : ℕ) (O : List ℕ) (few : n ≤ 1024) (cheap : (i : ℕ) → i < n → (B i).price ≤ 100000000)
    (small : length O ≤ 10112) where
  reaches : (i : ℕ) → reach (B i).has O ≤ 10112
  reaches i = omega (arith, reach_most (B i).has O)

  pub least_taken : (b : ℕ) → b < n → 0 < reach (B b).has O
      → ((i : ℕ) → i < n → 0 < reach (B i).has O → key_in B O b ≤ key_in B O i) → best B n O ≡ found b
  unfolding best key_in
  least_taken b l g h = right_one (λ i. (B i).price) (λ i. reach (B i).has O) n (best B n O) (found b) (best_right B n O) (record {
    inside = l;
    good = g;
    least = λ i m k. key_before (B b).price (reach (B b).has O) b (B i).price (reach (B i).has O) i (omega arith) (omega arith) g k
        (reaches b) (reaches i) (h i m k);
  })

  key_in_lem : (i : ℕ) → key_in B O i ≡ key_of (B i).price (reach (B i).has O) i
  unfolding key_in
  key_in_lem i = refl

  pub taken_least : (b : ℕ) → best B n O ≡ found b → (i : ℕ) → i < n → key_in B O b ≤ key_in B O i
  unfolding best
  taken_least b e i m = rw (key_in_lem b, key_in_lem i) (⊎_elim
      (λ z. omega (
        arith,
        ap (λ (x : ℕ). key_of (B i).price x i) z ∙ key_none (B i).price i,
        key_most (B b).price (reach (B b).has O) b (cheap b right.inside) (omega (arith, right.inside)),
      ))
      (λ k. before_key (B b).price (reach (B b).has O) b (B i).price (reach (B i).has O) i (omega (arith, right.inside)) (omega arith)
      right.good k (reaches b) (reaches i) (right.least i m k))
      (zero_or (reach (B i).has O)))
    where
      right : Best (λ i. (B i).price) (λ i. reach (B i).has O) n b
      right = rw e at (best_right B n O)

  -- a key past the last: nothing is reached
  pub none_reached : (i : ℕ) → i < n → last < key_in B O i → reach (B i).has O ≡ 0
  unfolding key_in
  none_reached i m l = ⊎_elim (λ z. z) (λ k. absurd
      (omega (arith, l, key_low (B i).price (reach (B i).has O) i (cheap i m) k (omega arith)))) (zero_or (reach (B i).has O))
