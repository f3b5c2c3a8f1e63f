-- The critical price, the largest whole price that wins, is what the rounds of the run without the bid give; with it the greedy
-- cover is a threshold mechanism. Assumes nothing.
use Rattle.std.specs.Prelude.{◌≡◌, refl, Bool, true, false, ◌&&◌, List, [], ◌∷◌, ℕ, zero, suc, ◌+◌, ◌-◌, ◌*◌}
use Rattle.std.specs.Prelude.{◌/◌, ◌≤◌, ◌<◌, length, get_or, set, ltb, leb, eqb}
use Rattle.std.proofs.Common.{sym, ◌∙◌, mul-le-mul, div-le_self, arith, get_or-set_same, get_or-set_other, set-set, ltb-true}
use Rattle.std.proofs.Common.{ltb-false, le-leb}
use Rattle.std.proofs.Math.Path.{ap, fun_ext}
use Rattle.std.proofs.Math.ListN.{length-set}
use Rattle.std.proofs.lemmas.Bool.{lt-leb, eqb-false}
use Rattle.cover.specs.Sets.{when, value_of}
use Rattle.cover.specs.Greedy.{Entry, reach, run, bids, wins}
use Rattle.cover.specs.CriticalPrice.{largest, sum, ceiling, wins_at, critical, critical_paid, late, mute, withdrawn, share, bar}
use Rattle.cover.specs.CriticalPrice.{limit, rounds_paid}
use Rattle.cover.specs.Threshold.{Threshold, honest, enough}
use Rattle.cover.proofs.GreedyLaws.{shrink, rounds, withdrawn_same}
use Rattle.cover.proofs.GreedyCoverLaws.{Each, Covered}
use Rattle.cover.proofs.BarLaws.{under, bar_fewer}
use Rattle.cover.proofs.WinningLaws.{largest_below, value_less}

-- the rounds give no more than the ceiling

price_most : (ps : List ℕ) (i : ℕ) → get_or ps i 0 ≤ sum ps
unfolding sum
price_most [] i = omega arith
price_most (p ∷ ps) zero = omega arith
price_most (p ∷ ps) (suc i) = omega (arith, price_most ps i)

theirs_most : (has : ℕ → ℕ → Bool) (ps : List ℕ) (k i : ℕ) → (withdrawn k (bids has ps) i).price ≤ sum (set ps k 0)
unfolding withdrawn bids
theirs_most has ps k i = go (eqb i k) refl
  where
    go : (t : Bool) → eqb i k ≡ t → (mute t (bids has ps i)).price ≤ sum (set ps k 0)
    go true e = omega arith
    go false e = omega (arith, price_most (set ps k 0) i, get_or-set_other ps k i 0 0 (eqb-false i k e))

reach_most : (h : ℕ → Bool) (O : List ℕ) → reach h O ≤ length O
reach_most h O = omega (arith, shrink h O)

when_suc : (t : Bool) (x y : ℕ) → x ≤ y → when t (suc x) ≤ suc y
when_suc true x y l = omega arith
when_suc false x y l = omega arith

bar_most : (B : ℕ → Entry) (n k : ℕ) (h : ℕ → Bool) (top cells : ℕ) → ((i : ℕ) → (B i).price ≤ top)
    → (f : ℕ) (O : List ℕ) → length O ≤ f
    → length O ≤ cells → bar k h (run B n f O) ≤ suc (top * cells)
unfolding bar share
bar_most B n k h top cells most = rounds B n (λ O t. length O ≤ cells → bar k h t ≤ suc (top * cells)) (λ O e l. omega arith)
    (λ O i t b ih l. omega (
      arith,
      when_suc (ltb 0 (reach h O) && leb (late k i) ((B i).price * reach h O)) (((B i).price * reach h O - late k i) / reach (B i).has O)
          (top * cells)
          (omega (
            arith,
            div-le_self ((B i).price * reach h O - late k i) (reach (B i).has O),
            mul-le-mul (most i) (reach_most h O),
            mul-le-mul {n₁ = top} {n₂ = top} (omega arith) l,
          )),
      ih (omega (arith, shrink (B i).has O)),
    ))

pub limit_most : (has : ℕ → ℕ → Bool) (ps cells : List ℕ) (k : ℕ) → limit has ps cells k ≤ ceiling (set ps k 0) cells
unfolding limit ceiling
limit_most has ps cells k = bar_most (withdrawn k (bids has ps)) (length ps) k (has k) (sum (set ps k 0)) (length cells)
    (theirs_most has ps k) (length cells) cells (omega arith) (omega arith)

-- what the rounds give turns on nothing that bid k asks

pub wins_at_lem : (has : ℕ → ℕ → Bool) (ps cells : List ℕ) (k : ℕ) → k < length ps
    → Each (Covered (withdrawn k (bids has ps)) (length ps)) cells → wins has ps cells k ≡ ltb (get_or ps k 0) (limit has ps cells k)
unfolding wins limit
wins_at_lem has ps cells k l g = under (bids has ps) (length ps) k l (length cells) cells (omega arith) g

module _ (has : ℕ → ℕ → Bool) (ps cells : List ℕ) (k : ℕ) where
  -- what is left of the bids without k does not turn on what k asks or has
  theirs : (has' : ℕ → ℕ → Bool) → ((i : ℕ) → (i ≡ k → ⊥) → has' i ≡ has i) → (p : ℕ)
      → withdrawn k (bids has' (set ps k p)) ≡ withdrawn k (bids has ps)
  unfolding bids
  theirs has' f p = withdrawn_same k (bids has ps) (bids has' (set ps k p)) (λ i d. rw (get_or-set_other ps k i p 0 d, f i d))

  pub limit_same : (p : ℕ) → limit has (set ps k p) cells k ≡ limit has ps cells k
  unfolding limit
  limit_same p = rw (theirs has (λ i d. refl) p, length-set ps k p)

  -- fewer cells never raise it
  pub limit_fewer : (has' : ℕ → ℕ → Bool) → ((i : ℕ) → (i ≡ k → ⊥) → has' i ≡ has i)
      → ((x : ℕ) → has' k x ≡ true → has k x ≡ true)
      → (p : ℕ) → limit has' (set ps k p) cells k ≤ limit has ps cells k
  unfolding limit
  limit_fewer has' f g p = rw (theirs has' f p, length-set ps k p)
      (bar_fewer k (has' k) (has k) g (run (withdrawn k (bids has ps)) (length ps) (length cells) cells))

  -- where the other bids cover all the cells
  module _ (inside : k < length ps) (spare : Each (Covered (withdrawn k (bids has ps)) (length ps)) cells) where
    -- bid k wins at the prices below the limit
    pub wins_under : (p : ℕ) → wins_at has ps cells k p ≡ ltb p (limit has ps cells k)
    unfolding wins_at
    wins_under p = rw (get_or-set_same ps k p 0 inside, limit_same p)
        at (wins_at_lem has (set ps k p) cells k (rw (length-set ps k p) inside) (rw (
          theirs has (λ i d. refl) p,
          length-set ps k p,
        ) spare))

    -- the critical price is the maximum over the rounds
    pub critical_is : critical has ps cells k ≡ limit has ps cells k - 1
    unfolding critical
    critical_is = ap value_of (largest_below (wins_at has ps cells k) (limit has ps cells k) wins_under (ceiling (set ps k 0) cells)
        (limit_most has ps cells k)) ∙ value_less (limit has ps cells k)

    -- some price wins: then the critical price does, and the lower ones, and no higher
    pub some_price : (q : ℕ) → wins_at has ps cells k q ≡ true → (p : ℕ)
        → wins_at has ps cells k p ≡ leb p (critical has ps cells k)
    some_price q e p = wins_under p ∙ rw critical_is
        (step (limit has ps cells k) (omega (arith, ltb-true q (limit has ps cells k) (sym (wins_under q) ∙ e))))
      where
        step : (m : ℕ) → 0 < m → ltb p m ≡ leb p (m - 1)
        step m l = go (ltb p m) refl
          where
            go : (b : Bool) → ltb p m ≡ b → b ≡ leb p (m - 1)
            go true e = sym (le-leb p (m - 1) (omega (arith, ltb-true p m e)))
            go false e = sym (lt-leb p (m - 1) (omega (arith, ltb-false p m e)))

    -- the greedy cover is a threshold mechanism
    pub threshold : Threshold (wins_at has ps cells k) (critical has ps cells k)
    threshold = record {
      below = λ q e. omega (arith, critical_is, ltb-true q (limit has ps cells k) (sym (wins_under q) ∙ e));
      above = λ q e. omega (arith, critical_is, ltb-false q (limit has ps cells k) (sym (wins_under q) ∙ e));
    }

    -- the payment from the rounds
    pub paid_by_rounds : critical_paid has ps cells k ≡ rounds_paid has ps cells k
    unfolding critical_paid rounds_paid
    paid_by_rounds = ap (when (wins has ps cells k)) critical_is

-- where the other bids cover all the cells, and bid k may offer fewer
module _ (has : ℕ → ℕ → Bool) (ps cells : List ℕ) (k : ℕ) (inside : k < length ps)
    (spare : Each (Covered (withdrawn k (bids has ps)) (length ps)) cells)
    (has' : ℕ → ℕ → Bool) (others : (i : ℕ) → (i ≡ k → ⊥) → has' i ≡ has i)
    (fewer : (x : ℕ) → has' k x ≡ true → has k x ≡ true) where
  fewer_is : (q : ℕ) → critical has' (set ps k q) cells k ≡ limit has' (set ps k q) cells k - 1
  fewer_is q = critical_is has' (set ps k q) cells k (rw (length-set ps k q) inside)
      (rw (theirs has ps cells k has' others q, length-set ps k q) spare)

  -- fewer cells never raise the critical price
  pub critical_fewer : (q : ℕ) → critical has' (set ps k q) cells k ≤ critical has ps cells k
  critical_fewer q = omega (arith, fewer_is q, critical_is has ps cells k inside spare, limit_fewer has ps cells k has' others fewer q)

prices_same : (has : ℕ → ℕ → Bool) (ps cells : List ℕ) (k q : ℕ) → wins_at has (set ps k q) cells k ≡ wins_at has ps cells k
unfolding wins_at
prices_same has ps cells k q = fun_ext (λ p. ap (λ l. wins has l cells k) (set-set ps k q p))

-- the critical price does not turn on the price named
pub critical_same : (has : ℕ → ℕ → Bool) (ps cells : List ℕ) (k q : ℕ)
    → critical has (set ps k q) cells k ≡ critical has ps cells k
unfolding critical
critical_same has ps cells k q = ap (λ f. value_of (largest f (ceiling (set (set ps k q) k 0) cells))) (prices_same has ps cells k q)
    ∙ ap (λ l. value_of (largest (wins_at has ps cells k) (ceiling l cells))) (set-set ps k q 0)

module _ (has : ℕ → ℕ → Bool) (ps cells : List ℕ) (k : ℕ) (inside : k < length ps)
    (spare : Each (Covered (withdrawn k (bids has ps)) (length ps)) cells) where
  paid_is : (q : ℕ) → critical_paid has (set ps k q) cells k ≡ when (wins_at has ps cells k q) (critical has ps cells k)
  unfolding critical_paid wins_at
  paid_is q = rw (critical_same has ps cells k q)

  -- whoever's cost is c gains no more by asking q and offering fewer cells
  pub truthful : (has' : ℕ → ℕ → Bool) → ((i : ℕ) → (i ≡ k → ⊥) → has' i ≡ has i)
      → ((x : ℕ) → has' k x ≡ true → has k x ≡ true) → (c q : ℕ)
      → critical_paid has' (set ps k q) cells k + when (wins has (set ps k c) cells k) c ≤ critical_paid has (set ps k c) cells k
      + when (wins has' (set ps k q) cells k) c
  unfolding critical_paid wins_at
  truthful has' others fewer c q = rw (critical_same has ps cells k c)
      (honest (wins_at has ps cells k) (critical has ps cells k) (threshold has ps cells k inside spare) c (wins has' (set ps k q) cells k)
      (critical has' (set ps k q) cells k)
      (critical_fewer has ps cells k inside spare has' others fewer q))

  -- a winner is paid no less than it asks
  pub fair : (q : ℕ) → when (wins has (set ps k q) cells k) q ≤ critical_paid has (set ps k q) cells k
  unfolding wins_at
  fair q = rw (paid_is q) (enough (wins_at has ps cells k) (critical has ps cells k) (threshold has ps cells k inside spare) q)
