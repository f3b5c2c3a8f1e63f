-- The least of the candidates at positions below k, by cost and then by number. Assumes nothing.
use Rattle.std.specs.Prelude.{◌≡◌, ◌⊎◌, Bool, true, false, ◌&&◌, ◌||◌, cond, ltb, eqb}
use Rattle.std.proofs.Math.Path.{refl}
use Rattle.std.proofs.Common.{sym, ap, ◌∙◌, inl, inr, true≢false, le_antisymm, eq-or-lt_of_le, le_of_suc-le-suc, ltb-true}
use Rattle.std.proofs.Common.{ltb-false, eqb-true}
use Rattle.std.proofs.lemmas.Bool.{false≢true, eqb-false}
use Prim.Native.Nat.{ℕ, zero, suc, ◌≤◌, ◌<◌}
use native.Mathlib.Omega.{arith}
use Rattle.cover.specs.Sets.{Found, found, nothing}
use Rattle.cover.proofs.LeastCoverLaws.{IsFirst}
use Rattle.cover.specs.Intervals.{found_cost, earlier, lesser, lesser_cost, scan, scan_cost}

-- a is before b, or is b: by cost, and then by number
pub record Precedes (cost : ℕ → ℕ) (a b : ℕ) : Type 0 where
  pub cheap : cost a ≤ cost b
  pub early : cost a ≡ cost b → a ≤ b

pub precedes_refl : (cost : ℕ → ℕ) (a : ℕ) → Precedes cost a a
precedes_refl cost a = record { cheap = omega arith; early = λ e. omega arith }

pub precedes_trans : {cost : ℕ → ℕ} {a b c : ℕ} → Precedes cost a b → Precedes cost b c → Precedes cost a c
precedes_trans {cost} {a} {b} {c} u v = record {
  cheap = omega arith;
  early = λ e. omega (arith, u.early (omega arith), v.early (omega arith));
}

pub record Least (P : ℕ → Type 0) (cost : ℕ → ℕ) (b : ℕ) : Type 0 where
  pub good : P b
  pub fore : (s : ℕ) → P s → Precedes cost b s

abbrev pub IsLeast : (ℕ → Type 0) → (ℕ → ℕ) → Found → Type 0
IsLeast P cost nothing = (s : ℕ) → P s → ⊥
IsLeast P cost (found b) = Least P cost b

-- one of P is before s, or is s
pub record SomeBefore (P : ℕ → Type 0) (cost : ℕ → ℕ) (s : ℕ) : Type 0 where
  pub one : ℕ
  pub good : P one
  pub fore : Precedes cost one s

pub least_one : (P : ℕ → Type 0) (cost : ℕ → ℕ) (r t : Found) → IsLeast P cost r → IsLeast P cost t → r ≡ t
least_one P cost nothing nothing u v = refl
least_one P cost nothing (found b) u v = absurd (u b v.good)
least_one P cost (found a) nothing u v = absurd (v a u.good)
least_one P cost (found a) (found b) u v = ap found (le_antisymm (x.early same) (y.early (sym same)))
  where
    x : Precedes cost a b
    x = u.fore b v.good

    y : Precedes cost b a
    y = v.fore a u.good

    same : cost a ≡ cost b
    same = le_antisymm x.cheap y.cheap

-- candidates among which each set has one before it decide the least of the sets
pub least_of : (P Q : ℕ → Type 0) (cost : ℕ → ℕ) → ((s : ℕ) → P s → Q s) → ((s : ℕ) → Q s → SomeBefore P cost s)
    → (r : Found)
    → IsLeast P cost r → IsLeast Q cost r
least_of P Q cost f g nothing h = λ s q. h (g s q).one (g s q).good
least_of P Q cost f g (found b) h = record {
  good = f b h.good;
  fore = λ s q. precedes_trans (h.fore (g s q).one (g s q).good) (g s q).fore;
}

pub least_same : (P Q : ℕ → Type 0) (cost : ℕ → ℕ) → ((s : ℕ) → P s → Q s) → ((s : ℕ) → Q s → P s)
    → (r : Found) → IsLeast P cost r
    → IsLeast Q cost r
least_same P Q cost f g = least_of P Q cost f (λ s q. record { one = s; good = g s q; fore = precedes_refl cost s })

-- the sets of a family below n, as candidates
pub record Family (ok : ℕ → Bool) (n s : ℕ) : Type 0 where
  pub inside : s < n
  pub good : ok s ≡ true

pub right_least : (ok : ℕ → Bool) (cost : ℕ → ℕ) (n : ℕ) (r : Found) → IsFirst ok cost n r → IsLeast (Family ok n) cost r
right_least ok cost n nothing h = λ s q. h s q.inside q.good
right_least ok cost n (found b) h = record {
  good = record { inside = h.inside; good = h.good };
  fore = λ s q. record { cheap = h.least s q.inside q.good; early = λ e. h.earliest s q.inside q.good (sym e) };
}

pub found_one : {a b : ℕ} → found a ≡ found b → a ≡ b
found_one e = cc

pub none_found : {b : ℕ} → nothing ≡ found b → ⊥
none_found e = let z : ◌≡◌ {A = ℕ} 0 1 = cc in omega arith

fore_of : (cost : ℕ → ℕ) (a b : ℕ) (t u w : Bool) → ltb (cost a) (cost b) ≡ t → eqb (cost a) (cost b) ≡ u → ltb a b ≡ w
    → t || (u && w) ≡ true → Precedes cost a b
fore_of cost a b true u w x y z e = record {
  cheap = omega (arith, ltb-true (cost a) (cost b) x);
  early = λ q. omega (arith, ltb-true (cost a) (cost b) x);
}
fore_of cost a b false true true x y z e = record
    { cheap = omega (arith, eqb-true (cost a) (cost b) y); early = λ q. omega (arith, ltb-true a b z) }
fore_of cost a b false true false x y z e = absurd (false≢true e)
fore_of cost a b false false w x y z e = absurd (false≢true e)

fore_not : (cost : ℕ → ℕ) (a b : ℕ) (t u w : Bool) → ltb (cost a) (cost b) ≡ t → eqb (cost a) (cost b) ≡ u → ltb a b ≡ w
    → t || (u && w) ≡ false → Precedes cost b a
fore_not cost a b true u w x y z e = absurd (true≢false e)
fore_not cost a b false true true x y z e = absurd (true≢false e)
fore_not cost a b false true false x y z e = record {
  cheap = omega (arith, ltb-false (cost a) (cost b) x);
  early = λ q. omega (arith, ltb-false a b z);
}
fore_not cost a b false false w x y z e = record {
  cheap = omega (arith, ltb-false (cost a) (cost b) x);
  early = λ q. absurd (eqb-false (cost a) (cost b) y (sym q));
}

pub earlier_true : (cost : ℕ → ℕ) (a b : ℕ) → earlier cost a b ≡ true → Precedes cost a b
unfolding earlier
earlier_true cost a b = fore_of cost a b (ltb (cost a) (cost b)) (eqb (cost a) (cost b)) (ltb a b) refl refl refl

pub earlier_false : (cost : ℕ → ℕ) (a b : ℕ) → earlier cost a b ≡ false → Precedes cost b a
unfolding earlier
earlier_false cost a b = fore_not cost a b (ltb (cost a) (cost b)) (eqb (cost a) (cost b)) (ltb a b) refl refl refl

-- of the candidates P and one more, x
pub lesser_least : (P Q : ℕ → Type 0) (cost : ℕ → ℕ) (x r : Found) → ((s : ℕ) → P s → Q s)
    → ((s : ℕ) → x ≡ found s → Q s)
    → ((s : ℕ) → Q s → P s ⊎ (x ≡ found s)) → IsLeast P cost r → IsLeast Q cost (lesser cost x r)
unfolding lesser
lesser_least P Q cost nothing r f g d h = least_same P Q cost f (λ s q. go s (d s q)) r h
  where
    go : (s : ℕ) → P s ⊎ (nothing ≡ found s) → P s
    go s (inl p) = p
    go s (inr e) = absurd (none_found e)
lesser_least P Q cost (found a) nothing f g d h = record { good = g a refl; fore = λ s q. go s (d s q) }
  where
    go : (s : ℕ) → P s ⊎ (found a ≡ found s) → Precedes cost a s
    go s (inl p) = absurd (h s p)
    go s (inr e) = rw (← found_one e) (precedes_refl cost a)
lesser_least P Q cost (found a) (found b) f g d h = by (earlier cost a b) refl
  where
    go : (s : ℕ) → Precedes cost a b → P s ⊎ (found a ≡ found s) → Precedes cost a s
    go s l (inl p) = precedes_trans l (h.fore s p)
    go s l (inr e) = rw (← found_one e) (precedes_refl cost a)

    to : (s : ℕ) → Precedes cost b a → P s ⊎ (found a ≡ found s) → Precedes cost b s
    to s l (inl p) = h.fore s p
    to s l (inr e) = rw (← found_one e) l

    by : (t : Bool) → earlier cost a b ≡ t → IsLeast Q cost (cond t (found a) (found b))
    by true e = record { good = g a refl; fore = λ s q. go s (earlier_true cost a b e) (d s q) }
    by false e = record { good = f b h.good; fore = λ s q. to s (earlier_false cost a b e) (d s q) }

-- s stands at a position below k that passes
pub record Picked (test : ℕ → Bool) (v : ℕ → Found) (k s : ℕ) : Type 0 where
  pub at : ℕ
  pub inside : at < k
  pub passes : test at ≡ true
  pub value : v at ≡ found s

module _ (cost : ℕ → ℕ) (test : ℕ → Bool) (v : ℕ → Found) where
  more : (k s : ℕ) → Picked test v k s → Picked test v (suc k) s
  more k s q = record { at = q.at; inside = omega arith; passes = q.passes; value = q.value }

  here : (k s : ℕ) → test k ≡ true → v k ≡ found s → Picked test v (suc k) s
  here k s e q = record { at = k; inside = omega arith; passes = e; value = q }

  -- at the last position or below it
  cut : (k s : ℕ) → Picked test v (suc k) s → Picked test v k s ⊎ ((test k ≡ true) × (v k ≡ found s))
  cut k s q = go (eq-or-lt_of_le (le_of_suc-le-suc q.inside))
    where
      go : (q.at ≡ k) ⊎ (q.at < k) → Picked test v k s ⊎ ((test k ≡ true) × (v k ≡ found s))
      go (inl e) = inr (rw e at q.passes, rw e at q.value)
      go (inr l) = inl (record { at = q.at; inside = l; passes = q.passes; value = q.value })

  pub scan_step : (k : ℕ) (t : Bool) (r : Found) → test k ≡ t → IsLeast (Picked test v k) cost r
      → IsLeast (Picked test v (suc k)) cost (cond t (lesser cost (v k) r) r)
  scan_step k true r e h = lesser_least (Picked test v k) (Picked test v (suc k)) cost (v k) r (more k) (λ s. here k s e)
      (λ s q. go s (cut k s q)) h
    where
      go : (s : ℕ) → Picked test v k s ⊎ ((test k ≡ true) × (v k ≡ found s)) → Picked test v k s ⊎ (v k ≡ found s)
      go s (inl p) = inl p
      go s (inr p) = inr p.1
  scan_step k false r e h = least_same (Picked test v k) (Picked test v (suc k)) cost (more k) (λ s q. go s (cut k s q)) r h
    where
      go : (s : ℕ) → Picked test v k s ⊎ ((test k ≡ true) × (v k ≡ found s)) → Picked test v k s
      go s (inl p) = p
      go s (inr p) = absurd (false≢true (sym e ∙ p.0))

  pub scan_least : (k : ℕ) → IsLeast (Picked test v k) cost (scan cost test v k)
  unfolding scan
  scan_least zero = λ s q. omega arith
  scan_least (suc k) = scan_step k (test k) (scan cost test v k) refl (scan_least k)

cost_cond : (cost : ℕ → ℕ) (t : Bool) (x r : Found)
    → found_cost cost (cond t x r) ≡ cond t (found_cost cost x) (found_cost cost r)
cost_cond cost true x r = refl
cost_cond cost false x r = refl

cost_lesser : (cost : ℕ → ℕ) (x r : Found)
    → found_cost cost (lesser cost x r) ≡ lesser_cost (found_cost cost x) (found_cost cost r)
unfolding lesser lesser_cost found_cost
cost_lesser cost nothing r = refl
cost_lesser cost (found a) nothing = refl
cost_lesser cost (found a) (found b) = go (earlier cost a b) (ltb (cost a) (cost b)) refl refl
  where
    go : (t u : Bool) → earlier cost a b ≡ t → ltb (cost a) (cost b) ≡ u
        → found_cost cost (cond t (found a) (found b)) ≡ cond u (found (cost a)) (found (cost b))
    go true true e d = refl
    go true false e d = ap found (omega (arith, (earlier_true cost a b e).cheap, ltb-false (cost a) (cost b) d))
    go false true e d = ap found (omega (arith, (earlier_false cost a b e).cheap, ltb-true (cost a) (cost b) d))
    go false false e d = refl

-- the least cost is the cost of the least
pub cost_scan : (cost : ℕ → ℕ) (test : ℕ → Bool) (v w : ℕ → Found) (k : ℕ)
    → ((q : ℕ) → q < k → test q ≡ true → w q ≡ found_cost cost (v q))
    → found_cost cost (scan cost test v k) ≡ scan_cost test w k
unfolding scan scan_cost found_cost
cost_scan cost test v w zero f = refl
cost_scan cost test v w (suc k) f = cost_cond cost (test k) (lesser cost (v k) (scan cost test v k)) (scan cost test v k)
    ∙ go (test k) refl (cost_scan cost test v w k (λ q l. f q (omega arith)))
  where
    go : (t : Bool) → test k ≡ t → found_cost cost (scan cost test v k) ≡ scan_cost test w k
        → cond t (found_cost cost (lesser cost (v k) (scan cost test v k))) (found_cost cost (scan cost test v k))
        ≡ cond t (lesser_cost (w k) (scan_cost test w k)) (scan_cost test w k)
    go true e d = rw (cost_lesser, d, f k (omega arith) e)
    go false e d = d

-- the costs of the sets P
pub record Costs (P : ℕ → Type 0) (cost : ℕ → ℕ) (e : ℕ) : Type 0 where
  pub set : ℕ
  pub good : P set
  pub is : cost set ≡ e

-- one of P is at most e
pub record Under (P : ℕ → Type 0) (e : ℕ) : Type 0 where
  pub one : ℕ
  pub good : P one
  pub under : one ≤ e

abbrev pub IsMin : (ℕ → Type 0) → Found → Type 0
IsMin P nothing = (s : ℕ) → P s → ⊥
IsMin P (found b) = P b × ((s : ℕ) → P s → b ≤ s)

pub min_cost : (P : ℕ → Type 0) (cost : ℕ → ℕ) (r : Found) → IsLeast P cost r → IsMin (Costs P cost) (found_cost cost r)
unfolding found_cost
min_cost P cost nothing h = λ s q. h q.set q.good
min_cost P cost (found b) h = (record { set = b; good = h.good; is = refl }, λ s q. omega (arith, (h.fore q.set q.good).cheap))

-- where each of P has one of Q that is at most it, and each of Q one of P, the least are one
pub min_one : (P Q : ℕ → Type 0) → ((s : ℕ) → P s → Under Q s) → ((s : ℕ) → Q s → Under P s) → (r t : Found)
    → IsMin P r → IsMin Q t → r ≡ t
min_one P Q f g nothing nothing u v = refl
min_one P Q f g nothing (found b) u v = absurd (u (g b v.0).one (g b v.0).good)
min_one P Q f g (found a) nothing u v = absurd (v (f a u.0).one (f a u.0).good)
min_one P Q f g (found a) (found b) u v = ap found
    (omega (
      arith,
      u.1 (g b v.0).one (g b v.0).good,
      (g b v.0).under,
      v.1 (f a u.0).one (f a u.0).good,
      (f a u.0).under,
    ))

least_min : (P : ℕ → Type 0) (r : Found) → IsLeast P (λ e. e) r → IsMin P r
least_min P nothing h = h
least_min P (found b) h = (h.good, λ s q. (h.fore s q).cheap)

cost_same : (r : Found) → found_cost (λ e. e) r ≡ r
unfolding found_cost
cost_same nothing = refl
cost_same (found b) = refl

pub scan_min : (test : ℕ → Bool) (w : ℕ → Found) (k : ℕ) → IsMin (Picked test w k) (scan_cost test w k)
scan_min test w k = rw same at (least_min (Picked test w k) (scan (λ e. e) test w k) (scan_least (λ e. e) test w k))
  where
    same : scan (λ e. e) test w k ≡ scan_cost test w k
    same = sym (cost_same (scan (λ e. e) test w k)) ∙ cost_scan (λ e. e) test w w k (λ q l d. sym (cost_same (w q)))
