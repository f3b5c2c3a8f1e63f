-- The prices at which bid k is taken are those below a bar, which the run without k fixes. Assumes nothing.
use Rattle.std.specs.Prelude.{◌≡◌, refl, Bool, true, false, ◌&&◌, ◌||◌, List, [], ◌∷◌, ℕ, zero, suc, ◌+◌, ◌-◌}
use Rattle.std.specs.Prelude.{◌*◌, ◌/◌, max, ◌≤◌, ◌<◌, length, leb, ltb}
use Rattle.std.proofs.Common.{sym, ap, ◌∙◌, le-div_iff_mul-le, mul-le-mul_left, div-mul-le_self, arith, ltb-true, ltb-false, lt-ltb}
use Rattle.std.proofs.Common.{le-ltb, le-leb, leb-true, leb-false}
use Rattle.std.proofs.lemmas.Bool.{false≢true, lt-leb}
use Rattle.std.proofs.Math.Nat.{div-zero}
use Rattle.cover.specs.Sets.{when}
use Rattle.cover.specs.Greedy.{Entry, reach, Rounds, stop, round, run, taken, left}
use Rattle.cover.specs.CriticalPrice.{late, withdrawn, bar}
use Rattle.cover.specs.Chance.{chance}
use Rattle.cover.proofs.GreedyLaws.{rounds, follow}
use Rattle.cover.proofs.GreedyCoverLaws.{Each, Covered, covered_closes}

both : (a b : Bool) → (a ≡ true → b ≡ true) → (b ≡ true → a ≡ true) → a ≡ b
both true b f g = sym (f refl)
both false true f g = g refl
both false false f g = refl

pub share_right : (a : Bool) (p m l x : ℕ) → 0 < m → a && leb (p * m + l) x ≡ ltb p (when (a && leb l x) (suc ((x - l) / m)))
share_right false p m l x g = sym (le-ltb p 0 (omega arith))
share_right true p m l x g = go (leb l x) refl
  where
    go : (t : Bool) → leb l x ≡ t → leb (p * m + l) x ≡ ltb p (when t (suc ((x - l) / m)))
    go true e = let h = leb-true l x e in both _ _
        (λ f. lt-ltb p (suc ((x - l) / m)) (omega (
          arith,
          (le-div_iff_mul-le {x = p} {y = x - l} g).1 (omega (arith, leb-true (p * m + l) x f)),
        )))
        (λ f. le-leb (p * m + l) x (omega (
          arith,
          (le-div_iff_mul-le {x = p} {y = x - l} g).0
              (omega (arith, ltb-true p (suc ((x - l) / m)) f)),
        )))
    go false e = lt-leb (p * m + l) x (omega (arith, leb-false l x e)) ∙ sym (le-ltb p 0 (omega arith))

ltb_max : (p u v : ℕ) → ltb p u || ltb p v ≡ ltb p (max u v)
ltb_max p u v = go (ltb p u) (ltb p v) refl refl
  where
    go : (s t : Bool) → ltb p u ≡ s → ltb p v ≡ t → s || t ≡ ltb p (max u v)
    go true t e f = sym (lt-ltb p (max u v) (omega (arith, ltb-true p u e)))
    go false true e f = sym (lt-ltb p (max u v) (omega (arith, ltb-true p v f)))
    go false false e f = sym (le-ltb p (max u v) (omega (arith, ltb-false p u e, ltb-false p v f)))

-- whoever is taken reaches a cell
abbrev Sound : Rounds → Type 0
Sound (stop O) = Unit {0}
Sound (round i c O t) = (0 < reach c.has O) × Sound t

bar_right : (k p : ℕ) (h : ℕ → Bool) (t : Rounds) → Sound t → reach h (left t) ≡ 0 → chance k p h t ≡ ltb p (bar k h t)
unfolding bar chance left
bar_right k p h (stop O) s e = rw e (sym (le-ltb p 0 (omega arith)))
bar_right k p h (round i c O t) s e = rw (
  share_right (ltb 0 (reach h O)) p (reach c.has O) (late k i) (c.price * reach h O) s.0,
  bar_right k p h t s.1 e,
) (ltb_max p _ _)

-- where the bids withdrawn k cover all the cells, bid k is taken just where its price is below the bar
pub under : (B : ℕ → Entry) (n k : ℕ) → k < n → (f : ℕ) (O : List ℕ) → length O ≤ f → Each (Covered (withdrawn k B) n) O
    → taken k (run B n f O) ≡ ltb (B k).price (bar k (B k).has (run (withdrawn k B) n f O))
unfolding reach
under B n k m f O l g = follow n k m B f O l ∙ bar_right k (B k).price (B k).has _
    (rounds (withdrawn k B) n (λ O t. Sound t) (λ O e. tt) (λ O i t b ih. (b.good, ih)) f O l)
    (ap (reach (B k).has) (covered_closes (withdrawn k B) n f O l g))

-- fewer cells, a lower bar
reach_fewer : (g h : ℕ → Bool) → ((x : ℕ) → g x ≡ true → h x ≡ true) → (O : List ℕ) → reach g O ≤ reach h O
unfolding reach
reach_fewer g h f [] = omega arith
reach_fewer g h f (x ∷ O) = go (g x) (h x) (f x) (reach_fewer g h f O)
  where
    go : (s t : Bool) → (s ≡ true → t ≡ true) → reach g O ≤ reach h O → when s 1 + reach g O ≤ when t 1 + reach h O
    go true true e l = omega arith
    go true false e l = absurd (false≢true (e refl))
    go false true e l = omega arith
    go false false e l = omega arith

pub div_le : (x y m : ℕ) → x ≤ y → x / m ≤ y / m
div_le x y zero l = omega (arith, div-zero x)
div_le x y (suc m) l = (le-div_iff_mul-le {k = suc m} {x = x / suc m} {y = y} (omega arith)).1 (omega (arith, div-mul-le_self x (suc m)))

share_fewer : (l m q r s : ℕ) → r ≤ s → when (ltb 0 r && leb l (q * r)) (suc ((q * r - l) / m))
    ≤ when (ltb 0 s && leb l (q * s)) (suc ((q * s - l) / m))
share_fewer l m q r s h = go (ltb 0 r) (leb l (q * r)) refl refl
  where
    go : (a b : Bool) → ltb 0 r ≡ a → leb l (q * r) ≡ b
        → when (a && b) (suc ((q * r - l) / m)) ≤ when (ltb 0 s && leb l (q * s)) (suc ((q * s - l) / m))
    go true true d e = rw (
      lt-ltb 0 s (omega (arith, ltb-true 0 r d)),
      le-leb l (q * s) (omega (arith, mul-le-mul_left q h, leb-true l (q * r) e)),
    )
        (omega (arith, div_le (q * r - l) (q * s - l) m (omega (arith, mul-le-mul_left q h))))
    go true false d e = omega arith
    go false b d e = omega arith

pub bar_fewer : (k : ℕ) (g h : ℕ → Bool) → ((x : ℕ) → g x ≡ true → h x ≡ true) → (t : Rounds)
    → bar k g t ≤ bar k h t
unfolding bar
bar_fewer k g h f (stop O) = omega arith
bar_fewer k g h f (round i c O t) = omega (
  arith,
  share_fewer (late k i) (reach c.has O) c.price (reach g O) (reach h O) (reach_fewer g h f O),
  bar_fewer k g h f t,
)
