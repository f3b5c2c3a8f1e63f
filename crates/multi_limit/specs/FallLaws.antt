-- A round that closes none of bid k's cells does not raise the bar: the bids that are taken later ask no less for each cell. Assumes
-- nothing.
use Rattle.std.specs.Prelude.{◌≡◌, refl, Bool, true, false, ◌&&◌, List, ℕ, zero, suc, ◌+◌, ◌-◌, ◌*◌, ◌/◌}
use Rattle.std.specs.Prelude.{◌≤◌, ◌<◌, max, leb, ltb, eqb}
use Rattle.std.proofs.Common.{sym, ap, ap₂, ◌∙◌, mul-le-mul_left, arith, ltb-true, ltb-false, le-leb, leb-true, eqb-true}
use Rattle.std.proofs.lemmas.Bool.{eqb-false}
use Rattle.cover.specs.Sets.{when, found}
use Rattle.cover.proofs.SetLaws.{and_split}
use Rattle.cover.specs.Greedy.{Entry, reach, keep, close, best}
use Rattle.cover.proofs.GreedyLaws.{best_right, close_other}
use Rattle.cover.specs.CriticalPrice.{late, share, bar}
use Rattle.cover.proofs.BarLaws.{share_right}
use Rattle.cover.proofs.PickLaws.{Best, late_no, late_yes, late_most, chain, chain_lt}
use Rattle.multi_market.specs.Opens.{opens}
use Rattle.multi_market.proofs.RunLaws.{rounds_of, rounds_more}

-- a/b ≤ c/d < e/f
chain_le_lt : (a b c d e f : ℕ) → 0 < b → a * d ≤ c * b → c * f < e * d → a * f < e * b
chain_le_lt a b c d e f l g h = go (ltb (a * f) (e * b)) refl
  where
    go : (t : Bool) → ltb (a * f) (e * b) ≡ t → a * f < e * b
    go true q = ltb-true _ _ q
    go false q = absurd (omega (arith, chain e f a b c d l (ltb-false (a * f) (e * b) q) g))

-- the bid i at a/b comes before j at c/d, and that before k at e/f
goes_ahead : (i j k a b c d e f : ℕ) → 0 < b → 0 < d → 0 < f → a * d + late i j ≤ c * b → c * f + late j k ≤ e * d
    → a * f + late i k ≤ e * b
goes_ahead i j k a b c d e f lb ld lf g h = go (ltb k i) (ltb j i) refl refl
  where
    go : (s t : Bool) → ltb k i ≡ s → ltb j i ≡ t → a * f + late i k ≤ e * b
    go false t u v = omega (arith, late_no i k (ltb-false k i u), chain a b c d e f ld (omega arith) (omega arith))
    go true true u v = omega (
      arith,
      late_most i k,
      late_yes i j (ltb-true j i v),
      chain_lt a b c d e f lf (omega (arith, late_yes i j (ltb-true j i v))) (omega arith),
    )
    go true false u v = omega (
      arith,
      late_most i k,
      chain_le_lt a b c d e f lb (omega arith) (omega (arith, late_yes j k (omega (arith, ltb-true k i u, ltb-false j i v)))),
    )

-- b at q/r comes before j at y/s: what bid k, with m cells, may ask to be taken before b it may ask to be taken before j
share_le : (k b j q r y s m : ℕ) → 0 < r → 0 < s → q * s + late b j ≤ y * r
    → when (ltb 0 m && leb (late k b) (q * m)) (suc ((q * m - late k b) / r))
    ≤ when (ltb 0 m && leb (late k j) (y * m)) (suc ((y * m - late k j) / s))
share_le k b j q r y s m lr ls h = go (ltb more less) refl
  where
    less : ℕ
    less = when (ltb 0 m && leb (late k b) (q * m)) (suc ((q * m - late k b) / r))

    more : ℕ
    more = when (ltb 0 m && leb (late k j) (y * m)) (suc ((y * m - late k j) / s))

    go : (t : Bool) → ltb more less ≡ t → less ≤ more
    go false e = ltb-false more less e
    go true e =
        let u = and_split (ltb 0 m) (leb (more * r + late k b) (q * m)) (share_right (ltb 0 m) more r (late k b) (q * m) lr ∙ e) in
        let v = goes_ahead k b j more m q r y s (ltb-true 0 m u.0) lr ls (leb-true (more * r + late k b) (q * m) u.1) h in
        let w : ltb 0 m && leb (more * s + late k j) (y * m) ≡ true
        = ap₂ (λ (a b : Bool). a && b) u.0 (le-leb (more * s + late k j) (y * m) v) in
        absurd (omega (arith, ltb-true more more (sym (share_right (ltb 0 m) more s (late k j) (y * m) ls) ∙ w)))

pub bar_falls : (B : ℕ → Entry) (n k : ℕ) (h : ℕ → Bool) (O : List ℕ) (b j : ℕ) → best B n O ≡ found b
    → reach h (close (B b).has O) ≡ reach h O → best B n (close (B b).has O) ≡ found j
    → bar k h (rounds_of B n O) ≡ bar k h (rounds_of B n (close (B b).has O))
unfolding bar share
bar_falls B n k h O b j e same d = ap (bar k h) (rounds_more B n O b e) ∙ omega (arith, later, lower)
  where
    first : Best (λ i. (B i).price) (λ i. reach (B i).has O) n b
    first = rw e at (best_right B n O)

    second : Best (λ i. (B i).price) (λ i. reach (B i).has (close (B b).has O)) n j
    second = rw d at (best_right B n (close (B b).has O))

    fewer : reach (B j).has (close (B b).has O) ≤ reach (B j).has O
    fewer = close_other (B b).has (B j).has O

    ahead : (B b).price * reach (B j).has (close (B b).has O) + late b j ≤ (B j).price * reach (B b).has O
    ahead = omega (
      arith,
      mul-le-mul_left (B b).price fewer,
      first.least j second.inside (omega (arith, second.good, fewer)),
    )

    lower : share k h b (B b) O ≤ share k h j (B j) (close (B b).has O)
    lower = rw same (share_le k b j (B b).price (reach (B b).has O) (B j).price (reach (B j).has (close (B b).has O)) (reach h O)
        first.good second.good ahead)

    later : bar k h (rounds_of B n (close (B b).has O))
        ≡ max (share k h j (B j) (close (B b).has O)) (bar k h (rounds_of B n (close (B j).has (close (B b).has O))))
    later = ap (bar k h) (rounds_more B n (close (B b).has O) j d)

-- ---- a cell that is reached
pub record Cell (h : ℕ → Bool) (f : ℕ → ℕ) (n : ℕ) : Type 0 where
  pub place : ℕ
  pub below : place < n
  pub open_there : 0 < f place
  pub own : h place ≡ true

pub some_cell : (h : ℕ → Bool) (f : ℕ → ℕ) (n : ℕ) → 0 < reach h (opens f n) → Cell h f n
unfolding opens reach keep
some_cell h f zero l = absurd (omega arith)
some_cell h f (suc n) l = go (eqb (f n) 0) (h n) refl refl l (some_cell h f n)
  where
    up : Cell h f n → Cell h f (suc n)
    up c = record { place = c.place; below = omega (arith, c.below); open_there = c.open_there; own = c.own }

    go : (t u : Bool) → eqb (f n) 0 ≡ t → h n ≡ u → 0 < reach h (keep t n (opens f n))
        → (0 < reach h (opens f n) → Cell h f n)
        → Cell h f (suc n)
    go true u e d q ih = up (ih q)
    go false true e d q ih = record { place = n; below = omega arith; open_there = omega (arith, eqb-false (f n) 0 e); own = d }
    go false false e d q ih = up (ih (omega (arith, rw d at q)))

pub reached_cell : (h : ℕ → Bool) (f : ℕ → ℕ) (n x : ℕ) → x < n → 0 < f x → h x ≡ true → 0 < reach h (opens f n)
unfolding opens reach keep
reached_cell h f zero x l g e = absurd (omega arith)
reached_cell h f (suc n) x l g e = go (eqb (f n) 0) (eqb x n) refl refl (reached_cell h f n x)
  where
    go : (t u : Bool) → eqb (f n) 0 ≡ t → eqb x n ≡ u → (x < n → 0 < f x → h x ≡ true → 0 < reach h (opens f n))
        → 0 < reach h (keep t n (opens f n))
    go true true d q ih = absurd (omega (arith, eqb-true (f n) 0 d, rw (eqb-true x n q) at g))
    go true false d q ih = ih (omega (arith, eqb-false x n q)) g e
    go false true d q ih = let z : h n ≡ true = rw (← eqb-true x n q) e in rw z (omega arith)
    go false false d q ih = omega (arith, ih (omega (arith, eqb-false x n q)) g e)
