-- Laws of counts: two bidders of a cell are two different bids, also by their positions in an order of the bids. Assumes nothing.
use Rattle.std.specs.Prelude.{◌≡◌, List, Bool, ℕ, zero, suc, ◌+◌, ◌-◌, ◌≤◌, ◌<◌, get_or}
use Rattle.std.proofs.Math.Path.{refl}
use Rattle.std.proofs.Common.{sym, ap, ◌∙◌}
use Rattle.std.proofs.Math.Bool.{true, false}
use native.Mathlib.Omega.{arith}
use Rattle.std.proofs.Math.Dec.{ltb, eqb}
use borrow.Author.Tests.{ltb-true, ltb-false, lt-ltb, le-ltb, eqb-true, eqb-false, eq-eqb}
use Rattle.cover.specs.Sets.{when, bidders}
use Rattle.cover.proofs.SetLaws.{when_one}
use Rattle.cover.proofs.SpareLaws.{another}
use Rattle.cover.specs.Intervals.{Order}

bidders_fit : (has : ℕ → ℕ → Bool) (n x : ℕ) → bidders has n x ≤ n
unfolding bidders
bidders_fit has zero x = omega arith
bidders_fit has (suc n) x = omega (arith, when_one (has n x), bidders_fit has n x)

pub some_bidder : (has : ℕ → ℕ → Bool) (n x i : ℕ) → i < n → has i x ≡ true → 1 ≤ bidders has n x
unfolding bidders
some_bidder has zero x i l e = absurd (omega arith)
some_bidder has (suc n) x i l e = go (ltb i n) refl (some_bidder has n x i)
  where
    go : (b : Bool) → ltb i n ≡ b → (i < n → has i x ≡ true → 1 ≤ bidders has n x)
        → 1 ≤ when (has n x) 1 + bidders has n x
    go true t ih = omega (arith, ih (ltb-true i n t) e)
    go false t ih = let d : i ≡ n = omega (arith, ltb-false i n t) in omega (arith, ap (λ b. when b 1) (rw d at e))

two_bidders : (has : ℕ → ℕ → Bool) (n x i j : ℕ) → i < n → j < n → (i ≡ j → ⊥) → has i x ≡ true
    → has j x ≡ true → 2 ≤ bidders has n x
unfolding bidders
two_bidders has zero x i j l m d e f = absurd (omega arith)
two_bidders has (suc n) x i j l m d e f = go (ltb i n) (ltb j n) refl refl (two_bidders has n x i j)
  where
    go : (a b : Bool) → ltb i n ≡ a → ltb j n ≡ b
        → (i < n → j < n → (i ≡ j → ⊥) → has i x ≡ true → has j x ≡ true → 2 ≤ bidders has n x)
        → 2 ≤ when (has n x) 1 + bidders has n x
    go true true s t ih = omega (arith, ih (ltb-true i n s) (ltb-true j n t) d e f)
    go true false s t ih = let g : j ≡ n = omega (arith, ltb-false j n t) in
        omega (arith, ap (λ b. when b 1) (rw g at f), some_bidder has n x i (ltb-true i n s) e)
    go false b s t ih = let g : i ≡ n = omega (arith, ltb-false i n s) in
        omega (arith, ap (λ b. when b 1) (rw g at e), some_bidder has n x j (omega (arith, d)) f)

-- bids that are renamed, no two to one, stay two
two_renamed : (has has' : ℕ → ℕ → Bool) (n x : ℕ) (f : (i : ℕ) → i < n → ℕ) → ((i : ℕ) (l : i < n) → f i l < n)
    → ((i j : ℕ) (l : i < n) (m : j < n) → f i l ≡ f j m → i ≡ j)
    → ((i : ℕ) (l : i < n) → has i x ≡ true → has' (f i l) x ≡ true) → 2 ≤ bidders has n x
    → 2 ≤ bidders has' n x
two_renamed has has' n x f inside once same b =
    let u = another has 0 x n b in
    let v = another has u.who x n b in
    two_bidders has' n x (f u.who u.inside) (f v.who v.inside) (inside u.who u.inside) (inside v.who v.inside)
    (λ e. v.other (sym (once u.who v.who u.inside v.inside e)))
    (same u.who u.inside u.covers_it) (same v.who v.inside v.covers_it)

-- how many of the first n numbers are x, and how many are below x
unfoldable times : List ℕ → ℕ → ℕ → ℕ
unfolding bidders
times xs n x = bidders (λ i y. eqb (get_or xs i 0) y) n x

unfoldable count_below : List ℕ → ℕ → ℕ → ℕ
unfolding bidders
count_below xs n x = bidders (λ i y. ltb (get_or xs i 0) y) n x

below_more : (xs : List ℕ) (n x : ℕ) → count_below xs n (x + 1) ≡ count_below xs n x + times xs n x
unfolding count_below times bidders
below_more xs zero x = refl
below_more xs (suc n) x = omega (arith, below_more xs n x, go (ltb (get_or xs n 0) x) (eqb (get_or xs n 0) x) refl refl)
  where
    go : (a b : Bool) → ltb (get_or xs n 0) x ≡ a → eqb (get_or xs n 0) x ≡ b
        → when (ltb (get_or xs n 0) (x + 1)) 1 ≡ when a 1 + when b 1
    go true true e f = absurd (omega (arith, ltb-true (get_or xs n 0) x e, eqb-true (get_or xs n 0) x f))
    go true false e f = ap (λ b. when b 1) (lt-ltb (get_or xs n 0) (x + 1) (omega (arith, ltb-true (get_or xs n 0) x e)))
    go false true e f = ap (λ b. when b 1) (lt-ltb (get_or xs n 0) (x + 1) (omega (arith, eqb-true (get_or xs n 0) x f)))
    go false false e f = ap (λ b. when b 1) (le-ltb (get_or xs n 0) (x + 1) (omega (
      arith,
      ltb-false (get_or xs n 0) x e,
      eqb-false (get_or xs n 0) x f,
    )))

-- an order of the bids has each of them once: n positions hold n bids, so that none holds one again
module _ (n : ℕ) (a : ℕ → ℕ) (order : List ℕ) (o : Order n a (λ q. get_or order q 0)) where
  found_once : (y : ℕ) → y < n → 1 ≤ times order n y
  unfolding times
  found_once y l = some_bidder (λ i y. eqb (get_or order i 0) y) n y (o.every y l).place (o.every y l).inside
      (eq-eqb (get_or order (o.every y l).place 0) y (o.every y l).is)

  climbs : (d y : ℕ) → y + d ≤ n → count_below order n y + d ≤ count_below order n (y + d)
  climbs zero y l = let e : y + 0 ≡ y = omega arith in rw e (omega arith)
  climbs (suc d) y l = let e : y + suc d ≡ y + d + 1 = omega arith in
      rw e (omega (arith, climbs d y (omega arith), below_more order n (y + d), found_once (y + d) (omega arith)))

  fits : count_below order n n ≤ n
  unfolding count_below
  fits = bidders_fit (λ i y. ltb (get_or order i 0) y) n n

  once_at_most : (y : ℕ) → y < n → times order n y ≤ 1
  once_at_most y l =
      let e : 0 + y ≡ y = omega arith in
      let f : y + 1 + (n - y - 1) ≡ n = omega arith in
      omega (arith, rw e at (climbs y 0 (omega arith)), below_more order n y, rw f at (climbs (n - y - 1) (y + 1) (omega arith)), fits)

  once : (q r : ℕ) → q < n → r < n → get_or order q 0 ≡ get_or order r 0 → q ≡ r
  unfolding times
  once q r l m e = go (eqb q r) refl
    where
      go : (b : Bool) → eqb q r ≡ b → q ≡ r
      go true t = eqb-true q r t
      go false t = absurd (omega (
        arith,
        once_at_most (get_or order r 0) (o.bids r m),
        two_bidders (λ i y. eqb (get_or order i 0) y) n (get_or order r 0) q r l m (eqb-false q r t)
            (eq-eqb (get_or order q 0) (get_or order r 0) e) (eq-eqb (get_or order r 0) (get_or order r 0) refl),
      ))

  -- two bidders are at two positions, and bids at two positions are two bidders
  module _ (has : ℕ → ℕ → Bool) (x : ℕ) where
    pub two_positions : 2 ≤ bidders has n x → 2 ≤ bidders (λ q. has (get_or order q 0)) n x
    two_positions = two_renamed has (λ q. has (get_or order q 0)) n x (λ i l. (o.every i l).place) (λ i l. (o.every i l).inside)
        (λ i j l m e. sym (o.every i l).is ∙ ap (λ (q : ℕ). get_or order q 0) e ∙ (o.every j m).is)
        (λ i l h. ap (λ (j : ℕ). has j x) (o.every i l).is ∙ h)

    pub two_at_positions : 2 ≤ bidders (λ q. has (get_or order q 0)) n x → 2 ≤ bidders has n x
    two_at_positions = two_renamed (λ q. has (get_or order q 0)) has n x (λ q l. get_or order q 0) (λ q l. o.bids q l)
        (λ q r l m e. once q r l m e) (λ q l h. h)
