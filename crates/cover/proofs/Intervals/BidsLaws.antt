-- Laws of bids given by lists of starts, ends and prices: the winners and payments by least sets and costs, and each cost by a
-- scan. Assumes nothing.
use Rattle.std.specs.Prelude.{◌≡◌, refl, Bool, true, false, cond, not, ◌&&◌, List, [], ◌∷◌, ltb, leb, eqb}
use Rattle.std.proofs.Common.{sym, ◌∙◌, pow-suc, ne_eqb}
use Rattle.std.proofs.Math.Path.{ap}
use Prim.Native.Nat.{ℕ, zero, suc, ◌+◌, ◌*◌, ◌/◌, ◌%◌, ◌^◌, ◌≤◌, ◌<◌}
use native.Mathlib.Omega.{arith}
use Rattle.std.proofs.Math.ListN.{length, get_or}
use Rattle.cover.specs.Sets.{Found, nothing, found, value_of, bit, cost, covers, when}
use Rattle.cover.specs.LeastCover.{winners, without, payment, vcg_paid}
use Rattle.cover.proofs.LeastCoverLaws.{IsFirst}
use Rattle.cover.specs.CriticalPrice.{sum}
use Rattle.cover.specs.Settled.{spans}
use Rattle.cover.specs.Intervals.{found_cost, scan_cost, lesser_cost, raise, across, least_set, reaches, At, covers_from, may_but}
use Rattle.cover.proofs.Intervals.ScanLaws.{found_one, none_found, Family, least_same, right_least}
use Rattle.cover.proofs.Intervals.PrefixLaws.{Prefixes, least_set_right, least_set_is, upper_cost, start, scan_cost_lem}
use Rattle.cover.proofs.Intervals.CoverLaws.{covers_prefixes, without_prefixes, priced, and_not_split}
use Rattle.cover.proofs.Intervals.SplitLaws.{unneeded}
use Rattle.cover.proofs.Intervals.PayLaws.{cost_without_lem}
use Rattle.cover.proofs.Intervals.AwardLaws.{winners_are, paid_is, whole}
use Rattle.cover.specs.Intervals.Bids.{any_bid, covers_below, least_below, cost_below, others_below, cost_without, end_cost, cost_after}

when_most : (t : Bool) (p : ℕ) → when t p ≤ p
when_most true p = omega arith
when_most false p = omega arith

-- no set costs more than all the bids
pub cost_most : (ps : List ℕ) (s : ℕ) → cost ps s ≤ sum ps
unfolding cost sum
cost_most [] s = omega arith
cost_most (p ∷ ps) s = omega (arith, when_most (bit s 0) p, cost_most ps (s / 2))

value_most : (ps : List ℕ) (r : Found) → value_of (found_cost (cost ps) r) ≤ sum ps
unfolding value_of found_cost
value_most ps nothing = omega arith
value_most ps (found s) = cost_most ps s

-- two scans whose steps are the same
scan_same : (s t : ℕ → Bool) (v w : ℕ → Found) (m : ℕ)
    → ((q : ℕ) → q < m → (r : Found) → cond (s q) (lesser_cost (v q) r) r ≡ cond (t q) (lesser_cost (w q) r) r)
    → scan_cost s v m ≡ scan_cost t w m
unfolding scan_cost
scan_same s t v w zero f = refl
scan_same s t v w (suc m) f = f m (omega arith) (scan_cost s v m)
    ∙ ap (λ r. cond (t m) (lesser_cost (w m) r) r) (scan_same s t v w m (λ q l. f q (omega arith)))

drop_one : (c t : Bool) (x r : Found) → cond t (lesser_cost (cond c nothing x) r) r ≡ cond (not c && t) (lesser_cost x r) r
unfolding lesser_cost
drop_one true true x r = refl
drop_one true false x r = refl
drop_one false t x r = refl

module _ (a b ps : List ℕ) where
  pub prefixes : (L : ℕ) → Prefixes (length ps) 0 L (λ i. get_or a i 0) (λ i. get_or b i 0) any_bid (covers_below a b (length ps))
  unfolding covers_below spans
  prefixes L = covers_prefixes (λ x. x) 0 L (spans a b) (length ps) (λ i. get_or a i 0) (λ i. get_or b i 0) (λ i x l k. refl)

  pub winners_of_lem : (L : ℕ) → winners (covers (spans a b) (length ps) L) ps ≡ value_of (least_below a b ps L)
  unfolding least_below covers_below
  winners_of_lem L = winners_are L (spans a b) (length ps) ps

  -- none is needed before the first cell
  pub least_none : least_below a b ps 0 ≡ found 0
  unfolding least_below
  least_none = start (length ps) 0 0 (λ i. get_or a i 0) (λ i. get_or b i 0) (λ i. get_or ps i 0) (cost ps) any_bid
      (covers_below a b (length ps))
      (prefixes 0) (priced ps) 0 (omega arith)

  -- a bid and what comes before it cost no more than all the bids
  pub fits : (i c : ℕ) → i < length ps → cost_below a b ps (get_or a i 0) ≡ found c → c + get_or ps i 0 ≤ sum ps
  unfolding cost_below least_below found_cost
  fits i c l e = go (least_set (covers_below a b (length ps)) (cost ps) (length ps) (get_or a i 0)) e
      (least_set_right (covers_below a b (length ps)) (cost ps) (length ps) (get_or a i 0))
    where
      go : (r : Found) → found_cost (cost ps) r ≡ found c
          → IsFirst (covers_below a b (length ps) (get_or a i 0)) (cost ps) (2 ^ length ps) r
          → c + get_or ps i 0 ≤ sum ps
      go nothing e w = absurd (none_found e)
      go (found m) e w = omega (
        arith,
        found_one e,
        cost_most ps (m + 2 ^ i),
        upper_cost (length ps) 0 (get_or a i 0) (λ i. get_or a i 0) (λ i. get_or b i 0) (λ i. get_or ps i 0) (cost ps) any_bid
            (covers_below a b (length ps)) (prefixes (get_or a i 0)) (priced ps) i m l (omega arith) w,
      )

-- without bid k
module _ (k : ℕ) (a b ps : List ℕ) where
  pub prefixes_without : (L : ℕ) → Prefixes (length ps) 0 L (λ i. get_or a i 0) (λ i. get_or b i 0) (may_but k any_bid)
      (others_below k a b (length ps))
  unfolding others_below
  prefixes_without L = without_prefixes (length ps) 0 L (λ i. get_or a i 0) (λ i. get_or b i 0) any_bid (covers_below a b (length ps)) k
      (prefixes a b ps L)

  pub without_none : cost_without k a b ps 0 ≡ found 0
  unfolding cost_without found_cost
  without_none = ap (found_cost (cost ps)) (start (length ps) 0 0 (λ i. get_or a i 0) (λ i. get_or b i 0) (λ i. get_or ps i 0) (cost ps)
      (may_but k any_bid) (others_below k a b (length ps)) (prefixes_without 0) (priced ps) 0 (omega arith)) ∙ ap found (priced ps).empty

  pub fits_without : (i c : ℕ) → i < length ps → cost_without k a b ps (get_or a i 0) ≡ found c → c + get_or ps i 0 ≤ sum ps
  unfolding cost_without found_cost
  fits_without i c l e = go (least_set (others_below k a b (length ps)) (cost ps) (length ps) (get_or a i 0)) e
      (least_set_right (others_below k a b (length ps)) (cost ps) (length ps) (get_or a i 0))
    where
      go : (r : Found) → found_cost (cost ps) r ≡ found c
          → IsFirst (others_below k a b (length ps) (get_or a i 0)) (cost ps) (2 ^ length ps) r
          → c + get_or ps i 0 ≤ sum ps
      go nothing e w = absurd (none_found e)
      go (found m) e w = omega (
        arith,
        found_one e,
        cost_most ps (m + 2 ^ i),
        upper_cost (length ps) 0 (get_or a i 0) (λ i. get_or a i 0) (λ i. get_or b i 0) (λ i. get_or ps i 0) (cost ps) (may_but k any_bid)
            (others_below k a b (length ps)) (prefixes_without (get_or a i 0)) (priced ps) i m l (omega arith) w,
      )

  pub without_most : (L : ℕ) → value_of (cost_without k a b ps L) ≤ sum ps
  unfolding cost_without
  without_most L = value_most ps (least_set (others_below k a b (length ps)) (cost ps) (length ps) L)

  -- what bid k is paid
  pub paid_of : (L : ℕ) →
      let m = winners (covers (spans a b) (length ps) L) ps in
      vcg_paid (covers (spans a b) (length ps) L) ps k
      ≡ payment (bit m k) (value_of (cost_without k a b ps L)) (cost ps m) (get_or ps k 0)
  unfolding cost_without others_below covers_below
  paid_of L = paid_is L (spans a b) (length ps) ps k

  -- the bids of a list, each with its value, decide the least cost up to t
  pub scan_without : (xs : ℕ → ℕ) (v : ℕ → Found) (m t : ℕ) → 0 < t
      → ((j : ℕ) → j < m → xs j < length ps)
      → ((i : ℕ) → i < length ps → get_or a i 0 < t → t ≤ get_or b i 0 → At xs m i)
      → ((j : ℕ) → j < m → v j ≡ end_cost k a b ps (xs j))
      → scan_cost (reaches (λ i. get_or a i 0) (λ i. get_or b i 0) any_bid xs t) v m ≡ cost_without k a b ps t
  unfolding cost_without end_cost reaches may_but
  scan_without xs v m t z bids every values =
      scan_same (reaches (λ i. get_or a i 0) (λ i. get_or b i 0) any_bid xs t)
      (reaches (λ i. get_or a i 0) (λ i. get_or b i 0) (may_but k any_bid) xs t) v u m same
      ∙ scan_cost_lem (length ps) 0 t (λ i. get_or a i 0) (λ i. get_or b i 0) (λ i. get_or ps i 0) (cost ps) (may_but k any_bid)
      (others_below k a b (length ps)) (prefixes_without t) (priced ps)
      xs u m t z (omega arith) bids every (λ q d g. refl)
    where
      u : ℕ → Found
      u q = raise (get_or ps (xs q) 0) (cost_without k a b ps (get_or a (xs q) 0))

      same : (q : ℕ) → q < m → (r : Found)
          → cond (reaches (λ i. get_or a i 0) (λ i. get_or b i 0) any_bid xs t q) (lesser_cost (v q) r) r
          ≡ cond (reaches (λ i. get_or a i 0) (λ i. get_or b i 0) (may_but k any_bid) xs t q) (lesser_cost (u q) r) r
      same q d r = rw (values q d) (drop_one (eqb (xs q) k) (ltb (get_or a (xs q) 0) t && leb t (get_or b (xs q) 0)) (u q) r)

  -- up to its start bid k is not needed
  pub near : (u : ℕ) → k < length ps → u ≤ get_or a k 0 → cost_without k a b ps u ≡ cost_below a b ps u
  unfolding cost_without cost_below least_below others_below
  near u l d = ap (found_cost (cost ps)) (unneeded (length ps) 0 u (λ i. get_or a i 0) (λ i. get_or b i 0) (λ i. get_or ps i 0) (cost ps) any_bid
      (covers_below a b (length ps)) (prefixes a b ps u) (priced ps) k u l (omega arith) (λ x z g y w. omega arith))

  -- the bids of a list that have the last cell of bid k: what comes before each, its price, and what comes after
  pub scan_across : (L : ℕ) (xs : ℕ → ℕ) (g : ℕ → Found) (m : ℕ) → k < length ps → 0 < get_or b k 0 → get_or b k 0 ≤ L
      → ((j : ℕ) → j < m → xs j < length ps)
      → ((i : ℕ) → i < length ps → get_or a i 0 < get_or b k 0 → get_or b k 0 ≤ get_or b i 0 → At xs m i)
      → ((j : ℕ) → j < m → g j ≡ cond (eqb (xs j) k) nothing
      (across (get_or ps (xs j) 0) (cost_without k a b ps (get_or a (xs j) 0)) (cost_after a b ps L (xs j))))
      → scan_cost (reaches (λ i. get_or a i 0) (λ i. get_or b i 0) any_bid xs (get_or b k 0)) g m ≡ cost_without k a b ps L
  unfolding cost_without others_below covers_below cost_after reaches may_but spans
  scan_across L xs g m l z f bids every values =
      scan_same (reaches (λ i. get_or a i 0) (λ i. get_or b i 0) any_bid xs (get_or b k 0))
      (reaches (λ i. get_or a i 0) (λ i. get_or b i 0) (may_but k any_bid) xs (get_or b k 0)) g v m same
      ∙ cost_without_lem (length ps) L (λ i. get_or a i 0) (λ i. get_or b i 0) (λ i. get_or ps i 0) (cost ps) any_bid
      (λ o. covers_from (λ x. x) o (spans a b) (length ps)) family (priced ps) k l
      xs v m 0 z f bids every (λ q d x y. refl)
    where
      family : (o : ℕ) → Prefixes (length ps) o L (λ i. get_or a i 0) (λ i. get_or b i 0) any_bid
          (covers_from (λ x. x) o (spans a b) (length ps))
      family o = whole L (spans a b) ps (λ i. get_or a i 0) (λ i. get_or b i 0) (λ i x l d. refl) o

      v : ℕ → Found
      v j = across (get_or ps (xs j) 0) (cost_without k a b ps (get_or a (xs j) 0)) (cost_after a b ps L (xs j))

      same : (q : ℕ) → q < m → (r : Found)
          → cond (reaches (λ i. get_or a i 0) (λ i. get_or b i 0) any_bid xs (get_or b k 0) q) (lesser_cost (g q) r) r
          ≡ cond (reaches (λ i. get_or a i 0) (λ i. get_or b i 0) (may_but k any_bid) xs (get_or b k 0) q) (lesser_cost (v q) r) r
      same q d r = rw (values q d) (drop_one (eqb (xs q) k) (ltb (get_or a (xs q) 0) (get_or b k 0) && leb (get_or b k 0) (get_or b (xs q) 0))
          (v q) r)

bit_past : (n s : ℕ) → s < 2 ^ n → bit s n ≡ false
unfolding bit
bit_past zero s l = ne_eqb (s % 2) 1 (λ e. omega arith)
bit_past (suc n) s l = bit_past n (s / 2) (omega (arith, pow-suc 2 n))

-- there is no bid past the last
pub without_past : (a b ps : List ℕ) (t : ℕ) → cost_without (length ps) a b ps t ≡ cost_below a b ps t
unfolding cost_without cost_below least_below others_below without
without_past a b ps t = ap (found_cost (cost ps)) (sym
    (least_set_is (λ t s. without (length ps) (covers_below a b (length ps) t) s) (cost ps) (length ps) t r
    (least_same (Family (covers_below a b (length ps) t) (2 ^ length ps))
    (Family (λ s. without (length ps) (covers_below a b (length ps) t) s) (2 ^ length ps)) (cost ps)
    (λ s q. record { inside = q.inside; good = rw (q.good, bit_past (length ps) s q.inside) })
    (λ s q. record { inside = q.inside; good = (and_not_split (covers_below a b (length ps) t s) (bit s (length ps)) q.good).0 })
    r (right_least (covers_below a b (length ps) t) (cost ps) (2 ^ length ps) r
    (least_set_right (covers_below a b (length ps)) (cost ps) (length ps) t)))))
  where
    r : Found
    r = least_set (covers_below a b (length ps)) (cost ps) (length ps) t

-- a price for each of n bids at most
pub sum_most : (ps : List ℕ) → ((i : ℕ) → i < length ps → get_or ps i 0 ≤ 100000000) → sum ps ≤ length ps * 100000000
unfolding sum
sum_most [] f = omega arith
sum_most (p ∷ ps) f = omega (arith, f 0 (omega arith), sum_most ps (λ i l. f (suc i) (omega arith)))
