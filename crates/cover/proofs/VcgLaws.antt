-- The least cover with VCG payments is a threshold mechanism, whatever the family of sets, where some set of it is without the
-- bid. Assumes nothing.
use Rattle.std.specs.Prelude.{◌≡◌, Bool, not, ◌&&◌, List, get_or, set}
use Rattle.std.proofs.Math.Path.{refl}
use Rattle.std.proofs.Math.Bool.{true, false}
use Rattle.std.proofs.lemmas.Bool.{false≢true}
use Prim.Native.Nat.{ℕ, ◌+◌, ◌-◌, ◌^◌, ◌≤◌, ◌<◌}
use Rattle.std.proofs.Common.{arith, length-set}
use Rattle.std.proofs.Math.ListN.{length}
use Rattle.std.proofs.Math.Seq.{get_or-set_same}
use Rattle.std.proofs.lemmas.List.{set-get_or}
use Rattle.cover.specs.Sets.{when, Found, nothing, found, bit, cost}
use Rattle.cover.specs.LeastCover.{first, Wins, winners, without, payment, vcg_paid, margin, vcg_threshold}
use Rattle.cover.specs.Threshold.{Threshold, honest, enough}
use Rattle.cover.proofs.SetLaws.{and_split}
use Rattle.cover.proofs.LeastCoverLaws.{IsFirst, first_right, wins_one, wins_of, winners_right, cost_set}

pub without_split : (ok : ℕ → Bool) (i s : ℕ) → without i ok s ≡ true → (ok s ≡ true) × (bit s i ≡ false)
unfolding without
without_split ok i s e = go (ok s) (bit s i) e
  where
    go : (a b : Bool) → a && not b ≡ true → (a ≡ true) × (b ≡ false)
    go true false e = (refl, refl)
    go true true e = absurd (false≢true e)
    go false b e = absurd (false≢true e)

pub without_join : (ok : ℕ → Bool) (i s : ℕ) → ok s ≡ true → bit s i ≡ false → without i ok s ≡ true
unfolding without
without_join ok i s e f = rw (e, f)

-- a member's price is within the cost
pub own_price : (ps : List ℕ) (i s : ℕ) → i < length ps → bit s i ≡ true → get_or ps i 0 ≤ cost ps s
own_price ps i s l e = omega (arith, rw (set-get_or ps i 0, e) at (cost_set ps i (get_or ps i 0) s l))

-- the set s of the family is without bid i
module _ (ok : ℕ → Bool) (ps : List ℕ) (i : ℕ) (inside : i < length ps) (s : ℕ) (below : s < 2 ^ length ps)
    (spare : without i ok s ≡ true) where
  -- what the other bids of a set cost
  abbrev others : ℕ → ℕ
  others t = cost (set ps i 0) t

  abbrev total : ℕ → ℕ → ℕ
  total q t = others t + when (bit t i) q

  abbrev rest : ℕ
  rest = winners (without i ok) (set ps i 0)

  wins : (q : ℕ) → Wins ok (total q) (2 ^ length ps) (winners ok (set ps i q))
  wins q = wins_of ok (cost (set ps i q)) (total q) _ _ (λ t g. cost_set ps i q t inside)
      (rw (length-set ps i q) at (winners_right ok (set ps i q) s (rw length-set below) (without_split ok i s spare).0))

  free : (q t : ℕ) → without i ok t ≡ true → cost (set ps i q) t ≡ others t
  free q t g = omega (arith, rw (without_split ok i t g).1 at (cost_set ps i q t inside))

  alt : (q : ℕ) → Wins (without i ok) others (2 ^ length ps) (winners (without i ok) (set ps i q))
  alt q = wins_of (without i ok) (cost (set ps i q)) others _ _ (free q)
      (rw (length-set ps i q) at (winners_right (without i ok) (set ps i q) s (rw length-set below) spare))

  holds : (q : ℕ) → let m = winners ok (set ps i q) in let θ = vcg_threshold ok ps i in
      ((bit m i ≡ true) → (q ≤ θ) × (θ ≡ others rest - others m)) × ((bit m i ≡ false) → θ ≤ q)
  unfolding vcg_threshold margin
  holds q = go (first (λ t. ok t && bit t i) others (2 ^ length ps)) (first_right (λ t. ok t && bit t i) others (2 ^ length ps))
    where
      m : ℕ
      m = winners ok (set ps i q)

      beats : (t : ℕ) → t < 2 ^ length ps → ok t ≡ true → total q m ≤ total q t
      beats = (wins q).least

      under : total q m ≤ others rest
      under = let g = without_split ok i rest (alt 0).good in omega (arith, rw g.1 at (beats rest (alt 0).inside g.0))

      go : (f : Found) → IsFirst (λ t. ok t && bit t i) others (2 ^ length ps) f →
          ((bit m i ≡ true) → (q ≤ margin (others rest) others f) × (margin (others rest) others f ≡ others rest - others m))
          × ((bit m i ≡ false) → margin (others rest) others f ≤ q)
      go nothing h = (λ e. absurd (h m (wins q).inside (rw ((wins q).good, e))), λ e. omega arith)
      go (found v) h = let g = and_split (ok v) (bit v i) h.good in (
        λ e. let l = h.least m (wins q).inside (rw ((wins q).good, e)) in
            omega (arith, rw e at under, rw (e, g.1) at (beats v h.inside g.0)),
        λ e. omega (
          arith,
          (alt 0).least m (wins q).inside (without_join ok i m (wins q).good e),
          rw (e, g.1) at (beats v h.inside g.0),
        ),
      )

  pub threshold : Threshold (λ q. bit (winners ok (set ps i q)) i) (vcg_threshold ok ps i)
  threshold = record { below = λ q e. ((holds q).0 e).0; above = λ q e. (holds q).1 e }

  -- a winner is paid the threshold, whatever it named
  pub pays : (q : ℕ) → vcg_paid ok (set ps i q) i ≡ when (bit (winners ok (set ps i q)) i) (vcg_threshold ok ps i)
  unfolding vcg_paid payment
  pays q = rw (
    get_or-set_same ps i q 0 inside,
    cost_set ps i q (winners ok (set ps i q)) inside,
    free q _ (alt q).good,
    wins_one (without i ok) others _ _ _ (alt q) (alt 0),
  ) (go (bit (winners ok (set ps i q)) i) (λ e. ((holds q).0 e).1))
    where
      go : (t : Bool) → (t ≡ true → vcg_threshold ok ps i ≡ others rest - others (winners ok (set ps i q))) →
          payment t (others rest) (others (winners ok (set ps i q)) + when t q) q ≡ when t (vcg_threshold ok ps i)
      go true f = omega (arith, f refl)
      go false f = refl

  -- a winner is paid no less than it named
  pub fair : (q : ℕ) → when (bit (winners ok (set ps i q)) i) q ≤ vcg_paid ok (set ps i q) i
  fair q = rw (pays q) (enough _ _ threshold q)

  -- document 000, formula 8
  pub formula : bit (winners ok ps) i ≡ true → (Wins (without i ok) (cost ps) (2 ^ length ps) (winners (without i ok) ps))
      × (vcg_paid ok ps i + cost ps (winners ok ps) ≡ cost ps (winners (without i ok) ps) + get_or ps i 0)
  unfolding vcg_paid payment
  formula e = (v, go (bit (winners ok ps) i) e)
    where
      v : Wins (without i ok) (cost ps) (2 ^ length ps) (winners (without i ok) ps)
      v = winners_right (without i ok) ps s below spare

      own : get_or ps i 0 ≤ cost ps (winners ok ps)
      own = own_price ps i (winners ok ps) inside e

      less : cost ps (winners ok ps) ≤ cost ps (winners (without i ok) ps)
      less = (winners_right ok ps s below (without_split ok i s spare).0).least (winners (without i ok) ps) v.inside
          (without_split ok i (winners (without i ok) ps) v.good).0

      go : (b : Bool) → b ≡ true → payment b (cost ps (winners (without i ok) ps)) (cost ps (winners ok ps)) (get_or ps i 0)
          + cost ps (winners ok ps) ≡ cost ps (winners (without i ok) ps) + get_or ps i 0
      go true f = omega (arith, own, less)
      go false f = absurd (false≢true f)

-- bid i may offer fewer cells: fewer sets with it are in the family ok', and the same without it
module _ (ok ok' : ℕ → Bool) (ps : List ℕ) (i : ℕ) (fewer : (s : ℕ) → ok' s ≡ true → ok s ≡ true)
    (same : without i ok' ≡ without i ok)
  where
    -- it never raises the threshold
    pub threshold_fewer : vcg_threshold ok' ps i ≤ vcg_threshold ok ps i
    unfolding vcg_threshold margin
    threshold_fewer = rw same (go (first with' price n) (first with_i price n) (first_right with' price n) (first_right with_i price n))
      where
        n : ℕ
        n = 2 ^ length ps

        price : ℕ → ℕ
        price t = cost (set ps i 0) t

        with_i : ℕ → Bool
        with_i t = ok t && bit t i

        with' : ℕ → Bool
        with' t = ok' t && bit t i

        more : (t : ℕ) → with' t ≡ true → with_i t ≡ true
        more t e = let g = and_split (ok' t) (bit t i) e in rw (fewer t g.0, g.1)

        go : (f g : Found) → IsFirst with' price n f → IsFirst with_i price n g
            → margin (price (winners (without i ok) (set ps i 0))) price f
            ≤ margin (price (winners (without i ok) (set ps i 0))) price g
        go nothing g x y = omega arith
        go (found v) nothing x y = absurd (y v x.inside (more v x.good))
        go (found v) (found u) x y = omega (arith, y.least v x.inside (more v x.good))

    -- whoever's cost is c gains no more by asking q and offering fewer cells
    pub truthful : i < length ps → (s : ℕ) → s < 2 ^ length ps → without i ok s ≡ true → (c q : ℕ)
        → vcg_paid ok' (set ps i q) i + when (bit (winners ok (set ps i c)) i) c ≤ vcg_paid ok (set ps i c) i
        + when (bit (winners ok' (set ps i q)) i) c
    truthful inside s below spare c q = rw (pays ok ps i inside s below spare c, pays ok' ps i inside s below (rw same spare) q)
        (honest (λ p. bit (winners ok (set ps i p)) i) (vcg_threshold ok ps i) (threshold ok ps i inside s below spare) c
        (bit (winners ok' (set ps i q)) i) (vcg_threshold ok' ps i) threshold_fewer)
