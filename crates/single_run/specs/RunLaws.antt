-- A turn of the run of costs: the lead is renewed where it ends, the bid gets its cost. Assumes nothing.
use Rattle.std.specs.Prelude.{◌≡◌, Bool, true, false, cond, List, ℕ, ◌+◌, ◌≤◌, ◌<◌, eqb, set}
use Rattle.std.proofs.Math.Path.{refl}
use Rattle.std.proofs.Common.{sym, ap, ◌∙◌, arith, get_or-set_same, get_or-set_other, eqb-true, eq-eqb, ne_eqb}
use Rattle.std.proofs.Math.ListN.{length, get_or}
use Rattle.std.proofs.lemmas.Bool.{eqb-false}
use Rattle.cover.specs.Sets.{nothing, found, cost}
use Rattle.cover.specs.CriticalPrice.{sum}
use Rattle.cover.specs.Intervals.{raise, may_but}
use Rattle.cover.proofs.Intervals.ScanLaws.{none_found}
use Rattle.cover.proofs.Intervals.PrefixLaws.{ready}
use Rattle.cover.proofs.Intervals.CoverLaws.{priced}
use Rattle.cover.proofs.Intervals.StaysLaws.{stays_cost}
use Rattle.cover.specs.Intervals.Bids.{any_bid, Bids, others_below, cost_without, end_cost}
use Rattle.cover.proofs.Intervals.BidsLaws.{prefixes_without, fits_without, scan_without}
use Rattle.single_lead.specs.Costs.{no_cost, cost_in, plus_price}
use Rattle.single_lead.specs.CostsLaws.{cost_found, cost_more}
use Rattle.single_lead.specs.Live.{On}
use Rattle.single_lead.specs.LiveLaws.{live_below, on_more}
use Rattle.single_lead.specs.Lead.{lead_cost, Seen, Led, same, anew}
use Rattle.single_lead.specs.LeadLaws.{leading_more, led_ready}
use Rattle.single_run.specs.Run.{entry, Running, ReadyCost, Ran}

-- the lead

end_found : (k : ℕ) (a b ps : List ℕ) (i c : ℕ) → end_cost k a b ps i ≡ found c → (eqb i k ≡ false)
    × (end_cost k a b ps i ≡ raise (get_or ps i 0) (cost_without k a b ps (get_or a i 0)))
unfolding end_cost
end_found k a b ps i c e = go (eqb i k) refl e
  where
    go : (s : Bool) → eqb i k ≡ s → cond s nothing (raise (get_or ps i 0) (cost_without k a b ps (get_or a i 0))) ≡ found c
        → (eqb i k ≡ false) × (cond (eqb i k) nothing (raise (get_or ps i 0) (cost_without k a b ps (get_or a i 0)))
        ≡ raise (get_or ps i 0) (cost_without k a b ps (get_or a i 0)))
    go true g d = absurd (none_found d)
    go false g d = (g, rw g)

module _ (k : ℕ) (a b ps order costs old : List ℕ) (h : Bids a b ps order) (from q m r c end stop : ℕ) (l : q < length ps)
    (g : Running k a b ps order costs old from q m r c end stop) where
  abbrev t : ℕ
  t = get_or a (get_or order q 0) 0

  low : g.at ≤ t
  low = g.lead.early q (omega arith) l

  below : (j : ℕ) → j < m → get_or old j 0 < length ps
  below = live_below a b ps order h old q m g.at (omega arith) g.lead.reach

  cost_least : (w : ℕ) (sets : List ℕ) (r : ℕ) → 0 < t → Seen w a b old costs sets (length ps) t m r
      → cost_in (get_or costs r 0) ≡ cost_without k a b ps t
  unfolding lead_cost
  cost_least w sets r z s = s.cheapest
      ∙ scan_without k a b ps (λ j. get_or old j 0) (λ j. cost_in (get_or costs (get_or old j 0) 0)) m t z below
      (λ i d u e. let y = ready (length ps) (λ i. get_or a i 0) (λ q. get_or order q 0) h.sorted q l i d u in
      rw y.is at (g.lead.reach.every y.place y.inside (rw y.is (omega (arith, low)))))
      (λ j d. g.values (get_or old j 0) (record { place = j; inside = d; is = refl }))

  cost_stays : (w : ℕ) (sets : List ℕ) (r u : ℕ) → (r ≡ length ps → ⊥) → Seen w a b old costs sets (length ps) t m r
      → t ≤ u → u ≤ get_or b r 0
      → cost_in (get_or costs r 0) ≡ cost_without k a b ps t → cost_in (get_or costs r 0) ≡ cost_without k a b ps u
  unfolding cost_without may_but
  cost_stays w sets r u d s x e y =
      let p = s.found_at d in
      let o : r < length ps = rw p.at.is at (below p.at.place p.at.inside) in
      let v : cost_in (get_or costs r 0) ≡ end_cost k a b ps r = g.values r p.at in
      let f = end_found k a b ps r (get_or costs r 0) (sym v ∙ cost_found (get_or costs r 0) (λ z. d (s.priced z))) in
      y ∙ stays_cost (length ps) 0 u (λ i. get_or a i 0) (λ i. get_or b i 0) (λ i. get_or ps i 0) (cost ps) (may_but k any_bid)
      (others_below k a b (length ps)) (prefixes_without k a b ps u) (priced ps)
      r t u o (rw f.0) p.begins x e (omega arith) (sym y ∙ v ∙ f.1)

  -- the list is thinned out or stays, so its bids have their costs
  next_values : (w : ℕ) (sets live : List ℕ) (r' c' end' m' : ℕ)
      → Led w a b old live costs sets (length ps) t r c end m r' c' end' m'
      → (i : ℕ) → On live m' i → cost_in (get_or costs i 0) ≡ end_cost k a b ps i
  next_values w sets live r' c' end' m' (same d e1 e2 e3 e4 e5) = rw (e4, e5) g.values
  next_values w sets live r' c' end' m' (anew d v) = λ i y. let z = v.thinned.from y.place y.inside in
      g.values i (record { place = z.place; inside = z.inside; is = z.is ∙ y.is })

  pub next_cost : (w : ℕ) (sets live : List ℕ) (r' c' end' m' : ℕ)
      → Led w a b old live costs sets (length ps) t r c end m r' c' end' m'
      → ReadyCost k a b ps order costs live q t m' r' c' end'
  next_cost w sets live r' c' end' m' v = record {
    least = led_ready (cost_without k a b ps) (λ c r. cost_in c) w a b ps order costs sets old q t m (h.sorted.sorted q)
        (cost_least w sets) (cost_stays w sets) live g.at r c end r' c' end' m' low g.lead v;
    values = next_values w sets live r' c' end' m' v;
  }

-- the turn

pub entry_none : (i k c p : ℕ) → i ≡ k → no_cost ≡ entry i k c p
unfolding entry
entry_none i k c p e = rw (eq-eqb i k e)

pub entry_some : (i k c p : ℕ) → (i ≡ k → ⊥) → plus_price c p ≡ entry i k c p
unfolding entry
entry_some i k c p e = rw (ne_eqb i k e)

cost_entry : (k : ℕ) (a b ps : List ℕ) (i c : ℕ) → ((c ≡ no_cost → ⊥) → c + get_or ps i 0 < no_cost)
    → cost_in c ≡ cost_without k a b ps (get_or a i 0) → cost_in (entry i k c (get_or ps i 0)) ≡ end_cost k a b ps i
unfolding entry end_cost cost_in
cost_entry k a b ps i c f e = go (eqb i k)
  where
    go : (s : Bool) → cost_in (cond s no_cost (plus_price c (get_or ps i 0)))
        ≡ cond s nothing (raise (get_or ps i 0) (cost_without k a b ps (get_or a i 0)))
    go true = refl
    go false = cost_more c (get_or ps i 0) f ∙ ap (raise (get_or ps i 0)) e

-- a value for bid i as well
value_more : (k : ℕ) (a b ps costs : List ℕ) (i v : ℕ) → i < length costs → cost_in v ≡ end_cost k a b ps i → (z : ℕ)
    → ((z ≡ i → ⊥) → cost_in (get_or costs z 0) ≡ end_cost k a b ps z)
    → cost_in (get_or (set costs i v) z 0) ≡ end_cost k a b ps z
value_more k a b ps costs i v l e z f = go (eqb z i) refl
  where
    go : (s : Bool) → eqb z i ≡ s → cost_in (get_or (set costs i v) z 0) ≡ end_cost k a b ps z
    go true d = rw (eqb-true z i d, get_or-set_same costs i v 0 l) e
    go false d = rw (get_or-set_other costs i z v 0 (eqb-false z i d)) (f (eqb-false z i d))

module _ (k : ℕ) (a b ps order costs live : List ℕ) (h : Bids a b ps order) (q m r c end : ℕ) (l : q < length ps)
    (rich : sum ps < no_cost)
    (g : ReadyCost k a b ps order costs live q (get_or a (get_or order q 0) 0) m r c end) where
  abbrev i : ℕ
  i = get_or order q 0

  mine : i < length ps
  mine = h.sorted.bids q l

  pub cost_fits : (c ≡ no_cost → ⊥) → c + get_or ps i 0 < no_cost
  cost_fits n = omega (arith, fits_without k a b ps i c mine (sym g.least.now ∙ cost_found c n))

  pub running_more : (from stop : ℕ) → length ps ≤ length costs → m < length live → get_or a i 0 ≤ stop
      → get_or costs (length ps) 0 ≡ no_cost
      → ((j : ℕ) → from ≤ j → j < q → cost_in (get_or costs (get_or order j 0) 0) ≡ end_cost k a b ps (get_or order j 0))
      → Running k a b ps order (set costs i (entry i k c (get_or ps i 0))) (set live m i) from (q + 1) (m + 1) r c end stop
  running_more from stop fit u low guard done = record {
    at = g.least.at;
    low = omega (arith, g.least.low);
    lead = leading_more (cost_without k a b ps) (cost_in c) a b ps order live g.least.at q m r c end u g.least.lead;
    values = λ z y. value_more k a b ps costs i v (omega (arith, mine)) value z (λ n. g.values z (on_more live m i z u y n));
    done = λ j d e. value_more k a b ps costs i v (omega (
      arith,
      mine,
    )) value (get_or order j 0) (λ n. done j d (by j e n (eqb j q) refl));
    guard = get_or-set_other costs i (length ps) v 0 (λ e. omega (arith, mine)) ∙ guard;
  }
    where
      v : ℕ
      v = entry i k c (get_or ps i 0)

      value : cost_in v ≡ end_cost k a b ps i
      value = cost_entry k a b ps i c cost_fits g.least.now

      by : (j : ℕ) → j < q + 1 → (get_or order j 0 ≡ i → ⊥) → (s : Bool) → eqb j q ≡ s → j < q
      by j e n true z = absurd (n (ap (λ x. get_or order x 0) (eqb-true j q z)))
      by j e n false z = omega (arith, eqb-false j q z)

-- where the run ends: at a bid that begins at `stop` or later, or after the last
module _ (k : ℕ) (a b ps order costs live : List ℕ) (h : Bids a b ps order) (from q m r c end stop : ℕ)
    (g : Running k a b ps order costs live from q m r c end stop) where
  ran : q ≤ length ps → ((i : ℕ) → i < length ps → get_or a i 0 < stop → On order q i)
      → Ran k a b ps order costs live from stop m
  ran l f = record {
    pos = q;
    fit = l;
    at = g.at;
    low = g.low;
    reach = g.lead.reach;
    values = g.values;
    done = g.done;
    all = f;
  }

  pub ran_stop : q < length ps → stop ≤ get_or a (get_or order q 0) 0 → Ran k a b ps order costs live from stop m
  ran_stop l d = ran (omega arith)
      (λ i u v. ready (length ps) (λ i. get_or a i 0) (λ q. get_or order q 0) h.sorted q l i u (omega arith))

  pub ran_end : q ≡ length ps → Ran k a b ps order costs live from stop m
  ran_end e = ran (omega arith)
      (λ i u v. let y = h.sorted.every i u in record { place = y.place; inside = omega (arith, y.inside); is = y.is })
