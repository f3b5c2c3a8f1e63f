-- A bid gets its weight from the lead, and the end of the loop gives the winners. Assumes nothing.
use Rattle.std.specs.Prelude.{◌≡◌, Bool, cond, List, ℕ, ◌+◌, ◌^◌, ◌≤◌, ◌<◌, length, set}
use Rattle.std.proofs.Math.Path.{refl, sym, ap}
use Rattle.std.proofs.Common.{◌∙◌, get_or-set_same, get_or-set_other, eqb-true, eq-eqb, ne_eqb}
use Rattle.std.proofs.Math.Bool.{true, false}
use native.Mathlib.Omega.{arith}
use Rattle.std.proofs.Math.Dec.{eqb}
use Rattle.std.proofs.Math.ListN.{get_or}
use Rattle.std.proofs.lemmas.Bool.{eqb-false}
use Rattle.cover.specs.Sets.{nothing, found, value_of, bit, cost, covers}
use Rattle.cover.specs.LeastCover.{winners}
use Rattle.cover.specs.CriticalPrice.{sum}
use Rattle.cover.specs.Settled.{spans}
use Rattle.cover.specs.Intervals.{plus, found_cost, raise}
use Rattle.cover.proofs.Intervals.PrefixLaws.{scan_least_set, least_set_right, lacks, cost_plus, ready}
use Rattle.cover.proofs.Intervals.CoverLaws.{priced, bit_none}
use Rattle.cover.proofs.Intervals.StaysLaws.{stays}
use Rattle.cover.specs.Intervals.Bids.{any_bid, Bids, covers_below, least_below, cost_below}
use Rattle.cover.proofs.Intervals.BidsLaws.{prefixes, least_none, fits, winners_of_lem}
use Rattle.cover.proofs.Intervals.AwardLaws.{cost_value}
use Rattle.single_lead.specs.Costs.{no_cost, cost_in, plus_price}
use Rattle.single_lead.specs.CostsLaws.{cost_found, cost_more}
use Rattle.single_lead.specs.Rows.{set_in, weigh, weight}
use Rattle.single_lead.specs.Live.{On}
use Rattle.single_lead.specs.LiveLaws.{live_none, live_below}
use Rattle.single_lead.specs.Lead.{least_weight, Seen, Led}
use Rattle.single_lead.specs.LeadLaws.{leading_none, leading_more, led_ready, led_keeps}
use Rattle.single_select.specs.Extend.{Extended}
use Rattle.single_select.specs.ExtendLaws.{row_kept}
use Rattle.single_select.specs.Weighing.{Done, Weighing, ReadyRow, Weighed}

-- weights

weigh_some : (c s : ℕ) → (c ≡ no_cost → ⊥) → weigh c s ≡ found s
unfolding weigh
weigh_some c s e = rw (ne_eqb c no_cost e)

weigh_none : (c s : ℕ) → c ≡ no_cost → weigh c s ≡ nothing
unfolding weigh
weigh_none c s e = rw (eq-eqb c no_cost e)

plus_costs : (a b ps : List ℕ) (i : ℕ) → i < length ps → found_cost (cost ps) (plus i (least_below a b ps (get_or a i 0)))
    ≡ raise (get_or ps i 0) (found_cost (cost ps) (least_below a b ps (get_or a i 0)))
unfolding least_below
plus_costs a b ps i l = cost_plus (length ps) 0 (get_or a i 0) (λ i. get_or a i 0) (λ i. get_or b i 0) (λ i. get_or ps i 0)
    (cost ps) any_bid
    (covers_below a b (length ps)) (prefixes a b ps (get_or a i 0)) (priced ps) i l (omega arith)

-- the beginning

pub weighing_none : (a b ps order costs sets live : List ℕ) → get_or costs (length ps) 0 ≡ no_cost
    → set_in 16 sets (length ps) ≡ 0
    → Weighing a b ps order costs sets live 0 0 (length ps) 0 0
unfolding weigh cost_in found_cost
weighing_none a b ps order costs sets live e z = record {
  at = 0;
  low = λ t f. omega arith;
  lead = leading_none (least_below a b ps) (found (set_in 16 sets (length ps))) a b ps order live 0 0 0 (λ q l d. omega arith)
      (live_none order b live) (ap found z ∙ sym (least_none a b ps));
  honest = ap found (sym (ap (cost ps) z ∙ (priced ps).empty));
  done = λ q l. absurd (omega arith);
  guard = e;
  empty = z;
}

-- the lead for the cells below t, where every bid that begins before t stands at a position below k

module _ (a b ps order costs sets : List ℕ) (h : Bids a b ps order) (old live : List ℕ) (k t m r c end r' c' end' m' : ℕ)
    (fit : k ≤ length ps) (all : (i : ℕ) → i < length ps → get_or a i 0 < t → On order k i)
    (later : (q : ℕ) → k ≤ q → q < length ps → t ≤ get_or a (get_or order q 0) 0)
    (g : Weighing a b ps order costs sets old k m r c end) (l : g.at ≤ t)
    (v : Led 16 a b old live costs sets (length ps) t r c end m r' c' end' m') where
  done_on : (i : ℕ) → On order k i → Done a b ps costs sets i
  done_on i y = rw y.is at (g.done y.place y.inside)

  done_at : (j : ℕ) → j < m → Done a b ps costs sets (get_or old j 0)
  done_at j d = done_on (get_or old j 0) (g.lead.reach.inside j d)

  old_below : (j : ℕ) → j < m → get_or old j 0 < length ps
  old_below = live_below a b ps order h old k m g.at fit g.lead.reach

  least_found : (r : ℕ) → 0 < t → Seen 16 a b old costs sets (length ps) t m r → weight 16 costs sets r ≡ least_below a b ps t
  unfolding least_below least_weight
  least_found r z s = (s.lightest (cost ps) (λ j d. (done_at j d).honest)).1
      ∙ scan_least_set (length ps) 0 t (λ i. get_or a i 0) (λ i. get_or b i 0) (λ i. get_or ps i 0) (cost ps) any_bid
      (covers_below a b (length ps)) (prefixes a b ps t) (priced ps)
      (λ j. get_or old j 0) (λ j. weight 16 costs sets (get_or old j 0)) m t z (omega arith) old_below
      (λ i d u e. let y = all i d u in rw y.is at (g.lead.reach.every y.place y.inside (rw y.is (omega arith))))
      (λ j d u. (done_at j d).is)

  least_stays : (r u : ℕ) → (r ≡ length ps → ⊥) → Seen 16 a b old costs sets (length ps) t m r → t ≤ u
      → u ≤ get_or b r 0
      → weight 16 costs sets r ≡ least_below a b ps t → weight 16 costs sets r ≡ least_below a b ps u
  unfolding least_below
  least_stays r u n s x y q =
      let p = s.found_at n in
      q ∙ stays (length ps) 0 u (λ i. get_or a i 0) (λ i. get_or b i 0) (λ i. get_or ps i 0) (cost ps) any_bid
      (covers_below a b (length ps))
      (prefixes a b ps u) (priced ps) r t u (rw p.at.is at (old_below p.at.place p.at.inside)) refl p.begins x y
      (omega arith) (sym q ∙ (rw p.at.is at (done_at p.at.place p.at.inside)).is)

  pub led_row : ReadyRow a b ps order sets live k t m' r' c' end'
  unfolding weight
  led_row = record {
    least = led_ready (least_below a b ps) (λ c r. weigh c (set_in 16 sets r)) 16 a b ps order costs sets old k t m later least_found
        least_stays live g.at r c end r' c' end' m' l g.lead v;
    honest = led_keeps (λ c r. cost_in c
        ≡ found_cost (cost ps) (weigh c (set_in 16 sets r))) 16 a b costs sets old live (length ps) t m r c
        end r' c' end' m' g.honest (λ r s. (s.lightest (cost ps) (λ j d. (done_at j d).honest)).0) v;
  }

-- a bid that begins at t

module _ (a b ps order sets live : List ℕ) (k t m r c end : ℕ) (empty : set_in 16 sets (length ps) ≡ 0)
    (g : ReadyRow a b ps order sets live k t m r c end) where
  cost_now : cost_in c ≡ found_cost (cost ps) (least_below a b ps t)
  cost_now = g.honest ∙ ap (found_cost (cost ps)) g.least.now

  -- it is not in the leading set, so its word has room
  pub lead_lacks : (i : ℕ) → i < length ps → get_or a i 0 ≡ t → bit (set_in 16 sets r) i ≡ false
  unfolding least_below
  lead_lacks i l z = go (eqb c no_cost) refl
    where
      go : (s : Bool) → eqb c no_cost ≡ s → bit (set_in 16 sets r) i ≡ false
      go true e = ap (λ s. bit s i) (ap (set_in 16 sets) (g.least.lead.none (eqb-true c no_cost e)) ∙ empty) ∙ bit_none i
      go false e = lacks (length ps) 0 t (λ i. get_or a i 0) (λ i. get_or b i 0) (λ i. get_or ps i 0) (cost ps) any_bid
          (covers_below a b (length ps)) (prefixes a b ps t) (priced ps)
          t i (set_in 16 sets r) l (λ x o g y w. omega arith) (omega arith)
          (rw (sym g.least.now ∙ weigh_some c (set_in 16 sets r) (eqb-false c no_cost e))
          at (least_set_right (covers_below a b (length ps)) (cost ps) (length ps) t))

  -- its cost is a word
  pub lead_fits : (i : ℕ) → i < length ps → get_or a i 0 ≡ t → sum ps < no_cost → (c ≡ no_cost → ⊥)
      → c + get_or ps i 0 < no_cost
  unfolding cost_below
  lead_fits i l z rich n = omega (
    arith,
    fits a b ps i c l
        (ap (λ u. found_cost (cost ps) (least_below a b ps u)) z ∙ sym cost_now ∙ cost_found c n),
  )

  -- and it does not lead itself
  pub lead_other : (i : ℕ) → i < length ps → get_or a i 0 ≡ t → r ≡ i → ⊥
  lead_other i l z e = omega (arith, g.least.lead.past (λ q. omega arith), g.least.low, ap (λ x. get_or a x 0) e)

  module _ (i : ℕ) (l : i < length ps) (z : get_or a i 0 ≡ t) (rich : sum ps < no_cost) (costs new : List ℕ)
      (fit : length ps ≤ length costs)
      (x : Extended sets new r i (2 ^ i)) where
    abbrev v : ℕ
    v = plus_price c (get_or ps i 0)

    heavy : weigh v (set_in 16 sets r + 2 ^ i) ≡ plus i (least_below a b ps t)
    unfolding plus_price plus
    heavy = go (eqb c no_cost) refl
      where
        go : (s : Bool) → eqb c no_cost ≡ s → weigh (cond s c (c + get_or ps i 0)) (set_in 16 sets r + 2 ^ i)
            ≡ plus i (least_below a b ps t)
        go true e = weigh_none c (set_in 16 sets r + 2 ^ i) (eqb-true c no_cost e)
            ∙ sym (ap (plus i) (sym g.least.now ∙ weigh_none c (set_in 16 sets r) (eqb-true c no_cost e)))
        go false e = weigh_some (c + get_or ps i 0) (set_in 16 sets r + 2 ^ i)
            (λ q. omega (arith, lead_fits i l z rich (eqb-false c no_cost e)))
            ∙ sym (ap (plus i) (sym g.least.now ∙ weigh_some c (set_in 16 sets r) (eqb-false c no_cost e)))

    done_here : Done a b ps (set costs i v) new i
    unfolding weight
    done_here = record {
      is = is;
      honest = ap cost_in (get_or-set_same costs i v 0 (omega arith)) ∙ cost_more c (get_or ps i 0) (lead_fits i l z rich)
          ∙ ap (raise (get_or ps i 0)) cost_now ∙ sym plus_cost ∙ ap (found_cost (cost ps)) (sym is);
    }
      where
        is : weigh (get_or (set costs i v) i 0) (set_in 16 new i) ≡ plus i (least_below a b ps (get_or a i 0))
        is = rw (get_or-set_same costs i v 0 (omega arith), x.is, z) heavy

        plus_cost : found_cost (cost ps) (plus i (least_below a b ps (get_or a i 0)))
            ≡ raise (get_or ps i 0) (found_cost (cost ps) (least_below a b ps t))
        plus_cost = plus_costs a b ps i l ∙ rw z

    done_other : (q : ℕ) → (q ≡ i → ⊥) → Done a b ps costs sets q → Done a b ps (set costs i v) new q
    unfolding weight
    done_other q d g = record {
      is = rw (get_or-set_other costs i q v 0 d, row_kept sets new i q d x.kept) g.is;
      honest = rw (get_or-set_other costs i q v 0 d, row_kept sets new i q d x.kept) g.honest;
    }

    pub done_more : (q : ℕ) → (eqb q i ≡ false → Done a b ps costs sets q) → Done a b ps (set costs i v) new q
    done_more q f = go (eqb q i) refl
      where
        go : (s : Bool) → eqb q i ≡ s → Done a b ps (set costs i v) new q
        go true e = rw (eqb-true q i e) done_here
        go false e = done_other q (eqb-false q i e) (f e)

-- the bids that begin before the bid at k stand before it
pub next_row : (a b ps order costs sets : List ℕ) (h : Bids a b ps order) (old live : List ℕ) (k m r c end r' c' end' m' : ℕ)
    → k < length ps → Weighing a b ps order costs sets old k m r c end
    → Led 16 a b old live costs sets (length ps) (get_or a (get_or order k 0) 0) r c end m r' c' end' m'
    → ReadyRow a b ps order sets live k (get_or a (get_or order k 0) 0) m' r' c' end'
next_row a b ps order costs sets h old live k m r c end r' c' end' m' l g v =
    led_row a b ps order costs sets h old live k (get_or a (get_or order k 0) 0) m r c end r' c' end' m' (omega arith)
    (ready (length ps) (λ i. get_or a i 0) (λ q. get_or order q 0) h.sorted k l) (h.sorted.sorted k) g
    (g.lead.early k (omega arith) l) v

-- THE TURN
pub weighing_more : (a b ps order costs sets live new : List ℕ) (h : Bids a b ps order) (k m r c end : ℕ) → k < length ps
    → sum ps < no_cost → length ps ≤ length costs → m < length live
    → get_or costs (length ps) 0 ≡ no_cost → set_in 16 sets (length ps) ≡ 0
    → ((q : ℕ) → q < k → Done a b ps costs sets (get_or order q 0))
    → ReadyRow a b ps order sets live k (get_or a (get_or order k 0) 0) m r c end
    → Extended sets new r (get_or order k 0) (2 ^ get_or order k 0)
    → Weighing a b ps order (set costs (get_or order k 0) (plus_price c (get_or ps (get_or order k 0) 0)))
    new (set live m (get_or order k 0))
    (k + 1) (m + 1) r c end
weighing_more a b ps order costs sets live new h k m r c end l rich fit u guard empty done g x = record {
  at = g.least.at;
  low = λ t f. omega (arith, g.least.low, f i mine);
  lead = rw kept (leading_more (least_below a b ps) (weigh c (set_in 16 sets r)) a b ps order live g.least.at k m r c end u
      g.least.lead);
  honest = rw kept g.honest;
  done = λ q d. done_more a b ps order sets live k (get_or a i 0) m r c end empty g i mine refl rich costs new
      fit x (get_or order q 0) (λ e. by q d e (eqb q k) refl);
  guard = get_or-set_other costs i (length ps) (plus_price c (get_or ps i 0)) 0 (λ e. omega (arith, mine)) ∙ guard;
  empty = row_kept sets new i (length ps) (λ e. omega (arith, mine)) x.kept ∙ empty;
}
  where
    i : ℕ
    i = get_or order k 0

    mine : i < length ps
    mine = h.sorted.bids k l

    kept : set_in 16 new r ≡ set_in 16 sets r
    kept = row_kept sets new i r (lead_other a b ps order sets live k (get_or a i 0) m r c end empty g i mine refl) x.kept

    by : (q : ℕ) → q < k + 1 → eqb (get_or order q 0) i ≡ false → (s : Bool) → eqb q k ≡ s
        → Done a b ps costs sets (get_or order q 0)
    by q d e true s = absurd (eqb-false (get_or order q 0) i e (ap (λ z. get_or order z 0) (eqb-true q k s)))
    by q d e false s = done q (omega (arith, eqb-false q k s))

-- the end

done_cost : (a b ps costs sets : List ℕ) (i : ℕ) → i < length ps → Done a b ps costs sets i
    → cost_in (get_or costs i 0) ≡ raise (get_or ps i 0) (cost_below a b ps (get_or a i 0))
unfolding cost_below
done_cost a b ps costs sets i l d = d.honest ∙ ap (found_cost (cost ps)) d.is ∙ plus_costs a b ps i l

-- the winners stand in the leading row at the end
lead_wins : (a b ps order sets live : List ℕ) (k L m r c end : ℕ) → set_in 16 sets (length ps) ≡ 0
    → ReadyRow a b ps order sets live k L m r c end → set_in 16 sets r ≡ winners (covers (spans a b) (length ps) L) ps
unfolding value_of
lead_wins a b ps order sets live k L m r c end empty g = go (eqb c no_cost) refl ∙ sym (winners_of_lem a b ps L)
  where
    go : (s : Bool) → eqb c no_cost ≡ s → set_in 16 sets r ≡ value_of (least_below a b ps L)
    go true e = ap (set_in 16 sets) (g.least.lead.none (eqb-true c no_cost e)) ∙ empty
        ∙ sym (ap value_of (sym g.least.now ∙ weigh_none c (set_in 16 sets r) (eqb-true c no_cost e)))
    go false e = sym (ap value_of (sym g.least.now ∙ weigh_some c (set_in 16 sets r) (eqb-false c no_cost e)))

pub weighed : (a b ps order costs sets : List ℕ) (h : Bids a b ps order) (old live : List ℕ) (L k m r c end r' c' end' m' : ℕ)
    → k ≡ length ps → ((i : ℕ) → i < length ps → get_or a i 0 ≤ L)
    → Weighing a b ps order costs sets old k m r c end → Led 16 a b old live costs sets (length ps) L r c end m r' c' end' m'
    → Weighed a b ps costs sets L r' c'
weighed a b ps order costs sets h old live L k m r c end r' c' end' m' e low g v = record {
  within = x.least.lead.within;
  wins = lead_wins a b ps order sets live k L m' r' c' end' g.empty x;
  all = ap value_of (x.honest ∙ ap (found_cost (cost ps)) x.least.now) ∙ sym (cost_value ps (least_below a b ps L))
      ∙ ap (cost ps) (sym (winners_of_lem a b ps L));
  costs_are = λ i l. let y = h.sorted.every i l in
      done_cost a b ps costs sets i l (rw y.is at (g.done y.place (omega (arith, y.inside))));
}
  where
    x : ReadyRow a b ps order sets live k L m' r' c' end'
    x = led_row a b ps order costs sets h old live k L m r c end r' c' end' m' (omega arith)
        (λ i l d. let y = h.sorted.every i l in record { place = y.place; inside = omega (arith, y.inside); is = y.is })
        (λ q l d. absurd (omega arith)) g (g.low L low) v
