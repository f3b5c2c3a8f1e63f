-- The scan finds the lightest of the bids that reach, and the bid that leads is the best up to its end. Assumes nothing.
use Rattle.std.specs.Prelude.{◌≡◌, Bool, cond, ◌&&◌, ◌||◌, List, leb, eqb, length, get_or, set}
use Rattle.std.proofs.Math.Path.{refl, ap}
use Rattle.std.proofs.Common.{sym, ◌∙◌}
use Rattle.std.proofs.Math.Bool.{true, false}
use Rattle.std.proofs.lemmas.Bool.{false≢true}
use Prim.Native.Nat.{ℕ, suc, ◌+◌, ◌≤◌, ◌<◌}
use native.Mathlib.Omega.{arith}
use Rattle.std.proofs.Math.Dec.{ltb}
use borrow.Author.Tests.{ltb-true, leb-true, eqb-true, eqb-false, eq-eqb, ne_eqb}
use Rattle.cover.specs.Sets.{Found}
use Rattle.cover.proofs.SetLaws.{and_split}
use Rattle.cover.specs.Intervals.{scan, scan_cost, reaches, found_cost, lesser, lesser_cost}
use Rattle.single_lead.specs.Costs.{no_cost, cost_in}
use Rattle.single_lead.specs.Rows.{set_in, weigh, weight, Honest, is_before, prefer, reached}
use Rattle.single_lead.specs.RowsLaws.{prefer_cost, prefer_lesser, prefer_honest}
use Rattle.single_lead.specs.Live.{Live}
use Rattle.single_lead.specs.LiveLaws.{live_more, live_thinned}
use Rattle.single_lead.specs.Lead.{lead_cost, least_weight, Reaches, Seen, end_of, Led, same, anew, Leading, Ready}

-- the scan

pub seen_none : (w : ℕ) (a b xs costs sets : List ℕ) (n t : ℕ) → get_or costs n 0 ≡ no_cost → Seen w a b xs costs sets n t 0 n
unfolding lead_cost least_weight weight weigh scan scan_cost cost_in found_cost
seen_none w a b xs costs sets n t e = record {
  within = omega arith;
  found_at = λ d. absurd (d refl);
  priced = λ d. refl;
  cheapest = rw e;
  lightest = λ cost h. (rw e, rw e);
}

-- one bid more
module _ (w : ℕ) (a b xs costs sets : List ℕ) (n t j r : ℕ) (f : (q : ℕ) → get_or costs q 0 ≤ no_cost)
    (empty : set_in w sets n ≡ 0)
    (i : get_or xs j 0 < n) (h : Seen w a b xs costs sets n t j r) where
  abbrev q : ℕ
  q = get_or xs j 0

  abbrev is_reach : Bool
  is_reach = ltb (get_or a q 0) t && leb t (get_or b q 0)

  lift : Reaches a b xs j t r → Reaches a b xs (j + 1) t r
  lift p = record {
    at = record { place = p.at.place; inside = omega (arith, p.at.inside); is = p.at.is };
    begins = p.begins;
    ends = p.ends;
  }

  mine : is_reach ≡ true → Reaches a b xs (j + 1) t q
  mine e =
      let u = and_split (ltb (get_or a q 0) t) (leb t (get_or b q 0)) e in
      record {
        at = record { place = j; inside = omega arith; is = refl };
        begins = ltb-true (get_or a q 0) t u.0;
        ends = leb-true t (get_or b q 0) u.1;
      }

  next_found : (c : Bool) → is_reach ≡ c → (z : Bool) → (cond c (cond z q r) r ≡ n → ⊥)
      → Reaches a b xs (j + 1) t (cond c (cond z q r) r)
  next_found false e z d = lift (h.found_at d)
  next_found true e true d = mine e
  next_found true e false d = lift (h.found_at d)

  next_within : (c z : Bool) → cond c (cond z q r) r ≤ n
  next_within false z = h.within
  next_within true true = omega arith
  next_within true false = h.within

  -- a bid without a cost is never before one that was found
  cheap : is_before w costs sets q r ≡ true → get_or costs q 0 ≡ no_cost → q ≡ n
  unfolding is_before
  cheap e d = go (ltb (get_or costs q 0) (get_or costs r 0)) (eqb (get_or costs q 0) (get_or costs r 0)) refl refl e
    where
      below_none : (x y : ℕ) → ltb x y ≡ true → y ≡ 0 → ⊥
      below_none x y e z = omega (arith, ltb-true x y e)

      go : (x y : Bool) → ltb (get_or costs q 0) (get_or costs r 0) ≡ x → eqb (get_or costs q 0) (get_or costs r 0) ≡ y
          → x || (y && ltb (set_in w sets q) (set_in w sets r)) ≡ true → q ≡ n
      go true y u v e = absurd (omega (arith, ltb-true (get_or costs q 0) (get_or costs r 0) u, f r))
      go false true u v e = absurd (below_none (set_in w sets q) (set_in w sets r) e
          (ap (set_in w sets) (h.priced (sym (eqb-true (get_or costs q 0) (get_or costs r 0) v) ∙ d)) ∙ empty))
      go false false u v e = absurd (false≢true e)

  next_priced : (c z : Bool) → is_before w costs sets q r ≡ z → get_or costs (cond c (cond z q r) r) 0 ≡ no_cost
      → cond c (cond z q r) r ≡ n
  next_priced false z e d = h.priced d
  next_priced true true e d = cheap e d
  next_priced true false e d = h.priced d

  next_cheapest : (c : Bool) → is_reach ≡ c → cost_in (get_or costs (cond c (prefer w costs sets q r) r) 0)
      ≡ lead_cost a b xs costs t (suc j)
  unfolding lead_cost scan_cost reaches
  next_cheapest true e = rw e (prefer_cost w costs sets q r f ∙ ap (lesser_cost (cost_in (get_or costs q 0))) h.cheapest)
  next_cheapest false e = rw e h.cheapest

  next_lightest : (cost : ℕ → ℕ) → Honest cost w costs sets q
      → Honest cost w costs sets r × (weight w costs sets r ≡ least_weight cost w a b xs costs sets t j) → (c : Bool)
      → is_reach ≡ c
      → Honest cost w costs sets (cond c (prefer w costs sets q r) r)
      × (weight w costs sets (cond c (prefer w costs sets q r) r) ≡ least_weight cost w a b xs costs sets t (suc j))
  unfolding least_weight scan reaches
  next_lightest cost g p true e = (
    prefer_honest cost w costs sets q r f g p.0,
    rw e (prefer_lesser cost w costs sets q r f g p.0 ∙ ap (lesser cost (weight w costs sets q)) p.1),
  )
  next_lightest cost g p false e = (p.0, rw e p.1)

  pub seen_more : Seen w a b xs costs sets n t (j + 1) (reached (get_or a q 0) (get_or b q 0) t (prefer w costs sets q r) r)
  unfolding reached prefer
  seen_more = record {
    within = next_within is_reach (is_before w costs sets q r);
    found_at = next_found is_reach refl (is_before w costs sets q r);
    priced = next_priced is_reach (is_before w costs sets q r) refl;
    cheapest = let z : j + 1 ≡ suc j = omega arith in rw z (next_cheapest is_reach refl);
    lightest = λ cost g. let z : j + 1 ≡ suc j = omega arith in
        rw z (next_lightest cost (g j (omega arith)) (h.lightest cost (λ y l. g y (omega arith))) is_reach refl);
  }

-- the end of a lead

pub end_none : (b : List ℕ) (n r : ℕ) → r ≡ n → end_of b n r ≡ 0
unfolding end_of
end_none b n r e = rw (eq-eqb r n e)

pub end_some : (b : List ℕ) (n r : ℕ) → (r ≡ n → ⊥) → end_of b n r ≡ get_or b r 0
unfolding end_of
end_some b n r e = rw (ne_eqb r n e)

-- the lead

-- no bid leads at cost 0, as long as there are no cells
pub leading_none : (best : ℕ → Found) (mine : Found) (a b ps order live : List ℕ) (at k m : ℕ)
    → ((q : ℕ) → k ≤ q → q < length ps → at ≤ get_or a (get_or order q 0) 0) → Live order b live k m at → mine ≡ best 0
    → Leading best mine a b ps order live at k m (length ps) 0 0
leading_none best mine a b ps order live at k m f g e = record {
  early = f;
  reach = g;
  within = omega arith;
  past = λ d. absurd (d refl);
  none = λ d. absurd (omega arith);
  lasts = λ t l d. let z : t ≡ 0 = omega arith in e ∙ ap best (sym z);
}

-- the bid at position k joins the list
pub leading_more : (best : ℕ → Found) (mine : Found) (a b ps order live : List ℕ) (at k m r c end : ℕ) → m < length live
    → Leading best mine a b ps order live at k m r c end
    → Leading best mine a b ps order (set live m (get_or order k 0)) at (k + 1) (m + 1) r c end
leading_more best mine a b ps order live at k m r c end l g = record {
  early = λ q d e. g.early q (omega arith) e;
  reach = live_more order b live k m at l g.reach;
  within = g.within;
  past = g.past;
  none = g.none;
  lasts = g.lasts;
}

-- what holds of the lead of before and of whatever the scan finds holds of the lead
pub led_keeps : (P : ℕ → ℕ → Type 0) (w : ℕ) (a b costs sets old live : List ℕ) (n t m r c end r' c' end' m' : ℕ)
    → P c r → ((r : ℕ) → Seen w a b old costs sets n t m r → P (get_or costs r 0) r)
    → Led w a b old live costs sets n t r c end m r' c' end' m' → P c' r'
led_keeps P w a b costs sets old live n t m r c end r' c' end' m' p f (same d e1 e2 e3 e4 e5) = rw (e1, e2) p
led_keeps P w a b costs sets old live n t m r c end r' c' end' m' p f (anew d v) = rw v.cost_is (f r' v.seen)

-- the lead for the cells below t: bid r of cost c is worth `value c r`, and a bid that the scan found is the best for t and stays so
-- while it reaches
module _ (best : ℕ → Found) (value : ℕ → ℕ → Found) (w : ℕ) (a b ps order costs sets old : List ℕ) (k t m : ℕ)
    (later : (q : ℕ) → k ≤ q → q < length ps → t ≤ get_or a (get_or order q 0) 0)
    (best_found : (r : ℕ) → 0 < t → Seen w a b old costs sets (length ps) t m r → value (get_or costs r 0) r ≡ best t)
    (best_stays : (r u : ℕ) → (r ≡ length ps → ⊥) → Seen w a b old costs sets (length ps) t m r → t ≤ u
    → u ≤ get_or b r 0
    → value (get_or costs r 0) r ≡ best t → value (get_or costs r 0) r ≡ best u) where
  pub led_ready : (live : List ℕ) (at r c end r' c' end' m' : ℕ) → at ≤ t
      → Leading best (value c r) a b ps order old at k m r c end
      → Led w a b old live costs sets (length ps) t r c end m r' c' end' m'
      → Ready best (value c' r') a b ps order live k t m' r' c' end'
  led_ready live at r c end r' c' end' m' l g (same d e1 e2 e3 e4 e5) = rw (e1, e2, e3, e4, e5)
      (record { at = at; low = l; lead = g; now = g.lasts t l d })
  led_ready live at r c end r' c' end' m' l g (anew d v) = record {
    at = t;
    low = omega arith;
    lead = record {
      early = later;
      reach = live_thinned order b old live k m at t m' l g.reach v.thinned;
      within = v.seen.within;
      past = λ e. (v.seen.found_at e).begins;
      none = λ e. v.seen.priced (sym v.cost_is ∙ e);
      lasts = λ u x y. rw v.cost_is (stays (eqb r' (length ps)) refl u x y);
    };
    now = rw v.cost_is found;
  }
    where
      found : value (get_or costs r' 0) r' ≡ best t
      found = best_found r' (omega arith) v.seen

      stays : (s : Bool) → eqb r' (length ps) ≡ s → (u : ℕ) → t ≤ u → u ≤ end'
          → value (get_or costs r' 0) r' ≡ best u
      stays true e u x y = absurd (omega (arith, v.end_is, end_none b (length ps) r' (eqb-true r' (length ps) e)))
      stays false e u x y = let n = eqb-false r' (length ps) e in
          best_stays r' u n v.seen x (omega (arith, v.end_is, end_some b (length ps) r' n)) found
