-- The run without bid k begins with the bids that reach its start, and the scan across its end gives the least cost. Assumes nothing.
use Rattle.std.specs.Prelude.{◌≡◌, refl, Bool, true, false, cond, ◌&&◌, List, ℕ, suc, ◌+◌, ◌-◌, ◌^◌, ◌≤◌}
use Rattle.std.specs.Prelude.{◌<◌, ltb, leb, eqb, length, get_or, set}
use Rattle.std.proofs.Common.{sym, ap, ◌∙◌, true≢false, arith, length-set, get_or-set_same, get_or-set_other}
use borrow.Author.Tests.{lt-ltb, le-ltb, le-leb, lt-leb, eqb-true, eqb-false, eq-eqb, ne_eqb}
use Rattle.cover.specs.Sets.{Found, nothing, found, value_of, bit, cost, covers}
use Rattle.cover.specs.LeastCover.{winners}
use Rattle.cover.proofs.LeastCoverLaws.{IsFirst}
use Rattle.cover.specs.CriticalPrice.{sum}
use Rattle.cover.specs.Settled.{spans}
use Rattle.cover.specs.Intervals.{scan_cost, lesser_cost, reaches, raise, across, found_cost, least_set, At, covers_from}
use Rattle.cover.proofs.Intervals.ScanLaws.{none_found, found_one}
use Rattle.cover.proofs.Intervals.PrefixLaws.{lacks, least_set_right}
use Rattle.cover.proofs.Intervals.CoverLaws.{priced, bit_none}
use Rattle.cover.specs.Intervals.Bids.{any_bid, Bids, covers_below, least_below, cost_without, end_cost, cost_after, Mirrored}
use Rattle.cover.proofs.Intervals.BidsLaws.{prefixes, winners_of_lem, cost_most, without_past, without_none, fits_without, scan_across}
use Rattle.cover.proofs.Intervals.BidsLaws.{near}
use Rattle.cover.proofs.Intervals.MirrorLaws.{mirrored_cost}
use Rattle.single_lead.specs.Costs.{no_cost, cost_in}
use Rattle.single_lead.specs.CostsLaws.{cost_found, cost_least}
use Rattle.single_lead.specs.Live.{On, counted, Live}
use Rattle.single_lead.specs.LiveLaws.{thinned_none, thinned_more, live_none, live_thinned, live_more, live_below, on_more}
use Rattle.single_lead.specs.LeadLaws.{leading_none}
use Rattle.single_run.specs.Run.{Running, Ran}
use Rattle.single_costs.specs.Across.{most_sum, joined_cost, less_of, join_at, least_across, Before, After, Waiting, BegunAt}

-- the list thinned out and copied

pub begun_none : (b old before xs costs : List ℕ) (t : ℕ) → BegunAt b old old before xs costs t 0 0
begun_none b old before xs costs t = record {
  thinned = thinned_none b old t;
  copied = λ j l. absurd (omega arith);
  priced = λ j l. absurd (omega arith);
}

module _ (b old live before xs costs : List ℕ) (t j x : ℕ) (l : j < length old) (fit : x < length live) (room : x < length xs)
    (i : get_or live j 0 < length costs) (h : BegunAt b old live before xs costs t j x) where
  abbrev v : ℕ
  v = get_or live j 0

  same_copy : (y : ℕ) → y < x + 1 → get_or (set xs x v) y 0 ≡ get_or (set live x v) y 0
  same_copy y d = go (eqb y x) refl
    where
      go : (s : Bool) → eqb y x ≡ s → get_or (set xs x v) y 0 ≡ get_or (set live x v) y 0
      go true e = rw (eqb-true y x e) (get_or-set_same xs x v 0 room ∙ sym (get_or-set_same live x v 0 fit))
      go false e = get_or-set_other xs x y v 0 (eqb-false y x e) ∙ h.copied y (omega (arith, eqb-false y x e))
          ∙ sym (get_or-set_other live x y v 0 (eqb-false y x e))

  less_count : (s : Bool) (y : ℕ) → y < cond s (x + 1) x → y < x + 1
  less_count true y d = d
  less_count false y d = omega arith

  same_cost : (y : ℕ) → y < j + 1 → get_or (set costs v (get_or before v 0)) (get_or old y 0) 0 ≡ get_or before (get_or old y 0) 0
  same_cost y d = go (eqb (get_or old y 0) v) refl
    where
      less : (eqb (get_or old y 0) v ≡ false) → (s : Bool) → eqb y j ≡ s → y < j
      less e true z = absurd (eqb-false (get_or old y 0) v e
          (ap (λ x. get_or old x 0) (eqb-true y j z) ∙ sym (h.thinned.rest j (omega arith))))
      less e false z = omega (arith, eqb-false y j z)

      go : (s : Bool) → eqb (get_or old y 0) v ≡ s → get_or (set costs v (get_or before v 0)) (get_or old y 0) 0
          ≡ get_or before (get_or old y 0) 0
      go true e = rw (eqb-true (get_or old y 0) v e) (get_or-set_same costs v (get_or before v 0) 0 i)
      go false e = get_or-set_other costs v (get_or old y 0) (get_or before v 0) 0 (eqb-false (get_or old y 0) v e)
          ∙ h.priced y (less e (eqb y j) refl)

  pub begun_more : BegunAt b old (set live x v) before (set xs x v) (set costs v (get_or before v 0)) t (j + 1) (counted (get_or b v 0) t x)
  unfolding counted
  begun_more = record {
    thinned = thinned_more b old live t j x l h.thinned;
    copied = λ y d. same_copy y (less_count (leb t (get_or b v 0)) y d);
    priced = same_cost;
  }

-- where the run without the bid at position q begins: the bids before it that reach its start, and itself at no cost
pub run_start : (a b ps order : List ℕ) (h : Bids a b ps order) (old live before xs costs : List ℕ) (q m len : ℕ) → q < length ps
    → length ps < length costs → len < length xs
    → get_or a (get_or order q 0) 0 ≤ get_or b (get_or order q 0) 0 → Before a b ps before → Waiting a b ps order old q m
    → BegunAt b old live before xs costs (get_or a (get_or order q 0) 0) m len
    → Running (get_or order q 0) a b ps order (set (set costs (get_or order q 0) no_cost) (length ps) no_cost)
    (set xs len (get_or order q 0))
    (q + 1) (q + 1) (len + 1) (length ps) 0 0 (get_or b (get_or order q 0) 0)
unfolding cost_in end_cost
run_start a b ps order h old live before xs costs q m len l fit room d f w g = record {
  at = get_or a k 0;
  low = d;
  lead = leading_none (cost_without k a b ps) (found 0) a b ps order (set xs len k) (get_or a k 0) (q + 1) (len + 1)
      (λ j x y. h.sorted.sorted q j (omega arith) y) (live_more order b xs q len (get_or a k 0) room copied)
      (sym (without_none k a b ps));
  values = λ i y. value i y (eqb i k) refl;
  done = λ j x y. absurd (omega arith);
  guard = get_or-set_same (set costs k no_cost) (length ps) no_cost 0 (rw length-set fit);
}
  where
    k : ℕ
    k = get_or order q 0

    mine : k < length ps
    mine = h.sorted.bids q l

    thin : Live order b live q len (get_or a k 0)
    thin = live_thinned order b old live q m w.at (get_or a k 0) len (w.early q (omega arith) l) w.reach g.thinned

    copied : Live order b xs q len (get_or a k 0)
    copied = record {
      few = thin.few;
      inside = λ j x. rw (g.copied j x) (thin.inside j x);
      every = λ p x y. let z = thin.every p x y in record {
        place = z.place;
        inside = z.inside;
        is = g.copied z.place z.inside
            ∙ z.is;
      };
    }

    stored : (i : ℕ) → i < length ps → (i ≡ k → ⊥)
        → get_or (set (set costs k no_cost) (length ps) no_cost) i 0 ≡ get_or costs i 0
    stored i x n = get_or-set_other (set costs k no_cost) (length ps) i no_cost 0 (λ e. omega arith)
        ∙ get_or-set_other costs k i no_cost 0 n

    value : (i : ℕ) → On (set xs len k) (len + 1) i → (s : Bool) → eqb i k ≡ s
        → cost_in (get_or (set (set costs k no_cost) (length ps) no_cost) i 0)
        ≡ cond s nothing (raise (get_or ps i 0) (cost_without k a b ps (get_or a i 0)))
    value i y true e = rw (
      eqb-true i k e,
      get_or-set_other (set costs k no_cost) (length ps) k no_cost 0 (λ z. omega (arith, mine)),
      get_or-set_same costs k no_cost 0 (omega (arith, mine)),
    )
    value i y false e = rw (stored i below (eqb-false i k e), price)
        (f i below ∙ ap (raise (get_or ps i 0)) (sym (near k a b ps (get_or a i 0) mine early)))
      where
        o : On live len i
        o = let z = on_more xs len k i room y (eqb-false i k e) in
            record { place = z.place; inside = z.inside; is = sym (g.copied z.place z.inside) ∙ z.is }

        p : On order q i
        p = rw o.is at (thin.inside o.place o.inside)

        below : i < length ps
        below = rw p.is at (h.sorted.bids p.place (omega (arith, p.inside)))

        early : get_or a i 0 ≤ get_or a k 0
        early = rw p.is at (h.sorted.sorted p.place q (omega (arith, p.inside)) l)

        price : get_or costs i 0 ≡ get_or before i 0
        price = let z = g.thinned.from o.place o.inside in rw (z.is ∙ o.is) at (g.priced z.place z.inside)

-- the waiting list after it
pub waiting_on : (a b ps order : List ℕ) (h : Bids a b ps order) (old live before xs costs : List ℕ) (q m len : ℕ) → q < length ps
    → Waiting a b ps order old q m → BegunAt b old live before xs costs (get_or a (get_or order q 0) 0) m len
    → Waiting a b ps order live q len
waiting_on a b ps order h old live before xs costs q m len l w g = record {
  at = get_or a (get_or order q 0) 0;
  early = λ j d e. h.sorted.sorted q j d e;
  reach = live_thinned order b old live q m w.at (get_or a (get_or order q 0) 0) len (w.early q (omega arith) l) w.reach g.thinned;
}

pub waiting_none : (a b ps order live : List ℕ) → Waiting a b ps order live 0 0
waiting_none a b ps order live = record { at = 0; early = λ j d e. omega arith; reach = live_none order b live }

pub waiting_more : (a b ps order live : List ℕ) (q m : ℕ) → m < length live → Waiting a b ps order live q m
    → Waiting a b ps order (set live m (get_or order q 0)) (q + 1) (m + 1)
waiting_more a b ps order live q m l w = record {
  at = w.at;
  early = λ j d e. w.early j (omega arith) e;
  reach = live_more order b live q m w.at l w.reach;
}

-- the scan across the end

module _ (x y p : ℕ) where
  pub joined_left : x ≡ no_cost → no_cost ≡ joined_cost x y p
  unfolding joined_cost
  joined_left e = rw (eq-eqb x no_cost e)

  pub joined_right : (x ≡ no_cost → ⊥) → y ≡ no_cost → no_cost ≡ joined_cost x y p
  unfolding joined_cost
  joined_right d e = rw (ne_eqb x no_cost d, eq-eqb y no_cost e)

  pub joined_both : (x ≡ no_cost → ⊥) → (y ≡ no_cost → ⊥) → x + (y - p) ≡ joined_cost x y p
  unfolding joined_cost
  joined_both d e = rw (ne_eqb x no_cost d, ne_eqb y no_cost e)

cost_joined : (x y p : ℕ) (e : Bool) (F Y : Found) → cost_in x ≡ cond e nothing (raise p F) → cost_in y ≡ raise p Y
    → ((x ≡ no_cost → ⊥) → (y ≡ no_cost → ⊥) → x + (y - p) < no_cost)
    → cost_in (joined_cost x y p) ≡ cond e nothing (across p F Y)
unfolding cost_in joined_cost raise across
cost_joined x y p e F Y d g f = go (eqb x no_cost) refl (eqb y no_cost) refl e F Y d g
  where
    go : (s : Bool) → eqb x no_cost ≡ s → (t : Bool) → eqb y no_cost ≡ t → (e : Bool) (F Y : Found)
        → cond s nothing (found x) ≡ cond e nothing (raise p F) → cond t nothing (found y) ≡ raise p Y
        → cost_in (cond s no_cost (cond t no_cost (x + (y - p)))) ≡ cond e nothing (across p F Y)
    go true u t v true F Y d g = refl
    go true u t v false nothing Y d g = refl
    go true u t v false (found c) Y d g = absurd (none_found d)
    go false u t v true F Y d g = absurd (none_found (sym d))
    go false u t v false nothing Y d g = absurd (none_found (sym d))
    go false u true v false (found c) nothing d g = refl
    go false u true v false (found c) (found z) d g = absurd (none_found g)
    go false u false v false (found c) nothing d g = absurd (none_found (sym g))
    go false u false v false (found c) (found z) d g =
        rw (ne_eqb (x + (y - p)) no_cost (λ q. omega (arith, f (eqb-false x no_cost u) (eqb-false y no_cost v))))
        (ap found (omega (arith, found_one d, found_one g)))

pub across_none : (a b ps xs costs after : List ℕ) (t : ℕ) → cost_in no_cost ≡ least_across a b ps xs costs after t 0
unfolding least_across cost_in scan_cost
across_none a b ps xs costs after t = refl

pub across_more : (a b ps xs costs after : List ℕ) (t j r x : ℕ) → x ≡ join_at ps xs costs after j → x ≤ no_cost
    → r ≤ no_cost
    → cost_in r ≡ least_across a b ps xs costs after t j
    → cost_in (less_of (get_or a (get_or xs j 0) 0) (get_or b (get_or xs j 0) 0) t x r) ≡ least_across a b ps xs costs after t (suc j)
unfolding least_across less_of scan_cost reaches
across_more a b ps xs costs after t j r x d u v e = go (ltb (get_or a (get_or xs j 0) 0) t && leb t (get_or b (get_or xs j 0) 0))
  where
    go : (c : Bool) → cost_in (cond c (cond (ltb x r) x r) r)
        ≡ cond c (lesser_cost (cost_in (join_at ps xs costs after j)) (least_across a b ps xs costs after t j))
        (least_across a b ps xs costs after t j)
    go true = cost_least x r u v ∙ ap (lesser_cost (cost_in x)) e
        ∙ ap (λ (z : ℕ). lesser_cost (cost_in z) (least_across a b ps xs costs after t j)) d
    go false = e

-- costs are small

pub before_small : (k : ℕ) (a b ps : List ℕ) (v i : ℕ) → i < length ps → cost_in v ≡ end_cost k a b ps i
    → (v ≡ no_cost → ⊥) → v ≤ sum ps
unfolding end_cost raise
before_small k a b ps v i l e n = go (eqb i k) (cost_without k a b ps (get_or a i 0)) refl (sym e ∙ cost_found v n)
  where
    go : (s : Bool) (F : Found) → cost_without k a b ps (get_or a i 0) ≡ F
        → cond s nothing (raise (get_or ps i 0) (cost_without k a b ps (get_or a i 0))) ≡ found v → v ≤ sum ps
    go true F q d = absurd (none_found d)
    go false nothing q d = absurd (none_found (sym (ap (raise (get_or ps i 0)) q) ∙ d))
    go false (found z) q d = omega (arith, fits_without k a b ps i z l q, found_one (sym (ap (raise (get_or ps i 0)) q) ∙ d))

pub after_small : (a b ps : List ℕ) (L v i : ℕ) → cost_in v ≡ raise (get_or ps i 0) (cost_after a b ps L i)
    → (v ≡ no_cost → ⊥)
    → (get_or ps i 0 ≤ v) × (v ≤ sum ps + get_or ps i 0)
unfolding cost_after raise found_cost
after_small a b ps L v i e n = go (least_set (covers_from (λ x. x) (get_or b i 0) (spans a b) (length ps)) (cost ps) (length ps) L)
    (sym e ∙ cost_found v n)
  where
    go : (r : Found) → raise (get_or ps i 0) (found_cost (cost ps) r) ≡ found v
        → (get_or ps i 0 ≤ v) × (v ≤ sum ps + get_or ps i 0)
    go nothing d = absurd (none_found d)
    go (found s) d = (omega (arith, found_one d), omega (arith, found_one d, cost_most ps s))

-- THE COST WITHOUT k
pub ran_cost : (k : ℕ) (a b ps order : List ℕ) (h : Bids a b ps order) (L : ℕ) (xs costs after : List ℕ) (from m r : ℕ)
    → k < length ps
    → 0 < get_or b k 0 → get_or b k 0 ≤ L → sum ps ≤ most_sum
    → After a b ps L after
    → Ran k a b ps order costs xs from (get_or b k 0) m
    → cost_in r ≡ least_across a b ps xs costs after (get_or b k 0) m → cost_in r ≡ cost_without k a b ps L
unfolding least_across end_cost
ran_cost k a b ps order h L xs costs after from m r l z f t afters g e = e
    ∙ scan_across k a b ps L (λ j. get_or xs j 0) (λ j. cost_in (join_at ps xs costs after j)) m l z f bids every values
  where
    bids : (j : ℕ) → j < m → get_or xs j 0 < length ps
    bids j d = let y = g.reach.inside j d in rw y.is at (h.sorted.bids y.place (omega (arith, y.inside, g.fit)))

    every : (i : ℕ) → i < length ps → get_or a i 0 < get_or b k 0 → get_or b k 0 ≤ get_or b i 0 → At (λ j. get_or xs j 0) m i
    every i u v x = let y = g.all i u v in rw y.is at (g.reach.every y.place y.inside (rw y.is (omega (arith, g.low))))

    values : (j : ℕ) → j < m → cost_in (join_at ps xs costs after j)
        ≡ cond (eqb (get_or xs j 0) k) nothing (across (get_or ps (get_or xs j 0) 0) (cost_without k a b ps (get_or a (get_or xs j 0) 0))
        (cost_after a b ps L (get_or xs j 0)))
    values j u =
        let w = g.values (get_or xs j 0) (record { place = j; inside = u; is = refl }) in
        cost_joined (get_or costs (get_or xs j 0) 0) (get_or after (get_or xs j 0) 0) (get_or ps (get_or xs j 0) 0) (eqb (get_or xs j 0) k)
        (cost_without k a b ps (get_or a (get_or xs j 0) 0)) (cost_after a b ps L (get_or xs j 0)) w (afters (get_or xs j 0) (bids j u))
        (λ n o. omega (
          arith,
          before_small k a b ps (get_or costs (get_or xs j 0) 0) (get_or xs j 0) (bids j u) w n,
          (after_small a b ps L (get_or after (get_or xs j 0) 0) (get_or xs j 0) (afters (get_or xs j 0) (bids j u)) o).1,
        ))

-- a winner has a cell
pub winner_ends : (a b ps : List ℕ) (L k : ℕ) → k < length ps → bit (winners (covers (spans a b) (length ps) L) ps) k ≡ true
    → 0 < get_or b k 0
unfolding least_below value_of
winner_ends a b ps L k l e = go (eqb (get_or b k 0) 0) refl
  where
    by : get_or b k 0 ≡ 0 → (r : Found) → IsFirst (covers_below a b (length ps) L) (cost ps) (2 ^ length ps) r
        → bit (value_of r) k ≡ false
    by z nothing w = bit_none k
    by z (found m) w = lacks (length ps) 0 L (λ i. get_or a i 0) (λ i. get_or b i 0) (λ i. get_or ps i 0) (cost ps) any_bid
        (covers_below a b (length ps)) (prefixes a b ps L) (priced ps) L k m l (λ x o g y w. omega arith) (omega arith) w

    go : (s : Bool) → eqb (get_or b k 0) 0 ≡ s → 0 < get_or b k 0
    go true d = absurd (true≢false (sym e ∙ ap (λ s. bit s k) (winners_of_lem a b ps L)
        ∙ by (eqb-true (get_or b k 0) 0 d) (least_set (covers_below a b (length ps)) (cost ps) (length ps) L)
        (least_set_right (covers_below a b (length ps)) (cost ps) (length ps) L)))
    go false d = omega (arith, eqb-false (get_or b k 0) 0 d)

-- the costs after each bid, by the run over the bids seen from the other end

pub run_all : (a b ps order costs live : List ℕ) (stop : ℕ) → get_or costs (length ps) 0 ≡ no_cost
    → Running (length ps) a b ps order costs live 0 0 0 (length ps) 0 0 stop
unfolding cost_in
run_all a b ps order costs live stop e = record {
  at = 0;
  low = omega arith;
  lead = leading_none (cost_without (length ps) a b ps) (found 0) a b ps order live 0 0 0 (λ j d l. omega arith) (live_none order b live)
      (sym (without_none (length ps) a b ps));
  values = λ i y. absurd (omega (arith, y.inside));
  done = λ j d l. absurd (omega arith);
  guard = e;
}

pub ran_after : (a b x y ps order : List ℕ) (h : Bids x y ps order) (L m : ℕ) (costs live : List ℕ) → Mirrored a b x y L (length ps)
    → Ran (length ps) x y ps order costs live 0 (L + 1) m → After a b ps L costs
unfolding end_cost
ran_after a b x y ps order h L m costs live r g i l = go (g.all i l (omega (arith, r.starts i l)))
  where
    go : On order g.pos i → cost_in (get_or costs i 0) ≡ raise (get_or ps i 0) (cost_after a b ps L i)
    go o = ap (λ z. cost_in (get_or costs z 0)) (sym o.is) ∙ g.done o.place (omega arith) o.inside
        ∙ rw (o.is, ne_eqb i (length ps) (λ e. omega arith))
        (ap (raise (get_or ps i 0)) (without_past x y ps (get_or x i 0) ∙ mirrored_cost a b x y ps L r i l))

-- the ways through `less_of`
module _ (s e t x r : ℕ) where
  pub less_yes : s < t → t ≤ e → x < r → x ≡ less_of s e t x r
  unfolding less_of
  less_yes l d g = rw (lt-ltb s t l, le-leb t e d, lt-ltb x r g)

  pub less_more : s < t → t ≤ e → r ≤ x → r ≡ less_of s e t x r
  unfolding less_of
  less_more l d g = rw (lt-ltb s t l, le-leb t e d, le-ltb x r g)

  pub less_not : s < t → e < t → r ≡ less_of s e t x r
  unfolding less_of
  less_not l d = rw (lt-ltb s t l, lt-leb t e d)

  pub less_far : t ≤ s → r ≡ less_of s e t x r
  unfolding less_of
  less_far l = rw (le-ltb s t l)

-- the bids of the lists are bids
pub waiting_below : (a b ps order : List ℕ) (h : Bids a b ps order) (live : List ℕ) (q m : ℕ) → q ≤ length ps
    → Waiting a b ps order live q m → (j : ℕ) → j < m → get_or live j 0 < length ps
waiting_below a b ps order h live q m l w = live_below a b ps order h live q m w.at l w.reach

pub ran_below : (k : ℕ) (a b ps order : List ℕ) (h : Bids a b ps order) (costs live : List ℕ) (from stop m : ℕ)
    → Ran k a b ps order costs live from stop m → (j : ℕ) → j < m → get_or live j 0 < length ps
ran_below k a b ps order h costs live from stop m g = live_below a b ps order h live g.pos m g.at g.fit g.reach

pub ran_small : (k : ℕ) (a b ps order : List ℕ) (h : Bids a b ps order) (costs live : List ℕ) (from stop m : ℕ)
    → sum ps ≤ most_sum
    → Ran k a b ps order costs live from stop m
    → (j : ℕ) → j < m → (get_or costs (get_or live j 0) 0 ≡ no_cost → ⊥) → get_or costs (get_or live j 0) 0 ≤ most_sum
ran_small k a b ps order h costs live from stop m t g j d n =
    omega (
      arith,
      before_small k a b ps (get_or costs (get_or live j 0) 0) (get_or live j 0)
          (ran_below k a b ps order h costs live from stop m g j d)
          (g.values (get_or live j 0) (record { place = j; inside = d; is = refl })) n,
    )

pub after_bounds : (a b ps after : List ℕ) (L : ℕ) → sum ps ≤ most_sum → After a b ps L after → (i : ℕ) → i < length ps
    → (get_or after i 0 ≡ no_cost → ⊥) → (get_or ps i 0 ≤ get_or after i 0) × (get_or after i 0 ≤ most_sum + get_or ps i 0)
after_bounds a b ps after L t f i l n = let y = after_small a b ps L (get_or after i 0) i (f i l) n in (y.0, omega (arith, y.1))
