-- Laws of the list of the bids that still reach: begun, thinned out, one bid more. Assumes nothing.
use Rattle.std.specs.Prelude.{◌≡◌, Bool, true, false, cond, List, ℕ, ◌+◌, ◌≤◌, ◌<◌, leb, eqb, length, get_or, set}
use Rattle.std.proofs.Math.Path.{refl}
use Rattle.std.proofs.Common.{sym, ap, ◌∙◌, arith, length-set, get_or-set_same, get_or-set_other, leb-false, eqb-true, le-leb}
use Rattle.std.proofs.lemmas.Bool.{eqb-false, lt-leb}
use Rattle.cover.specs.Intervals.Bids.{Bids}
use Rattle.single_lead.specs.Live.{On, counted, Thinned, Live}

-- one more or not

pub counted_yes : (e t x : ℕ) → t ≤ e → x + 1 ≡ counted e t x
unfolding counted
counted_yes e t x l = rw (le-leb t e l)

pub counted_no : (e t x : ℕ) → e < t → x ≡ counted e t x
unfolding counted
counted_no e t x l = rw (lt-leb t e l)

-- thinned out

pub thinned_none : (b old : List ℕ) (t : ℕ) → Thinned b old old t 0 0
thinned_none b old t = record {
  sized = refl;
  short = omega arith;
  rest = λ i l. refl;
  from = λ i l. absurd (omega arith);
  kept = λ i l d. absurd (omega arith);
}

module _ (b old act : List ℕ) (t j x : ℕ) (l : j < length old) (h : Thinned b old act t j x) where
  abbrev v : ℕ
  v = get_or act j 0

  abbrev now : List ℕ
  now = set act x v

  here : get_or now x 0 ≡ v
  here = get_or-set_same act x v 0 (omega (arith, h.sized, h.short))

  other : (i : ℕ) → (i ≡ x → ⊥) → get_or now i 0 ≡ get_or act i 0
  other i e = get_or-set_other act x i v 0 e

  up : (i : ℕ) → On old j i → On old (j + 1) i
  up i y = record { place = y.place; inside = omega (arith, y.inside); is = y.is }

  stay : (i : ℕ) → On act x i → (y : ℕ) → x ≤ y → On now y i
  stay i q y d = record {
    place = q.place;
    inside = omega (arith, q.inside);
    is = other q.place (λ e. omega (arith, q.inside))
        ∙ q.is;
  }

  was : v ≡ get_or old j 0
  was = h.rest j (omega arith)

  thin : (d : Bool) → leb t (get_or b v 0) ≡ d → Thinned b old now t (j + 1) (cond d (x + 1) x)
  thin true e = record {
    sized = length-set act x v ∙ h.sized;
    short = omega (arith, h.short);
    rest = λ i d. other i (λ z. omega (arith, h.short)) ∙ h.rest i (omega arith);
    from = λ i d. one i d (eqb i x) refl;
    kept = λ i d g. two i d g (eqb i j) refl;
  }
    where
      one : (i : ℕ) → i < x + 1 → (s : Bool) → eqb i x ≡ s → On old (j + 1) (get_or now i 0)
      one i d true g = record {
        place = j;
        inside = omega arith;
        is = sym was ∙ sym here
            ∙ ap (λ z. get_or now z 0) (sym (eqb-true i x g));
      }
      one i d false g = rw (other i (eqb-false i x g)) (up (get_or act i 0) (h.from i (omega (arith, eqb-false i x g))))

      two : (i : ℕ) → i < j + 1 → t ≤ get_or b (get_or old i 0) 0 → (s : Bool) → eqb i j ≡ s
          → On now (x + 1) (get_or old i 0)
      two i d g true q = record { place = x; inside = omega arith; is = here ∙ was ∙ ap (λ z. get_or old z 0) (sym (eqb-true i j q)) }
      two i d g false q = stay (get_or old i 0) (h.kept i (omega (arith, eqb-false i j q)) g) (x + 1) (omega arith)
  thin false e = record {
    sized = length-set act x v ∙ h.sized;
    short = omega (arith, h.short);
    rest = λ i d. other i (λ z. omega (arith, h.short)) ∙ h.rest i (omega arith);
    from = λ i d. rw (other i (λ z. omega arith)) (up (get_or act i 0) (h.from i d));
    kept = λ i d g. two i d g (eqb i j) refl;
  }
    where
      two : (i : ℕ) → i < j + 1 → t ≤ get_or b (get_or old i 0) 0 → (s : Bool) → eqb i j ≡ s → On now x (get_or old i 0)
      two i d g true q = absurd (omega (
        arith,
        leb-false t (get_or b v 0) e,
        ap (λ z. get_or b z 0) (was ∙ ap (λ z. get_or old z 0) (sym (eqb-true i j q))),
      ))
      two i d g false q = stay (get_or old i 0) (h.kept i (omega (arith, eqb-false i j q)) g) x (omega arith)

  pub thinned_more : Thinned b old now t (j + 1) (counted (get_or b v 0) t x)
  unfolding counted
  thinned_more = thin (leb t (get_or b v 0)) refl

-- the bids that reach

pub live_none : (order b act : List ℕ) → Live order b act 0 0 0
live_none order b act = record { few = omega arith; inside = λ j l. absurd (omega arith); every = λ q l d. absurd (omega arith) }

pub live_thinned : (order b old act : List ℕ) (k m at t x : ℕ) → at ≤ t → Live order b old k m at → Thinned b old act t m x
    → Live order b act k x t
live_thinned order b old act k m at t x l h f = record {
  few = omega (arith, h.few, f.short);
  inside = λ j d. let y = f.from j d in rw y.is at (h.inside y.place y.inside);
  every = λ q d g. by q g (h.every q d (omega arith));
}
  where
    by : (q : ℕ) → t ≤ get_or b (get_or order q 0) 0 → On old m (get_or order q 0) → On act x (get_or order q 0)
    by q g y = rw y.is at (f.kept y.place y.inside (rw y.is g))

pub live_more : (order b act : List ℕ) (k m at : ℕ) → m < length act → Live order b act k m at
    → Live order b (set act m (get_or order k 0)) (k + 1) (m + 1) at
live_more order b act k m at l h = record {
  few = omega (arith, h.few);
  inside = λ j d. one j d (eqb j m) refl;
  every = λ q d g. two q d g (eqb q k) refl;
}
  where
    one : (j : ℕ) → j < m + 1 → (s : Bool) → eqb j m ≡ s → On order (k + 1) (get_or (set act m (get_or order k 0)) j 0)
    one j d true e = record {
      place = k;
      inside = omega arith;
      is = sym (ap (λ z. get_or (set act m (get_or order k 0)) z 0) (eqb-true j m e) ∙ get_or-set_same act m (get_or order k 0) 0 l);
    }
    one j d false e = rw (get_or-set_other act m j (get_or order k 0) 0 (eqb-false j m e))
        (up (h.inside j (omega (arith, eqb-false j m e))))
      where
        up : {i : ℕ} → On order k i → On order (k + 1) i
        up y = record { place = y.place; inside = omega (arith, y.inside); is = y.is }

    two : (q : ℕ) → q < k + 1 → at ≤ get_or b (get_or order q 0) 0 → (s : Bool) → eqb q k ≡ s
        → On (set act m (get_or order k 0)) (m + 1) (get_or order q 0)
    two q d g true e = record {
      place = m;
      inside = omega arith;
      is = get_or-set_same act m (get_or order k 0) 0 l
          ∙ ap (λ z. get_or order z 0) (sym (eqb-true q k e));
    }
    two q d g false e = up (h.every q (omega (arith, eqb-false q k e)) g)
      where
        up : On act m (get_or order q 0) → On (set act m (get_or order k 0)) (m + 1) (get_or order q 0)
        up y = record {
          place = y.place;
          inside = omega (arith, y.inside);
          is = get_or-set_other act m y.place (get_or order k 0) 0 (λ z. omega (arith, y.inside)) ∙ y.is;
        }

pub on_more : (act : List ℕ) (m i z : ℕ) → m < length act → On (set act m i) (m + 1) z → (z ≡ i → ⊥) → On act m z
on_more act m i z l y n = record {
  place = y.place;
  inside = less (eqb y.place m) refl;
  is = sym (get_or-set_other act m y.place i 0 other) ∙ y.is;
}
  where
    other : y.place ≡ m → ⊥
    other e = n (sym y.is ∙ ap (λ x. get_or (set act m i) x 0) e ∙ get_or-set_same act m i 0 l)

    less : (s : Bool) → eqb y.place m ≡ s → y.place < m
    less true e = absurd (other (eqb-true y.place m e))
    less false e = omega (arith, y.inside, eqb-false y.place m e)

-- they are bids
pub live_below : (a b ps order : List ℕ) (h : Bids a b ps order) (act : List ℕ) (k m at : ℕ) → k ≤ length ps
    → Live order b act k m at
    → (j : ℕ) → j < m → get_or act j 0 < length ps
live_below a b ps order h act k m at l g j d = let y = g.inside j d in
    rw y.is at (h.sorted.bids y.place (omega (arith, y.inside)))
