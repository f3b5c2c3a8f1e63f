-- The least cost of covering the cells from o to L, split at a cell: what comes before a bid that has it, the bid, and what comes
-- after. Assumes nothing.
use Rattle.std.specs.Prelude.{◌≡◌, Bool, true, false, ◌&&◌, ℕ, zero, suc, ◌+◌, ◌^◌, ◌≤◌, ◌<◌, ltb}
use Rattle.std.proofs.Math.Path.{refl, sym}
use Rattle.std.proofs.Common.{◌∙◌}
use Rattle.std.proofs.Math.Nat.{one-le-pow}
use native.Mathlib.Omega.{arith}
use Rattle.std.proofs.Math.Dec.{leb}
use borrow.Author.Tests.{ltb-true, ltb-false, leb-true, leb-false, lt-ltb, le-leb}
use Rattle.cover.specs.Sets.{Found, bit, found, nothing}
use Rattle.cover.specs.LeastCover.{without}
use Rattle.cover.proofs.LeastCoverLaws.{IsFirst}
use Rattle.cover.proofs.SetLaws.{and_split}
use Rattle.cover.proofs.SetMemberLaws.{Removed, add_below, removed}
use Rattle.cover.specs.Intervals.{At, across, found_cost, least_set, reaches, scan_cost}
use Rattle.cover.proofs.Intervals.ScanLaws.{Costs, Family, IsLeast, Picked, Under, found_one, min_cost, min_one, none_found}
use Rattle.cover.proofs.Intervals.ScanLaws.{right_least}
use Rattle.cover.proofs.Intervals.ScanLaws.{scan_min}
use Rattle.cover.proofs.Intervals.CoverLaws.{and_not_split}
use Rattle.cover.proofs.Intervals.PrefixLaws.{LastOf, Prefixes, AddsUp, lacks, last_of, least_set_is, least_set_right}

-- a set of the family `ok` that costs no more than e
pub record Cheap (n : ℕ) (cost : ℕ → ℕ) (ok : ℕ → Bool) (e : ℕ) : Type 0 where
  pub set : ℕ
  pub good : Family ok (2 ^ n) set
  pub cheap : cost set ≤ e

module _ (n o L : ℕ) (a b p cost : ℕ → ℕ) (may : ℕ → Bool) (ok : ℕ → ℕ → Bool) (h : Prefixes n o L a b may ok)
    (c : AddsUp n p cost) where
  pub insert : (t i m : ℕ) → t ≤ L → i < n → may i ≡ true → a i < t → t ≤ b i → Family (ok (a i)) (2 ^ n) m
      → Cheap n cost (ok t) (cost m + p i)
  insert t i m f l u x y w = go (bit m i) refl
    where
      by : Removed m i → Cheap n cost (ok t) (cost m + p i)
      by d = record {
        set = m;
        good = record {
          inside = w.inside;
          good = rw d.sum (h.add t d.rest i f l u d.lacks x y
              (h.drop (a i) d.rest i (omega arith) (λ z g k e q. omega arith) d.lacks (rw d.sum at w.good)));
        };
        cheap = omega arith;
      }

      go : (z : Bool) → bit m i ≡ z → Cheap n cost (ok t) (cost m + p i)
      go true e = by (removed i m e)
      go false e = record {
        set = m + 2 ^ i;
        good = record { inside = add_below n i m l e w.inside; good = h.add t m i f l u e x y w.good };
        cheap = omega (arith, c.join i m l e);
      }

-- a bid that has the cell before t, a set for the cells from o to it, and one for the cells from it to e
pub record Cross (n o : ℕ) (a b p cost : ℕ → ℕ) (may : ℕ → Bool) (ok : ℕ → ℕ → ℕ → Bool) (t e s : ℕ) : Type 0
  where
    pub bid : ℕ
    pub inside : bid < n
    pub usable : may bid ≡ true
    pub begins : a bid < t
    pub ends : t ≤ b bid
    pub before : ℕ
    pub early : Family (ok o (a bid)) (2 ^ n) before
    pub after : ℕ
    pub late : Family (ok (b bid) e) (2 ^ n) after
    pub cheap : cost before + p bid + cost after ≤ cost s

-- `ok o t`: the sets that cover the cells from o to t
module _ (n L : ℕ) (a b p cost : ℕ → ℕ) (may : ℕ → Bool) (ok : ℕ → ℕ → ℕ → Bool)
    (h : (o : ℕ) → Prefixes n o L a b may (ok o))
    (c : AddsUp n p cost) where
  pub cut : (fuel o t e s : ℕ) → e < fuel → o < t → t ≤ e → e ≤ L → Family (ok o e) (2 ^ n) s
      → Cross n o a b p cost may ok t e s
  cut zero o t e s u z l f q = absurd (omega arith)
  cut (suc fuel) o t e s u z l f q = go (last_of n o L a b p cost may (ok o) (h o) c e s (omega arith) f q) (cut fuel o t)
    where
      go : LastOf n a b p cost may (ok o) e s → ((e s : ℕ) → e < fuel → o < t → t ≤ e → e ≤ L → Family (ok o e) (2 ^ n) s
          → Cross n o a b p cost may ok t e s) → Cross n o a b p cost may ok t e s
      go x ih = by (ltb (a x.bid) t) refl
        where
          more : Cross n o a b p cost may ok t (a x.bid) x.rest → Cross n o a b p cost may ok t e s
          more y = record {
            bid = y.bid;
            inside = y.inside;
            usable = y.usable;
            begins = y.begins;
            ends = y.ends;
            before = y.before;
            early = y.early;
            after = put.set;
            late = put.good;
            cheap = omega (arith, put.cheap);
          }
            where
              put : Cheap n cost (ok (b y.bid) e) (cost y.after + p x.bid)
              put = insert n (b y.bid) L a b p cost may (ok (b y.bid)) (h (b y.bid)) c e x.bid y.after f x.inside
                  x.usable x.begins x.ends y.late

          by : (w : Bool) → ltb (a x.bid) t ≡ w → Cross n o a b p cost may ok t e s
          by true d = record {
            bid = x.bid;
            inside = x.inside;
            usable = x.usable;
            begins = ltb-true (a x.bid) t d;
            ends = omega arith;
            before = x.rest;
            early = x.covers;
            after = 0;
            late = record { inside = one-le-pow n 2 (omega arith); good = (h (b x.bid)).none e x.ends };
            cheap = omega (arith, c.empty);
          }
          by false d = more (ih (a x.bid) x.rest (omega arith) z (ltb-false (a x.bid) t d) (omega arith) x.covers)

  -- a set for the cells from o to u, and one for the cells from u to e
  pub glue : (fuel o u e m s : ℕ) → e < fuel → e ≤ L → Family (ok o u) (2 ^ n) m → Family (ok u e) (2 ^ n) s
      → Cheap n cost (ok o e) (cost m + cost s)
  glue zero o u e m s z f w q = absurd (omega arith)
  glue (suc fuel) o u e m s z f w q = by (leb e u) refl (glue fuel o u)
    where
      go : LastOf n a b p cost may (ok u) e s → ((e m s : ℕ) → e < fuel → e ≤ L → Family (ok o u) (2 ^ n) m
          → Family (ok u e) (2 ^ n) s
          → Cheap n cost (ok o e) (cost m + cost s)) → Cheap n cost (ok o e) (cost m + cost s)
      go x ih = to (ih (a x.bid) m x.rest (omega arith) (omega arith) w x.covers)
        where
          to : Cheap n cost (ok o (a x.bid)) (cost m + cost x.rest) → Cheap n cost (ok o e) (cost m + cost s)
          to y = let r = insert n o L a b p cost may (ok o) (h o) c e x.bid y.set f x.inside x.usable x.begins x.ends
              y.good in record { set = r.set; good = r.good; cheap = omega arith }

      by : (d : Bool) → leb e u ≡ d → ((e m s : ℕ) → e < fuel → e ≤ L → Family (ok o u) (2 ^ n) m
          → Family (ok u e) (2 ^ n) s
          → Cheap n cost (ok o e) (cost m + cost s)) → Cheap n cost (ok o e) (cost m + cost s)
      by true d ih = record {
        set = m;
        good = record { inside = w.inside; good = (h o).less u e m (leb-true e u d) w.good };
        cheap = omega arith;
      }
      by false d ih = go (last_of n u L a b p cost may (ok u) (h u) c e s (leb-false e u d) f q) ih

  -- a bid between a set that comes before it and one that comes after it
  pub between : (o i m s : ℕ) → i < n → may i ≡ true → a i < b i → a i < L → Family (ok o (a i)) (2 ^ n) m
      → Family (ok (b i) L) (2 ^ n) s
      → Cheap n cost (ok o L) (cost m + p i + cost s)
  between o i m s l u x y w q = by (leb L (b i)) refl
    where
      to : Cheap n cost (ok o (b i)) (cost m + p i) → Cheap n cost (ok o L) (cost m + p i + cost s)
      to r = let z = glue (suc L) o (b i) L r.set s (omega arith) (omega arith) r.good q in
          record { set = z.set; good = z.good; cheap = omega arith }

      by : (d : Bool) → leb L (b i) ≡ d → Cheap n cost (ok o L) (cost m + p i + cost s)
      by true d = let r = insert n o L a b p cost may (ok o) (h o) c L i m (omega arith) l u y (leb-true L (b i) d) w in
          record { set = r.set; good = r.good; cheap = omega arith }
      by false d = to (insert n o L a b p cost may (ok o) (h o) c (b i) i m (omega (arith, leb-false L (b i) d)) l u x (omega arith) w)

  -- THE SPLIT LAW, at the cell before t
  module _ (at : ℕ → ℕ) (w : ℕ → Found) (k o t : ℕ) (z : o < t) (f : t ≤ L)
      (bids : (q : ℕ) → q < k → at q < n)
      (every : (i : ℕ) → i < n → a i < t → t ≤ b i → At at k i)
      (values : (q : ℕ) → q < k → a (at q) < t → t ≤ b (at q)
      → w q ≡ across (p (at q)) (found_cost cost (least_set (ok o) cost n (a (at q))))
      (found_cost cost (least_set (ok (b (at q))) cost n L)))
    where
      over : (x : ℕ) → Picked (reaches a b may at t) w k x → Under (Costs (Family (ok o L) (2 ^ n)) cost) x
      unfolding reaches across found_cost
      over x q = go (and_split (may (at q.at)) _ q.passes)
        where
          go : (may (at q.at) ≡ true) × (ltb (a (at q.at)) t && leb t (b (at q.at)) ≡ true)
              → Under (Costs (Family (ok o L) (2 ^ n)) cost) x
          go u = by (and_split (ltb (a (at q.at)) t) (leb t (b (at q.at))) u.1)
            where
              by : (ltb (a (at q.at)) t ≡ true) × (leb t (b (at q.at)) ≡ true) → Under (Costs (Family (ok o L) (2 ^ n)) cost) x
              by d = to (least_set (ok o) cost n (a (at q.at))) (least_set (ok (b (at q.at))) cost n L)
                  (least_set_right (ok o) cost n (a (at q.at))) (least_set_right (ok (b (at q.at))) cost n L)
                  (sym (values q.at q.inside begins ends) ∙ q.value)
                where
                  begins : a (at q.at) < t
                  begins = ltb-true (a (at q.at)) t d.0

                  ends : t ≤ b (at q.at)
                  ends = leb-true t (b (at q.at)) d.1

                  to : (r s : Found) → IsFirst (ok o (a (at q.at))) cost (2 ^ n) r → IsFirst (ok (b (at q.at)) L) cost (2 ^ n) s
                      → across (p (at q.at)) (found_cost cost r) (found_cost cost s) ≡ found x
                      → Under (Costs (Family (ok o L) (2 ^ n)) cost) x
                  to nothing s g h e = absurd (none_found e)
                  to (found m) nothing g h e = absurd (none_found e)
                  to (found m) (found s) g h e =
                      let y = between o (at q.at) m s (bids q.at q.inside) u.0 (omega (arith, begins, ends))
                      (omega (arith, begins)) (record { inside = g.inside; good = g.good })
                      (record { inside = h.inside; good = h.good }) in
                      record {
                        one = cost y.set;
                        good = record { set = y.set; good = y.good; is = refl };
                        under = omega (arith, found_one e);
                      }

      under : (x : ℕ) → Costs (Family (ok o L) (2 ^ n)) cost x → Under (Picked (reaches a b may at t) w k) x
      unfolding reaches across found_cost
      under x q = go (cut (suc L) o t L q.set (omega arith) z f (omega arith) q.good)
        where
          go : Cross n o a b p cost may ok t L q.set → Under (Picked (reaches a b may at t) w k) x
          go y = to (every y.bid y.inside y.begins y.ends) (least_set (ok o) cost n (a y.bid))
              (least_set (ok (b y.bid)) cost n L) refl refl (least_set_right (ok o) cost n (a y.bid))
              (least_set_right (ok (b y.bid)) cost n L)
            where
              to : At at k y.bid → (r s : Found) → least_set (ok o) cost n (a y.bid) ≡ r
                  → least_set (ok (b y.bid)) cost n L ≡ s
                  → IsFirst (ok o (a y.bid)) cost (2 ^ n) r → IsFirst (ok (b y.bid) L) cost (2 ^ n) s
                  → Under (Picked (reaches a b may at t) w k) x
              to v nothing s d e g h = absurd (g y.before y.early.inside y.early.good)
              to v (found m) nothing d e g h = absurd (h y.after y.late.inside y.late.good)
              to v (found m) (found s) d e g h = record {
                one = cost m + p y.bid + cost s;
                good = record {
                  at = v.place;
                  inside = v.inside;
                  passes = rw (v.is, y.usable, lt-ltb (a y.bid) t y.begins, le-leb t (b y.bid) y.ends);
                  value = values v.place v.inside (rw v.is y.begins) (rw v.is y.ends) ∙ rw (v.is, d, e);
                };
                under = omega (
                  arith,
                  g.least y.before y.early.inside y.early.good,
                  h.least y.after y.late.inside y.late.good,
                );
              }

      pub split_cost : scan_cost (reaches a b may at t) w k ≡ found_cost cost (least_set (ok o) cost n L)
      split_cost = min_one (Picked (reaches a b may at t) w k) (Costs (Family (ok o L) (2 ^ n)) cost) over under
          (scan_cost (reaches a b may at t) w k) (found_cost cost (least_set (ok o) cost n L))
          (scan_min (reaches a b may at t) w k) (min_cost (Family (ok o L) (2 ^ n)) cost (least_set (ok o) cost n L)
          (right_least (ok o L) cost (2 ^ n) (least_set (ok o) cost n L) (least_set_right (ok o) cost n L)))

-- what bid k has no cell of is as well covered without it
module _ (n o L : ℕ) (a b p cost : ℕ → ℕ) (may : ℕ → Bool) (ok : ℕ → ℕ → Bool) (h : Prefixes n o L a b may ok)
    (c : AddsUp n p cost) where
  pub unneeded : (k u : ℕ) → k < n → u ≤ L → ((x : ℕ) → o ≤ x → x < u → a k ≤ x → x < b k → ⊥)
      → least_set (λ t s. without k (ok t) s) cost n u ≡ least_set ok cost n u
  unfolding without
  unneeded k u l f d = sym (least_set_is (λ t s. without k (ok t) s) cost n u (least_set ok cost n u)
      (go (least_set ok cost n u) (least_set_right ok cost n u)))
    where
      go : (r : Found) → IsFirst (ok u) cost (2 ^ n) r → IsLeast (Family (λ s. without k (ok u) s) (2 ^ n)) cost r
      go nothing w = λ s q. w s q.inside (and_not_split (ok u s) (bit s k) q.good).0
      go (found m) w = record {
        good = record { inside = w.inside; good = rw (w.good, lacks n o L a b p cost may ok h c u k m l d f w) };
        fore = λ s q. let g = (and_not_split (ok u s) (bit s k) q.good).0 in
            record { cheap = w.least s q.inside g; early = λ e. w.earliest s q.inside g (sym e) };
      }
