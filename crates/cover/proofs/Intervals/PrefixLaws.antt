-- Bids with one run of cells each: the least set that covers the cells below t, from the least sets that cover the cells below a
-- bid's start. Assumes nothing.
use Rattle.std.specs.Prelude.{◌≡◌, Bool, ◌&&◌, ltb}
use Rattle.std.proofs.Math.Path.{refl, sym, ap}
use Rattle.std.proofs.Common.{◌∙◌, arith}
use Rattle.std.proofs.Math.Bool.{true, false, cond}
use Prim.Native.Nat.{ℕ, ◌+◌, ◌^◌, ◌≤◌, ◌<◌}
use Rattle.std.proofs.Math.Nat.{one-le-pow}
use Rattle.std.proofs.Math.Dec.{leb}
use borrow.Author.Tests.{ltb-true, ltb-false, leb-true, leb-false, lt-ltb, le-leb}
use Rattle.cover.specs.Sets.{Found, bit, found, nothing}
use Rattle.cover.specs.LeastCover.{Wins}
use Rattle.cover.proofs.LeastCoverLaws.{IsFirst, first_right}
use Rattle.cover.proofs.SetLaws.{and_split}
use Rattle.cover.proofs.SetMemberLaws.{Removed, add_below, removed}
use Rattle.cover.specs.Intervals.{At, Order, found_cost, grow_set, least_set, plus, raise, reaches, scan, scan_cost}
use Rattle.cover.proofs.Intervals.ScanLaws.{SomeBefore, Family, IsLeast, Picked, cost_scan, found_one, least_of, least_one}
use Rattle.cover.proofs.Intervals.ScanLaws.{least_same}
use Rattle.cover.proofs.Intervals.ScanLaws.{none_found, right_least, scan_least}

-- a bid of s that has the cell before t
pub record Last (n : ℕ) (a b : ℕ → ℕ) (may : ℕ → Bool) (t s : ℕ) : Type 0 where
  pub bid : ℕ
  pub inside : bid < n
  pub usable : may bid ≡ true
  pub takes : bit s bid ≡ true
  pub begins : a bid < t
  pub ends : t ≤ b bid

-- `ok t` are the sets that cover the cells from o to t by bids that may be used, where bid i has the cells from a i to b i
pub record Prefixes (n o L : ℕ) (a b : ℕ → ℕ) (may : ℕ → Bool) (ok : ℕ → ℕ → Bool) : Type 0 where
  pub none : (t : ℕ) → t ≤ o → ok t 0 ≡ true
  pub less : (t u s : ℕ) → u ≤ t → ok t s ≡ true → ok u s ≡ true
  pub last : (t s : ℕ) → o < t → t ≤ L → ok t s ≡ true → Last n a b may t s
  pub drop : (t m i : ℕ) → t ≤ L → ((x : ℕ) → o ≤ x → x < t → a i ≤ x → x < b i → ⊥) → bit m i ≡ false
      → ok t (m + 2 ^ i) ≡ true
      → ok t m ≡ true
  pub add : (t m i : ℕ) → t ≤ L → i < n → may i ≡ true → bit m i ≡ false → a i < t → t ≤ b i → ok (a i) m ≡ true
      → ok t (m + 2 ^ i) ≡ true

pub record AddsUp (n : ℕ) (p cost : ℕ → ℕ) : Type 0 where
  pub empty : cost 0 ≡ 0
  pub join : (i m : ℕ) → i < n → bit m i ≡ false → cost (m + 2 ^ i) ≡ cost m + p i

-- a set that covers the cells below t is a rest and a bid that has the cell before t; the rest covers the cells below that bid's start
pub record LastOf (n : ℕ) (a b p cost : ℕ → ℕ) (may : ℕ → Bool) (ok : ℕ → ℕ → Bool) (t s : ℕ) : Type 0 where
  pub bid : ℕ
  pub inside : bid < n
  pub usable : may bid ≡ true
  pub begins : a bid < t
  pub ends : t ≤ b bid
  pub rest : ℕ
  pub lacks : bit rest bid ≡ false
  pub sum : s ≡ rest + 2 ^ bid
  pub covers : Family (ok (a bid)) (2 ^ n) rest
  pub price : cost s ≡ cost rest + p bid

-- a candidate for the least set that covers the cells below t
pub record Candidate (n : ℕ) (a b cost : ℕ → ℕ) (may : ℕ → Bool) (ok : ℕ → ℕ → Bool) (t s : ℕ) : Type 0 where
  pub bid : ℕ
  pub inside : bid < n
  pub usable : may bid ≡ true
  pub begins : a bid < t
  pub ends : t ≤ b bid
  pub value : plus bid (least_set ok cost n (a bid)) ≡ found s

-- whoever begins before the bid at position k is at a position below k
pub ready : (n : ℕ) (a at : ℕ → ℕ) → Order n a at → (k : ℕ) → k < n → (i : ℕ) → i < n → a i < a (at k) → At at k i
ready n a at o k l i j d = go (o.every i j)
  where
    go : At at n i → At at k i
    go y = record { place = y.place; inside = by (ltb y.place k) refl; is = y.is }
      where
        by : (t : Bool) → ltb y.place k ≡ t → y.place < k
        by true e = ltb-true y.place k e
        by false e = omega (arith, o.sorted k y.place (ltb-false y.place k e) y.inside, ap a y.is)

pub least_set_right : (ok : ℕ → ℕ → Bool) (cost : ℕ → ℕ) (n t : ℕ) → IsFirst (ok t) cost (2 ^ n) (least_set ok cost n t)
unfolding least_set
least_set_right ok cost n t = first_right (ok t) cost (2 ^ n)

pub least_set_is : (ok : ℕ → ℕ → Bool) (cost : ℕ → ℕ) (n t : ℕ) (r : Found) → IsLeast (Family (ok t) (2 ^ n)) cost r
    → r ≡ least_set ok cost n t
least_set_is ok cost n t r h = least_one (Family (ok t) (2 ^ n)) cost r (least_set ok cost n t) h
    (right_least (ok t) cost (2 ^ n) (least_set ok cost n t) (least_set_right ok cost n t))

module _ (n o L : ℕ) (a b p cost : ℕ → ℕ) (may : ℕ → Bool) (ok : ℕ → ℕ → Bool) (h : Prefixes n o L a b may ok)
    (c : AddsUp n p cost) where
  -- a winner is without a bid that has none of the cells
  pub lacks : (u i m : ℕ) → i < n → ((x : ℕ) → o ≤ x → x < u → a i ≤ x → x < b i → ⊥) → u ≤ L
      → Wins (ok u) cost (2 ^ n) m → bit m i ≡ false
  lacks u i m l y f w = go (bit m i) refl
    where
      bad : Removed m i → ⊥
      bad d = omega (arith, one-le-pow i 2 (omega arith), w.earliest d.rest under good (omega (arith, dear, paid)))
        where
          under : d.rest < 2 ^ n
          under = omega (arith, w.inside)

          good : ok u d.rest ≡ true
          good = h.drop u d.rest i f y d.lacks (rw d.sum at w.good)

          paid : cost m ≡ cost d.rest + p i
          paid = ap cost d.sum ∙ c.join i d.rest l d.lacks

          dear : cost m ≤ cost d.rest
          dear = w.least d.rest under good

      go : (t : Bool) → bit m i ≡ t → bit m i ≡ false
      go true e = absurd (bad (removed i m e))
      go false e = e

  pub upper : (t i m : ℕ) → t ≤ L → i < n → may i ≡ true → a i < t → t ≤ b i → Wins (ok (a i)) cost (2 ^ n) m
      → Family (ok t) (2 ^ n) (m + 2 ^ i)
  upper t i m f l u x y w = record { inside = add_below n i m l k w.inside; good = h.add t m i f l u k x y w.good }
    where
      k : bit m i ≡ false
      k = lacks (a i) i m l (λ x z g d e. omega arith) (omega arith) w

  pub upper_cost : (i m : ℕ) → i < n → a i ≤ L → Wins (ok (a i)) cost (2 ^ n) m → cost (m + 2 ^ i) ≡ cost m + p i
  upper_cost i m l f w = c.join i m l (lacks (a i) i m l (λ x z g d e. omega arith) f w)

  pub last_of : (t s : ℕ) → o < t → t ≤ L → Family (ok t) (2 ^ n) s → LastOf n a b p cost may ok t s
  last_of t s z f q = go (h.last t s z f q.good)
    where
      go : Last n a b may t s → LastOf n a b p cost may ok t s
      go x = by (removed x.bid s x.takes)
        where
          by : Removed s x.bid → LastOf n a b p cost may ok t s
          by d = record {
            bid = x.bid;
            inside = x.inside;
            usable = x.usable;
            begins = x.begins;
            ends = x.ends;
            rest = d.rest;
            lacks = d.lacks;
            sum = d.sum;
            covers = record {
              inside = omega arith;
              good = h.drop (a x.bid) d.rest x.bid (omega arith) (λ y z g k e. omega arith) d.lacks
                  (h.less t (a x.bid) _ (omega arith) (rw d.sum at q.good));
            };
            price = ap cost d.sum ∙ c.join x.bid d.rest x.inside d.lacks;
          }

  cand_in : (t s : ℕ) → t ≤ L → Candidate n a b cost may ok t s → Family (ok t) (2 ^ n) s
  unfolding plus
  cand_in t s f x = go (least_set ok cost n (a x.bid)) x.value (least_set_right ok cost n (a x.bid))
    where
      go : (r : Found) → plus x.bid r ≡ found s → IsFirst (ok (a x.bid)) cost (2 ^ n) r → Family (ok t) (2 ^ n) s
      go nothing e w = absurd (none_found e)
      go (found m) e w = rw (← found_one e) (upper t x.bid m f x.inside x.usable x.begins x.ends w)

  cand_before : (t s : ℕ) → t ≤ L → LastOf n a b p cost may ok t s → SomeBefore (Candidate n a b cost may ok t) cost s
  unfolding plus
  cand_before t s f x = go (least_set ok cost n (a x.bid)) refl (least_set_right ok cost n (a x.bid))
    where
      go : (r : Found) → least_set ok cost n (a x.bid) ≡ r → IsFirst (ok (a x.bid)) cost (2 ^ n) r
          → SomeBefore (Candidate n a b cost may ok t) cost s
      go nothing e w = absurd (w x.rest x.covers.inside x.covers.good)
      go (found m) e w = record {
        one = m + 2 ^ x.bid;
        good = record { bid = x.bid; inside = x.inside; usable = x.usable; begins = x.begins; ends = x.ends; value = rw e };
        fore = record {
          cheap = omega (arith, paid, dear);
          early = λ q. omega (arith, w.earliest x.rest x.covers.inside x.covers.good (omega (arith, paid)));
        };
      }
        where
          paid : cost (m + 2 ^ x.bid) ≡ cost m + p x.bid
          paid = upper_cost x.bid m x.inside (omega arith) w

          dear : cost m ≤ cost x.rest
          dear = w.least x.rest x.covers.inside x.covers.good

  -- THE PREFIX LAW
  pub prefix : (t : ℕ) (r : Found) → o < t → t ≤ L → IsLeast (Candidate n a b cost may ok t) cost r
      → r ≡ least_set ok cost n t
  prefix t r z f g = least_set_is ok cost n t r (least_of (Candidate n a b cost may ok t) (Family (ok t) (2 ^ n)) cost (λ s. cand_in t s f)
      (λ s q. cand_before t s f (last_of t s z f q)) r g)

  pub start : (t : ℕ) → t ≤ o → least_set ok cost n t ≡ found 0
  start t l = sym (least_set_is ok cost n t (found 0) (record {
    good = record { inside = one-le-pow n 2 (omega arith); good = h.none t l };
    fore = λ s q. record { cheap = omega (arith, c.empty); early = λ e. omega arith };
  }))

  -- the bids at the positions below k, each with its value, decide the least set that covers the cells below t
  module _ (at : ℕ → ℕ) (v : ℕ → Found) (k t : ℕ) (z : o < t) (f : t ≤ L)
      (bids : (q : ℕ) → q < k → at q < n)
      (every : (i : ℕ) → i < n → a i < t → t ≤ b i → At at k i)
      (values : (q : ℕ) → q < k → a (at q) < t → v q ≡ plus (at q) (least_set ok cost n (a (at q)))) where
    cand : (s : ℕ) → Picked (reaches a b may at t) v k s → Candidate n a b cost may ok t s
    unfolding reaches
    cand s q = go (and_split (may (at q.at)) _ q.passes)
      where
        go : (may (at q.at) ≡ true) × (ltb (a (at q.at)) t && leb t (b (at q.at)) ≡ true) → Candidate n a b cost may ok t s
        go u = by (and_split (ltb (a (at q.at)) t) (leb t (b (at q.at))) u.1)
          where
            by : (ltb (a (at q.at)) t ≡ true) × (leb t (b (at q.at)) ≡ true) → Candidate n a b cost may ok t s
            by w = record {
              bid = at q.at;
              inside = bids q.at q.inside;
              usable = u.0;
              begins = ltb-true (a (at q.at)) t w.0;
              ends = leb-true t (b (at q.at)) w.1;
              value = sym (values q.at q.inside (ltb-true (a (at q.at)) t w.0)) ∙ q.value;
            }

    picked : (s : ℕ) → Candidate n a b cost may ok t s → Picked (reaches a b may at t) v k s
    unfolding reaches
    picked s x = go (every x.bid x.inside x.begins x.ends)
      where
        go : At at k x.bid → Picked (reaches a b may at t) v k s
        go y = record {
          at = y.place;
          inside = y.inside;
          passes = rw (y.is, x.usable, lt-ltb (a x.bid) t x.begins, le-leb t (b x.bid) x.ends);
          value = values y.place y.inside (rw y.is x.begins) ∙ rw y.is x.value;
        }

    pub scanned : (r : Found) → IsLeast (Picked (reaches a b may at t) v k) cost r → r ≡ least_set ok cost n t
    scanned r g = prefix t r z f (least_same (Picked (reaches a b may at t) v k) (Candidate n a b cost may ok t) cost cand picked r g)

    pub scan_least_set : scan cost (reaches a b may at t) v k ≡ least_set ok cost n t
    scan_least_set = scanned (scan cost (reaches a b may at t) v k) (scan_least cost (reaches a b may at t) v k)

  pub cost_plus : (i : ℕ) → i < n → a i ≤ L → found_cost cost (plus i (least_set ok cost n (a i)))
      ≡ raise (p i) (found_cost cost (least_set ok cost n (a i)))
  unfolding found_cost plus raise
  cost_plus i l f = go (least_set ok cost n (a i)) (least_set_right ok cost n (a i))
    where
      go : (r : Found) → IsFirst (ok (a i)) cost (2 ^ n) r → found_cost cost (plus i r) ≡ raise (p i) (found_cost cost r)
      go nothing w = refl
      go (found m) w = ap found (upper_cost i m l f w)

  -- costs alone, at the positions below k
  pub scan_cost_lem : (at : ℕ → ℕ) (w : ℕ → Found) (k t : ℕ) → o < t → t ≤ L
      → ((q : ℕ) → q < k → at q < n)
      → ((i : ℕ) → i < n → a i < t → t ≤ b i → At at k i)
      → ((q : ℕ) → q < k → a (at q) < t → w q ≡ raise (p (at q)) (found_cost cost (least_set ok cost n (a (at q)))))
      → scan_cost (reaches a b may at t) w k ≡ found_cost cost (least_set ok cost n t)
  unfolding reaches
  scan_cost_lem at w k t z f bids every values =
      sym (cost_scan cost (reaches a b may at t) v w k same)
      ∙ ap (found_cost cost) (scan_least_set at v k t z f bids every (λ q l d. refl))
    where
      v : ℕ → Found
      v q = plus (at q) (least_set ok cost n (a (at q)))

      same : (q : ℕ) → q < k → reaches a b may at t q ≡ true → w q ≡ found_cost cost (v q)
      same q l e = values q l before ∙ sym (cost_plus (at q) (bids q l) (omega (arith, before)))
        where
          before : a (at q) < t
          before = ltb-true (a (at q)) t (and_split (ltb (a (at q)) t) (leb t (b (at q))) (and_split (may (at q)) _ e).1).0

  -- THE RECURRENCE, the bids in order of start
  module _ (at : ℕ → ℕ) (r : Order n a at) where
    pub grown : (v : ℕ → Found) (k : ℕ) → k < n → a (at k) ≤ L
        → ((q : ℕ) → q < k → a (at q) < L → v q ≡ plus (at q) (least_set ok cost n (a (at q))))
        → grow_set o a b cost may at v k ≡ plus (at k) (least_set ok cost n (a (at k)))
    unfolding grow_set
    grown v k l f values = ap (plus (at k)) (go (leb (a (at k)) o) refl)
      where
        go : (t : Bool) → leb (a (at k)) o ≡ t → cond t (found 0) (scan cost (reaches a b may at (a (at k))) v k)
            ≡ least_set ok cost n (a (at k))
        go true e = sym (start (a (at k)) (leb-true (a (at k)) o e))
        go false e = scan_least_set at v k (a (at k)) (leb-false (a (at k)) o e) f (λ q d. r.bids q (omega arith))
            (λ i d g u. ready n a at r k l i d (omega arith)) (λ q d g. values q d (omega arith))

    pub award : (v : ℕ → Found) → o < L → ((q : ℕ) → q < n → a (at q) < L
        → v q ≡ plus (at q) (least_set ok cost n (a (at q))))
        → scan cost (reaches a b may at L) v n ≡ least_set ok cost n L
    award v z values = scan_least_set at v n L z (omega arith) r.bids (λ i d g u. r.every i d) values
