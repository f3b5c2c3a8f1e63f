-- The sets that cover the cells below t, of bids with one run of cells each, are such as Prefix asks for; and so are those of
-- them without bid k. Assumes nothing.
use Rattle.std.specs.Prelude.{◌≡◌, ◌⊎◌, Bool, not, ◌&&◌, ◌||◌, List, ℕ, zero, suc, ◌+◌, ◌-◌, ◌^◌}
use Rattle.std.specs.Prelude.{◌≤◌, ◌<◌, leb, length, get_or}
use Rattle.std.proofs.Math.Path.{refl, sym, ap}
use Rattle.std.proofs.Common.{◌∙◌, inl, inr, arith}
use Rattle.std.proofs.Math.Bool.{true, false, false≢true}
use Rattle.std.proofs.Math.Dec.{ltb, eqb}
use borrow.Author.Tests.{ltb-true, ltb-false, leb-true, lt-ltb, le-leb, eqb-true, eqb-false, ne_eqb}
use Rattle.cover.specs.Sets.{bit, cost, hit}
use Rattle.cover.specs.LeastCover.{without}
use Rattle.cover.proofs.SetLaws.{or_split, Member, all_at, all_of, and_split, hit_of, hit_some}
use Rattle.cover.proofs.SetMemberLaws.{added, cost_add, cost_none}
use Rattle.cover.specs.Intervals.{covers_from, may_but}
use Rattle.cover.proofs.Intervals.PrefixLaws.{Last, Prefixes, AddsUp}

-- up to L, bid i has the cells from a i to b i
module _ (f : ℕ → ℕ) (o L : ℕ) (has : ℕ → ℕ → Bool) (n : ℕ) (a b : ℕ → ℕ)
    (sees : (i x : ℕ) → i < n → x < L → has i (f x) ≡ leb (a i) x && ltb x (b i)) where
  pub meets_at : (t s x : ℕ) → covers_from f o has n t s ≡ true → o ≤ x → x < t → Member has n s (f x)
  unfolding covers_from
  meets_at t s x e l k = go (or_split (ltb x o) (hit has n s (f x)) (all_at (λ y. ltb y o || hit has n s (f y)) t e x k))
    where
      go : (ltb x o ≡ true) ⊎ (hit has n s (f x) ≡ true) → Member has n s (f x)
      go (inl q) = absurd (omega (arith, ltb-true x o q))
      go (inr q) = hit_some has n s (f x) q

  pub covers_of : (t s : ℕ) → ((x : ℕ) → o ≤ x → x < t → hit has n s (f x) ≡ true) → covers_from f o has n t s ≡ true
  unfolding covers_from
  covers_of t s g = all_of (λ y. ltb y o || hit has n s (f y)) t (λ x k. go x k (ltb x o) refl)
    where
      go : (x : ℕ) → x < t → (w : Bool) → ltb x o ≡ w → w || hit has n s (f x) ≡ true
      go x k true q = refl
      go x k false q = g x (ltb-false x o q) k

  span : (s x : ℕ) → x < L → (m : Member has n s (f x)) → (a m.who ≤ x) × (x < b m.who)
  span s x l m = go (and_split (leb (a m.who) x) (ltb x (b m.who)) (sym (sees m.who x m.inside l) ∙ m.covers_it))
    where
      go : (leb (a m.who) x ≡ true) × (ltb x (b m.who) ≡ true) → (a m.who ≤ x) × (x < b m.who)
      go w = (leb-true (a m.who) x w.0, ltb-true x (b m.who) w.1)

  last : (t s : ℕ) → o < t → t ≤ L → covers_from f o has n t s ≡ true → Last n a b (λ i. true) t s
  last t s z l e = go (meets_at t s (t - 1) e (omega arith) (omega arith))
    where
      go : Member has n s (f (t - 1)) → Last n a b (λ i. true) t s
      go m = record {
        bid = m.who;
        inside = m.inside;
        usable = refl;
        takes = m.in_set;
        begins = omega (arith, (span s (t - 1) (omega arith) m).0);
        ends = omega (arith, (span s (t - 1) (omega arith) m).1);
      }

  -- a bid whose cells the rest has can go
  pub spare : (t m i : ℕ) → t ≤ L → bit m i ≡ false
      → ((x : ℕ) → o ≤ x → x < t → a i ≤ x → x < b i → hit has n m (f x) ≡ true)
      → covers_from f o has n t (m + 2 ^ i) ≡ true → covers_from f o has n t m ≡ true
  spare t m i l k d e = covers_of t m (λ x z g. go x z g (meets_at t (m + 2 ^ i) x e z g))
    where
      go : (x : ℕ) → o ≤ x → x < t → Member has n (m + 2 ^ i) (f x) → hit has n m (f x) ≡ true
      go x z g y = by (eqb y.who i) refl
        where
          by : (w : Bool) → eqb y.who i ≡ w → hit has n m (f x) ≡ true
          by true q = d x z g (omega (arith, ap a (eqb-true y.who i q), (span (m + 2 ^ i) x (omega arith) y).0))
              (omega (arith, ap b (eqb-true y.who i q), (span (m + 2 ^ i) x (omega arith) y).1))
          by false q = hit_of has n m (f x) y.who y.inside (sym ((added i m k).keeps y.who (eqb-false y.who i q)) ∙ y.in_set)
              y.covers_it

  stay : (m i j : ℕ) → bit m i ≡ false → bit m j ≡ true → bit (m + 2 ^ i) j ≡ true
  stay m i j k e = (added i m k).keeps j (λ q. false≢true (sym k ∙ ap (bit m) (sym q) ∙ e)) ∙ e

  add : (t m i : ℕ) → t ≤ L → i < n → bit m i ≡ false → t ≤ b i → covers_from f o has n (a i) m ≡ true
      → covers_from f o has n t (m + 2 ^ i) ≡ true
  add t m i l j k d e = covers_of t (m + 2 ^ i) (λ x z g. go x z g (ltb x (a i)) refl)
    where
      up : (x : ℕ) → Member has n m (f x) → hit has n (m + 2 ^ i) (f x) ≡ true
      up x y = hit_of has n (m + 2 ^ i) (f x) y.who y.inside (stay m i y.who k y.in_set) y.covers_it

      go : (x : ℕ) → o ≤ x → x < t → (w : Bool) → ltb x (a i) ≡ w → hit has n (m + 2 ^ i) (f x) ≡ true
      go x z g true q = up x (meets_at (a i) m x e z (ltb-true x (a i) q))
      go x z g false q = hit_of has n (m + 2 ^ i) (f x) i j (added i m k).takes
          (sees i x j (omega arith) ∙ rw (le-leb (a i) x (ltb-false x (a i) q), lt-ltb x (b i) (omega arith)))

  pub covers_prefixes : Prefixes n o L a b (λ i. true) (covers_from f o has n)
  covers_prefixes = record {
    none = λ t l. covers_of t 0 (λ x z g. absurd (omega arith));
    less = λ t u s l e. covers_of u s (λ x z g. let m = meets_at t s x e z (omega arith) in
        hit_of has n s (f x) m.who m.inside m.in_set m.covers_it);
    last = last;
    drop = λ t m i l d k e. spare t m i l k (λ x z g y w. absurd (d x z g y w)) e;
    add = λ t m i l j u k x y e. add t m i l j k y e;
  }

pub priced : (ps : List ℕ) → AddsUp (length ps) (λ i. get_or ps i 0) (cost ps)
priced ps = record { empty = cost_none ps; join = λ i m l e. cost_add ps i m l e }

pub bit_none : (i : ℕ) → bit 0 i ≡ false
unfolding bit
bit_none zero = refl
bit_none (suc i) = bit_none i

pub and_not_split : (a b : Bool) → a && not b ≡ true → (a ≡ true) × (b ≡ false)
and_not_split true false e = (refl, refl)
and_not_split true true e = absurd (false≢true e)
and_not_split false b e = absurd (false≢true e)

-- the sets without bid k: as though it might not be used
module _ (n o L : ℕ) (a b : ℕ → ℕ) (may : ℕ → Bool) (ok : ℕ → ℕ → Bool) (k : ℕ) (h : Prefixes n o L a b may ok) where
  without_last : (t s : ℕ) → o < t → t ≤ L → without k (ok t) s ≡ true → Last n a b (may_but k may) t s
  unfolding without may_but
  without_last t s z l e = go (and_not_split (ok t s) (bit s k) e)
    where
      go : (ok t s ≡ true) × (bit s k ≡ false) → Last n a b (may_but k may) t s
      go q = by (h.last t s z l q.0)
        where
          by : Last n a b may t s → Last n a b (may_but k may) t s
          by m = record {
            bid = m.bid;
            inside = m.inside;
            usable = rw (m.usable, ne_eqb m.bid k (λ g. false≢true (sym q.1 ∙ ap (bit s) (sym g) ∙ m.takes)));
            takes = m.takes;
            begins = m.begins;
            ends = m.ends;
          }

  without_drop : (t m i : ℕ) → t ≤ L → ((x : ℕ) → o ≤ x → x < t → a i ≤ x → x < b i → ⊥) → bit m i ≡ false
      → without k (ok t) (m + 2 ^ i) ≡ true → without k (ok t) m ≡ true
  unfolding without
  without_drop t m i l d x e = go (and_not_split (ok t (m + 2 ^ i)) (bit (m + 2 ^ i) k) e)
    where
      go : (ok t (m + 2 ^ i) ≡ true) × (bit (m + 2 ^ i) k ≡ false) → without k (ok t) m ≡ true
      go q = rw (h.drop t m i l d x q.0, by (eqb k i) refl)
        where
          by : (w : Bool) → eqb k i ≡ w → bit m k ≡ false
          by true g = ap (bit m) (eqb-true k i g) ∙ x
          by false g = sym ((added i m x).keeps k (eqb-false k i g)) ∙ q.1

  without_add : (t m i : ℕ) → t ≤ L → i < n → may_but k may i ≡ true → bit m i ≡ false → a i < t → t ≤ b i
      → without k (ok (a i)) m ≡ true
      → without k (ok t) (m + 2 ^ i) ≡ true
  unfolding without may_but
  without_add t m i l j u x y z e = go (and_not_split (ok (a i) m) (bit m k) e) (and_not_split (may i) (eqb i k) u)
    where
      go : (ok (a i) m ≡ true) × (bit m k ≡ false) → (may i ≡ true) × (eqb i k ≡ false)
          → without k (ok t) (m + 2 ^ i) ≡ true
      go q w = rw (h.add t m i l j w.0 x y z q.0, (added i m x).keeps k (λ g. eqb-false i k w.1 (sym g)), q.1)

  pub without_prefixes : Prefixes n o L a b (may_but k may) (λ t s. without k (ok t) s)
  unfolding without
  without_prefixes = record {
    none = λ t l. rw (h.none t l, bit_none k);
    less = λ t u s l e. let q = and_not_split (ok t s) (bit s k) e in rw (h.less t u s l q.0, q.1);
    last = without_last;
    drop = without_drop;
    add = without_add;
  }
