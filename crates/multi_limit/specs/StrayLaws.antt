-- The run without bid k beside the main run: which bid it takes next, and what stays true where either closes a bid's cells. Assumes
-- nothing.
use Rattle.std.specs.Prelude.{◌≡◌, refl, ◌⊎◌, Bool, true, false, List, ℕ, ◌-◌, ◌*◌, ◌%◌, ◌≤◌, ◌<◌, set}
use Rattle.std.specs.Prelude.{eqb}
use Rattle.std.proofs.Common.{ap, ◌∙◌, inl, inr, ⊎_elim, arith, length-set}
use Rattle.std.proofs.Math.ListN.{length}
use Rattle.cover.specs.Sets.{when, found}
use Rattle.cover.specs.Greedy.{Entry, reach, best, bids}
use Rattle.cover.proofs.GreedyLaws.{withdrawn_other, withdrawn_reach}
use Rattle.cover.specs.CriticalPrice.{mute, withdrawn}
use Rattle.cells.specs.Cells.{cell}
use Rattle.multi_keys.specs.Keys.{at, out, key_of}
use Rattle.multi_keys.proofs.KeyLaws.{key_none, key_bid, key_rises}
use Rattle.multi_keys.proofs.TreeLaws.{set_at}
use Rattle.multi_market.specs.Market.{Priced}
use Rattle.multi_market.specs.Opens.{opens, open_of}
use Rattle.multi_market.proofs.OpensLaws.{reach_less}
use Rattle.multi_market.specs.Seats.{key_in, key_at, Seat, Fronted}
use Rattle.multi_market.proofs.KeyedLaws.{zero_or, key_at_lem, opens_most, least_taken}
use Rattle.multi_gain.specs.Gain.{Gained}
use Rattle.multi_limit.specs.Follow.{Strayed}

-- the bids without bid k
abbrev pub others : (ℕ → ℕ → Bool) → List ℕ → ℕ → ℕ → Entry
others has ps k = withdrawn k (bids has ps)

-- fewer open cells, a higher key
pub rises : (has : ℕ → ℕ → Bool) {ps : List ℕ} (alt alt' : List ℕ) → Priced ps → length alt' ≡ length alt
    → ((x : ℕ) → cell alt' x ≤ cell alt x) → (i : ℕ) → i < length ps → key_at has ps alt i ≤ key_at has ps alt' i
unfolding open_of
rises has {ps} alt alt' p e h i l = rw (key_at_lem has ps (open_of alt) i, key_at_lem has ps (open_of alt') i, e)
    (key_rises (at ps i) (reach (has i) (opens (cell alt) (64 * length alt))) (reach (has i) (opens (cell alt') (64 * length alt))) i
    (p.most i)
    (omega (arith, p.count)) (reach_less (has i) (cell alt') (cell alt) (64 * length alt) (λ x y. h x)))

-- a bid's own key
seated : {has : ℕ → ℕ → Bool} {ps alt : List ℕ} → Priced ps → (i : ℕ) → i < length ps
    → (key_at has ps alt i ≡ out) ⊎ Seat has ps alt i (key_at has ps alt i)
seated {has} {ps} {alt} p i l = ⊎_elim
    (λ z. inl (key_at_lem has ps (open_of alt) i ∙ ap (λ (r : ℕ). key_of (at ps i) r i) z ∙ key_none (at ps i) i))
    (λ z. inr (record {
      inside = l;
      tells = ap (λ (y : ℕ). y % 1024) (key_at_lem has ps (open_of alt) i)
          ∙ key_bid (at ps i) (reach (has i) (open_of alt)) i z (omega (arith, p.count));
      below = omega arith;
    })) (zero_or (reach (has i) (open_of alt)))

cheap : (has : ℕ → ℕ → Bool) (ps : List ℕ) (k : ℕ) → Priced ps → (i : ℕ) → (others has ps k i).price ≤ 100000000
unfolding withdrawn mute bids
cheap has ps k p i = go (eqb i k)
  where
    go : (t : Bool) → (mute t (bids has ps i)).price ≤ 100000000
    go true = omega arith
    go false = p.most i

module _ {has : ℕ → ℕ → Bool} {ps : List ℕ} {k : ℕ} {alt keys mark : List ℕ} {og : ℕ → ℕ} (p : Priced ps)
    (most : length alt ≤ 158)
    (s : Strayed has ps k alt keys mark og) where
  -- a bid without mark has no lower key than in the main run
  pub no_lower : (i : ℕ) → i < length ps → cell mark i ≡ 0
      → key_in (bids has ps) (opens og (64 * length alt)) i ≤ key_at has ps alt i
  unfolding open_of
  no_lower i l z = rw (key_at_lem has ps (opens og (64 * length alt)) i, key_at_lem has ps (open_of alt) i)
      (key_rises (at ps i) (reach (has i) (opens og (64 * length alt))) (reach (has i) (opens (cell alt) (64 * length alt))) i (p.most i)
      (omega (arith, p.count)) (reach_less (has i) (cell alt) og (64 * length alt) (s.within i l z)))

  small : length (open_of alt) ≤ 10112
  unfolding open_of
  small = omega (arith, opens_most (cell alt) (64 * length alt))

  -- a bid whose key is above none
  pub taken : (b : ℕ) → b < length ps → (b ≡ k → ⊥) → 0 < reach (has b) (open_of alt)
      → ((i : ℕ) → i < length ps → 0 < cell mark i → key_at has ps alt b ≤ at keys i)
      → ((i : ℕ) → i < length ps → cell mark i ≡ 0 → 0 < reach (has i) (open_of alt)
      → key_at has ps alt b ≤ key_at has ps alt i)
      → best (others has ps k) (length ps) (open_of alt) ≡ found b
  unfolding bids key_in
  taken b l d g marked free = least_taken (others has ps k) (length ps) (open_of alt) (omega (arith, p.count))
      (λ i m. cheap has ps k p i) small
      b l (rw (plain b d) g) (λ i m z. let e = withdrawn_reach k (bids has ps) (open_of alt) i z in
      rw (plain b d, plain i e) (⊎_elim (λ y. free i m y (rw (plain i e) at z))
      (λ y. omega (arith, marked i m y, s.bound i m y e)) (zero_or (cell mark i))))
    where
      plain : (i : ℕ) → (i ≡ k → ⊥) → others has ps k i ≡ bids has ps i
      plain i e = withdrawn_other k (bids has ps) i e

  -- after the keys were looked through
  pub scanned : {new : List ℕ} {cap key cells : ℕ} → k < length ps → Fronted has ps alt keys new cap key cells
      → Strayed has ps k alt new mark og
  scanned {new} inside f = record {
    seats = f.seats;
    own = s.own;
    skip = stays k inside s.skip;
    outs = λ i l z. stays i l (s.outs i l z);
    bound = λ i l z d. ⊎_elim (λ e. omega (arith, e, s.bound i l z d)) (λ e. omega (arith, e.1))
        (f.each i (omega (arith, p.count)));
    within = s.within;
  }
    where
      stays : (i : ℕ) → i < length ps → at keys i ≡ out → at new i ≡ out
      stays i l e = ⊎_elim (λ u. u ∙ e) (λ u. absurd (u.0 e)) (f.each i (omega (arith, p.count)))

  -- cells close here, and perhaps in the main run
  pub closes : {alt' : List ℕ} {og' : ℕ → ℕ} → length alt' ≡ length alt → ((x : ℕ) → cell alt' x ≤ cell alt x)
      → ((i : ℕ) → i < length ps → cell mark i ≡ 0 → (x : ℕ) → has i x ≡ true → cell alt' x ≤ og' x)
      → Strayed has ps k alt' keys mark og'
  closes {alt'} e h w = record {
    seats = record {
      size = s.seats.size;
      each = λ i l. ⊎_elim (λ z. inl z) (λ t. inr (record {
        inside = t.inside;
        tells = t.tells;
        below = omega (arith, t.below, rises has alt alt' p e h i t.inside);
      })) (s.seats.each i l);
    };
    own = s.own;
    skip = s.skip;
    outs = s.outs;
    bound = λ i l z d. omega (arith, s.bound i l z d, rises has alt alt' p e h i l);
    within = w;
  }

  -- a bid that reaches nothing more is out
  pub goes_out : (b : ℕ) → b < length ps → reach (has b) (open_of alt) ≡ 0 → Strayed has ps k alt (set keys b out) mark og
  goes_out b l z = record {
    seats = record {
      size = simp length-set s.seats.size;
      each = set_at (λ i y. i < 1024 → (y ≡ out) ⊎ Seat has ps alt i y) keys b out within_keys (λ m. inl refl) s.seats.each;
    };
    own = s.own;
    skip = set_at (λ i y. i ≡ k → y ≡ out) keys b out within_keys (λ m. refl) (λ i m. ap (at keys) m ∙ s.skip) k refl;
    outs = set_at (λ i y. i < length ps → cell mark i ≡ 0 → y ≡ out) keys b out within_keys (λ m y. refl) s.outs;
    bound = set_at (λ i y. i < length ps → 0 < cell mark i → (i ≡ k → ⊥) → y ≤ key_at has ps alt i) keys b out within_keys
        (λ m y d. omega (
          arith,
          key_at_lem has ps (open_of alt) b,
          ap (λ (r : ℕ). key_of (at ps b) r b) z,
          key_none (at ps b) b,
        )) s.bound;
    within = s.within;
  }
    where
      within_keys : b < length keys
      within_keys = omega (arith, s.seats.size, p.count)

  -- the main run alone closes the cells of bid m, which is marked; so are the bids that have one of these that is open here
  pub passes : {keys' mark' : List ℕ} {f : ℕ → Bool} (m : ℕ) {og' : ℕ → ℕ}
      → Gained has ps alt f keys mark keys' mark' → length keys' ≡ 1024
      → 0 < cell mark' m → ((x : ℕ) → og' x ≡ og x - when (has m x) 1)
      → ((x : ℕ) → has m x ≡ true → 0 < og x → f x ≡ true) → k < length ps
      → Strayed has ps k alt keys' mark' og'
  passes {keys'} {mark'} {f} m {og'} d size marked e tape inside = record {
    seats = record { size = size; each = λ i l. go i l (zero_or (cell mark i)) (zero_or (cell mark' i)) };
    own = (d.kept k (omega (arith, p.count)) s.own).0;
    skip = (d.kept k (omega (arith, p.count)) s.own).1 ∙ s.skip;
    outs = λ i l z. (d.still i (omega (arith, p.count)) z).0 ∙ s.outs i l (unmarked i (omega (arith, p.count)) z);
    bound = λ i l z n. ⊎_elim (λ y. omega (arith, (d.moved i (omega (arith, p.count)) y z).1))
        (λ y. omega (arith, (d.kept i (omega (arith, p.count)) y).1, s.bound i l y n)) (zero_or (cell mark i));
    within = λ i l z x h. rw (e x) (inner i l z x h (has m x) refl);
  }
    where
      unmarked : (i : ℕ) → i < 1024 → cell mark' i ≡ 0 → cell mark i ≡ 0
      unmarked i l z = ⊎_elim (λ y. y) (λ y. absurd (omega (arith, (d.kept i l y).0))) (zero_or (cell mark i))

      go : (i : ℕ) → i < 1024 → (cell mark i ≡ 0) ⊎ (0 < cell mark i) → (cell mark' i ≡ 0) ⊎ (0 < cell mark' i)
          → (at keys' i ≡ out) ⊎ Seat has ps alt i (at keys' i)
      go i l (inr y) v = rw (d.kept i l y).1 (s.seats.each i l)
      go i l (inl y) (inl z) = rw (d.still i l z).0 (s.seats.each i l)
      go i l (inl y) (inr z) = let u = d.moved i l y z in rw u.1 (seated p i u.0)

      inner : (i : ℕ) → i < length ps → cell mark' i ≡ 0 → (x : ℕ) → has i x ≡ true → (t : Bool) → has m x ≡ t
          → cell alt x ≤ og x - when t 1
      inner i l z x h false q = omega (arith, s.within i l (unmarked i (omega (arith, p.count)) z) x h)
      inner i l z x h true q = ⊎_elim (λ y. omega (arith, s.within i l (unmarked i (omega (arith, p.count)) z) x h))
          (λ y. omega (arith, (d.still i (omega (arith, p.count)) z).1 l x h (tape x q y))) (zero_or (og x))
