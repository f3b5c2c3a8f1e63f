-- The award along the written run: how it starts, one round more, and what it ends with; and the list of keys that a payment begins
-- with. Assumes nothing.
use Rattle.cover.specs.Spare.{Spare}
use Rattle.std.specs.Prelude.{◌≡◌, refl, ◌⊎◌, Bool, ◌&&◌, ◌||◌, List, ℕ, ◌+◌, ◌-◌, ◌*◌, ◌≤◌}
use Rattle.std.specs.Prelude.{◌<◌, length, set, ltb}
use Rattle.std.proofs.Common.{sym, ap, ◌∙◌, inl, inr, ⊎_elim, arith, length-set, get_or-set_other}
use Rattle.std.proofs.Math.Bool.{true, false, or-false, or-true}
use Rattle.std.proofs.Math.Numerals.{add-one}
use Rattle.std.proofs.Math.Seq.{get_or-set_same}
use Rattle.std.proofs.Math.Dec.{eqb}
use borrow.Author.Tests.{eqb-true, eqb-false, ltb-true, ltb-false}
use Rattle.cover.specs.Sets.{when, cells}
use Rattle.cover.specs.Greedy.{reach}
use Rattle.cover.proofs.GreedyLaws.{close_own}
use Rattle.cover.proofs.GreedyCoverLaws.{Covered}
use Rattle.cover.specs.CriticalPrice.{limit, rounds_paid}
use Rattle.cover.specs.Settled.{most_cents}
use Rattle.cover.proofs.SettledLaws.{as_listed}
use Rattle.cover.proofs.SpareLaws.{spare_bids, each_at}
use Rattle.cells.specs.Cells.{cell, Cleared}
use Rattle.cells_pairs.specs.Pairs.{in_pairs, Shut}
use Rattle.multi_keys.specs.Keys.{at, out, last}
use Rattle.multi_keys.proofs.KeyLaws.{key_none, key_low}
use Rattle.multi_keys.proofs.TreeLaws.{set_at}
use Rattle.multi_market.specs.Market.{Priced, First}
use Rattle.multi_market.specs.Opens.{open_of}
use Rattle.multi_market.proofs.OpensLaws.{opens_same}
use Rattle.multi_market.specs.Seats.{key_at, Seat, Seats, Fronted}
use Rattle.multi_market.proofs.KeyedLaws.{key_at_lem}
use Rattle.multi_rounds.specs.Trace.{key_on, bid_on, tape_on, before, open_on, Round, Trace}
use Rattle.multi_rounds.specs.ShutLaws.{shut_open, shut_set}
use Rattle.multi_rounds.specs.TracingLaws.{round_best}
use Rattle.multi_limit.specs.Follow.{Spared, Beginning, Limited}
use Rattle.multi_limit.specs.StrayLaws.{rises}
use Rattle.multi_limit.specs.FollowLaws.{shut_fewer, after_round}
use Rattle.multi_pay.specs.Paying.{picked, Listed, Ready, Payment, Paying, Paid}
use Rattle.multi_pay.proofs.PrefixLaws.{before_low, limit_is}
use Rattle.multi_pay.proofs.WinnersLaws.{winners}

pub starts : {has : ℕ → ℕ → Bool} {ps : List ℕ} {n : ℕ} {run held won cents : List ℕ} → First n held → Cleared won
    → length won ≡ length ps → Cleared cents → length cents ≡ length ps → Paying has ps n run 0 held won cents
unfolding picked before
starts {n = n} {held = held} f zw lw zc lc = record {
  stands = λ x. go x (ltb x n) refl;
  as_won = lw;
  as_cents = lc;
  flags = λ k l. zw.none k;
  payments = λ k l y. zc.none k;
  small = λ k. omega (arith, zc.none k);
}
  where
    go : (x : ℕ) (t : Bool) → ltb x n ≡ t → cell held x ≡ when t 1
    go x true d = f.inside x (ltb-true x n d)
    go x false d = f.above x (ltb-false x n d)

module _ {has : ℕ → ℕ → Bool} {ps : List ℕ} {w n : ℕ} {run tape : List ℕ} {rounds h : ℕ}
    (tr : Trace has ps w n run tape rounds)
    (l : h < rounds) {held won cents : List ℕ} (e : length held ≡ w) (s : Paying has ps n run h held won cents) where
  pub ready_of : Ready has ps run tape h held
  ready_of = record { n = n; rounds = rounds; main = rw e tr; here = l; stands = s.stands }

  inside : bid_on run h < length ps
  inside = (tr.each h l).inside

  same_open : open_of held ≡ open_on has w n run h
  unfolding open_of
  same_open = rw e (opens_same (cell held) (before has n run h) (64 * w) s.stands)

  -- the cells held are among the first n
  spared : Spare has (length ps) n (bid_on run h) → Spared has ps (bid_on run h) (cell held)
  spared y x z = y x (before_low has n run h x (omega (arith, s.stands x)))

  paid : {t : ℕ} → n ≤ 64 * w → Spare has (length ps) n (bid_on run h) → Limited has ps (bid_on run h) held t
      → t ≡ limit has ps (cells n) (bid_on run h)
  paid q y r = r.is (spared y) ∙ rw same_open (sym (limit_is tr h l (λ x z. each_at (Covered _ (length ps)) n
      (spare_bids has (length ps) n (bid_on run h) y ps) x z) q))

  -- a value that the round's bid gets, and no other changes; what is said of it may ask something of the bid
  stored : (xs : List ℕ) (v : ℕ) (f : ℕ → ℕ) (Asks : ℕ → Type 0) → length xs ≡ length ps
      → (Asks (bid_on run h) → v ≡ f (bid_on run h))
      → ((k : ℕ) → k < length ps → Asks k → at xs k ≡ when (picked run h k) (f k))
      → (k : ℕ) → k < length ps → Asks k → at (set xs (bid_on run h) v) k ≡ when (picked run (h + 1) k) (f k)
  unfolding picked
  stored xs v f Asks size d g k z y = rw add-one (go (eqb (bid_on run h) k) refl)
    where
      go : (t : Bool) → eqb (bid_on run h) k ≡ t → at (set xs (bid_on run h) v) k ≡ when (picked run h k || t) (f k)
      go true m = rw (
        ← eqb-true (bid_on run h) k m,
        get_or-set_same xs (bid_on run h) v 0 (omega (arith, inside)),
        or-true (picked run h (bid_on run h)),
      ) (d (rw (eqb-true (bid_on run h) k m) y))
      go false m = rw (get_or-set_other xs (bid_on run h) k v 0 (λ j. eqb-false (bid_on run h) k m (sym j)), or-false (picked run h k))
          (g k z y)

  pub goes : n ≤ 64 * w → {held' won' cents' : List ℕ} → Payment has ps (bid_on run h) held won cents held' won' cents'
      → Paying has ps n run (h + 1) held' won' cents'
  goes q {held'} r = record {
    stands = λ x. r.shuts.clears x ∙ ap (λ (v : ℕ). v - when (has (bid_on run h) x) 1) (s.stands x)
        ∙ sym (after_round has n run h x);
    as_won = rw r.flag (simp length-set s.as_won);
    as_cents = rw r.sum (simp length-set s.as_cents);
    flags = λ k z. rw r.flag
        (stored won 1 (λ k. 1) (λ k. k < length ps) s.as_won (λ y. refl) (λ k z y. s.flags k z) k z z);
    payments = rw r.sum (stored cents (r.price - 1) (λ k. limit has ps (cells n) k - 1) (Spare has (length ps) n) s.as_cents
        (λ y. ap (λ (v : ℕ). v - 1) (paid q y r.limited)) s.payments);
    small = rw r.sum (set_at (λ k x. x ≤ most_cents) cents (bid_on run h) (r.price - 1) (omega (arith, s.as_cents, inside))
        (omega (arith, r.limited.small)) s.small);
  }

pub ends : {has : ℕ → ℕ → Bool} {ps : List ℕ} {w n : ℕ} {run tape : List ℕ} {rounds h : ℕ}
    → Trace has ps w n run tape rounds
    → n ≤ 64 * w → h ≡ rounds → {held won cents : List ℕ} → Paying has ps n run h held won cents → Paid has ps n won cents
unfolding rounds_paid
ends {has} {ps} {w} {n} tr q e {held} {won} {cents} s = record {
  flags = as_listed won (length ps) _ s.as_won (λ k l. s.flags k l ∙ rw (e, winners tr q k));
  as_cents = s.as_cents;
  payments = λ k l y. s.payments k l y ∙ rw (e, winners tr q k);
  small = s.small;
}

-- ---- the list of keys
module _ {has : ℕ → ℕ → Bool} {ps run tape : List ℕ} {h : ℕ} {held : List ℕ} (p : Priced ps)
    (d : Ready has ps run tape h held) where
  pub round_here : Round has ps (length held) d.n run tape h
  round_here = d.main.each h d.here

  -- the key of the next round, or the mark after the last
  pub next_key : key_on run (h + 1) ≤ last
  next_key = go (eqb (h + 1) d.rounds) refl
    where
      go : (t : Bool) → eqb (h + 1) d.rounds ≡ t → key_on run (h + 1) ≤ last
      go true e = rw (eqb-true (h + 1) d.rounds e) (omega (arith, d.main.end))
      go false e = let a = d.main.each (h + 1) (omega (arith, d.here, eqb-false (h + 1) d.rounds e)) in omega (
        arith,
        a.key,
        key_at_lem has ps (open_on has (length held) d.n run (h + 1)) (bid_on run (h + 1)),
        key_low (at ps (bid_on run (h + 1))) (reach (has (bid_on run (h + 1))) (open_on has (length held) d.n run (h + 1)))
            (bid_on run (h + 1)) (p.most (bid_on run (h + 1))) (round_best a).good (omega (arith, a.inside, p.count)),
      )

  -- the round's cells on the tape, closed where it stands, are its bid's
  pub round_shuts : {held' : List ℕ} → Shut held (in_pairs tape (tape_on run h) (tape_on run (h + 1) - tape_on run h)) held'
      → Shut held (has (bid_on run h)) held'
  round_shuts {held'} = shut_set held held' _ (has (bid_on run h)) (λ x. round_here.cells x
      ∙ ap (λ (v : ℕ). eqb v 1 && has (bid_on run h) x) (sym (d.stands x)))

  module _ {ever keys : List ℕ} (a : Listed has ps held ever keys) where
    within : bid_on run h < length keys
    within = omega (arith, a.seats.size, p.count, round_here.inside)

    -- the round's bid is out
    pub seats_out : Seats has ps held (set keys (bid_on run h) out)
    seats_out = record {
      size = simp length-set a.seats.size;
      each = set_at (λ i y. i < 1024 → (y ≡ out) ⊎ Seat has ps held i y) keys (bid_on run h) out within (λ m. inl refl)
          a.seats.each;
    }

    -- and the list was looked through
    pub begins : {new : List ℕ} {cap key cells : ℕ} → Fronted has ps held (set keys (bid_on run h) out) new cap key cells
        → Beginning has ps run tape h held new ever
    begins {new} f = record {
      n = d.n;
      rounds = d.rounds;
      main = d.main;
      here = d.here;
      stands = d.stands;
      seats = f.seats;
      skip = stays (bid_on run h) round_here.inside (get_or-set_same keys (bid_on run h) out 0 within);
      outs = λ i m z. stays i m (set_at (λ i y. i < length ps → cell ever i ≡ 0 → y ≡ out) keys (bid_on run h) out within
          (λ m y. refl)
          a.outs i m z);
      bound = λ i m z ne. ⊎_elim
          (λ y. omega (arith, y, get_or-set_other keys (bid_on run h) i out 0 ne, a.bound i m z))
          (λ y. omega (arith, y.1)) (f.each i (omega (arith, p.count)));
    }
      where
        stays : (i : ℕ) → i < length ps → at (set keys (bid_on run h) out) i ≡ out → at new i ≡ out
        stays i m y = ⊎_elim (λ u. u ∙ y) (λ u. absurd (u.0 y)) (f.each i (omega (arith, p.count)))

-- the list that a payment begins with is right for the next round, once the cells of the bid are closed
pub listed_on : {has : ℕ → ℕ → Bool} {ps run tape : List ℕ} {h : ℕ} {held ever keys held' : List ℕ} → Priced ps
    → Beginning has ps run tape h held keys ever → length held' ≡ length held → Shut held (has (bid_on run h)) held'
    → Listed has ps held' ever keys
listed_on {has} {ps} {run} {tape} {h} {held} {ever} {keys} {held'} p b e s = record {
  seats = record {
    size = b.seats.size;
    each = λ i l. ⊎_elim (λ z. inl z) (λ t. inr (record {
      inside = t.inside;
      tells = t.tells;
      below = omega (arith, t.below, rises has held held' p e (shut_fewer s) i t.inside);
    })) (b.seats.each i l);
  };
  outs = b.outs;
  bound = λ i l z. go i l z (eqb i (bid_on run h)) refl;
}
  where
    none : reach (has (bid_on run h)) (open_of held') ≡ 0
    none = rw (← shut_open held held' (has (bid_on run h)) e s) (close_own (has (bid_on run h)) (open_of held))

    own_out : key_at has ps held' (bid_on run h) ≡ out
    own_out = key_at_lem has ps (open_of held') (bid_on run h) ∙ rw none (key_none (at ps (bid_on run h)) (bid_on run h))

    go : (i : ℕ) → i < length ps → 0 < cell ever i → (t : Bool) → eqb i (bid_on run h) ≡ t
        → at keys i ≤ key_at has ps held' i
    go i l z true d = rw (eqb-true i (bid_on run h) d) (omega (arith, b.skip, own_out))
    go i l z false d = omega (arith, b.bound i l z (eqb-false i (bid_on run h) d), rises has held held' p e (shut_fewer s) i l)
