-- The run without bid k, round by round: each round raises the maximum to the highest price at which k is taken before its bid.
-- Assumes nothing.
use Rattle.std.specs.Prelude.{◌≡◌, ◌⊎◌, Bool, true, false, List, length, set, take, replicate, eqb}
use Rattle.std.proofs.Math.Path.{refl, sym, ap}
use Rattle.std.proofs.Common.{◌∙◌, inl, inr, ⊎_elim, mul-le-mul, arith, length-set, get_or-set_same, length-take-le}
use Prim.Native.Nat.{ℕ, ◌*◌, ◌%◌, ◌≤◌, ◌<◌, max}
use Rattle.std.proofs.lemmas.List.{length-replicate}
use Rattle.tender.specs.Limits.{max_entries}
use Rattle.cover.specs.Sets.{cells, Found, nothing, found}
use Rattle.cover.specs.Greedy.{reach, close, Rounds, best, bids}
use Rattle.cover.proofs.GreedyLaws.{Rightly, best_right, withdrawn_other, withdrawn_reach, close_own, shrink}
use Rattle.cover.specs.CriticalPrice.{mute, withdrawn, share, bar, limit}
use Rattle.cells_pairs.specs.Pairs.{Shut}
use Rattle.multi_keys.specs.Keys.{at, out, last}
use Rattle.multi_keys.proofs.KeyLaws.{key_none}
use Rattle.multi_keys.proofs.TreeLaws.{set_at}
use Rattle.multi_market.specs.Market.{Priced, Market, First}
use Rattle.multi_market.specs.Opens.{open_of}
use Rattle.multi_market.specs.Seats.{key_in, key_at, Seat, Leader, Fronted, Entered}
use Rattle.multi_market.proofs.BeginLaws.{open_first}
use Rattle.multi_market.proofs.KeyedLaws.{key_at_lem, least_taken, none_reached}
use Rattle.multi_market.proofs.RunLaws.{rounds_of, rounds_stop, rounds_more}
use Rattle.multi_rounds.specs.ShutLaws.{shut_open}
use Rattle.multi_rounds.specs.TracingLaws.{seats_of}
use Rattle.multi_limit.specs.Follow.{raised_to, bar_from, Took}
use Rattle.multi_limit.specs.StepLaws.{bar_none}
use Rattle.multi_limit.specs.StrayLaws.{others, rises}
use Rattle.multi_limit.specs.FollowLaws.{shut_fewer, open_most}
use Rattle.multi_highest.specs.Rounding.{Rounding, LimitIs}

-- there are no more words than 1,001 bids of 158 words have
pub words_most : {ps ms : List ℕ} {w : ℕ} → Market ps ms w → length ms ≤ 158 * max_entries
words_most {ps} {ms} {w} m = omega (arith, mul-le-mul m.words m.priced.count, m.size)

-- the first places of a local array, which is filled with one value
pub prefix_length : (z m v : ℕ) → z ≤ m → length (take z (replicate {A = ℕ} m v)) ≡ z
prefix_length z m v l = length-take-le z (replicate m v) (omega (arith, length-replicate {A = ℕ} m v))

cheap : (has : ℕ → ℕ → Bool) (ps : List ℕ) (k : ℕ) → Priced ps → (i : ℕ) → (others has ps k i).price ≤ 100000000
unfolding withdrawn mute bids
cheap has ps k p i = go (eqb i k)
  where
    go : (t : Bool) → (mute t (bids has ps i)).price ≤ 100000000
    go true = omega arith
    go false = p.most i

-- before the first round: each bid is entered with its key, and then k is out
pub starts : {has : ℕ → ℕ → Bool} {ps : List ℕ} {n k : ℕ} {held keys keys' : List ℕ} {mine : ℕ} → Priced ps
    → k < length ps → n ≤ 64 * length held → First n held → Entered has ps held keys → keys' ≡ set keys k out
    → mine ≡ reach (has k) (open_of held) → mine ≤ 10112 → Rounding has ps n k held keys' mine 0
unfolding limit bar_from
starts {has} {ps} {n} {k} {held} {keys} p l m f e q o few = rw q (record {
  inside = l;
  seats = record {
    size = simp length-set e.size;
    each = set_at (λ i y. i < 1024 → (y ≡ out) ⊎ Seat has ps held i y) keys k out within (λ j. inl refl) (seats_of p e).each;
  };
  skip = get_or-set_same keys k out 0 within;
  bound = set_at (λ i y. i < length ps → (i ≡ k → ⊥) → y ≤ key_at has ps held i) keys k out within (λ j d. absurd (d refl))
      (λ i j d. omega (arith, e.each i j));
  own = o;
  few = few;
  highest = rw (open_first f m) (omega arith);
  small = omega arith;
})
  where
    within : k < length keys
    within = omega (arith, e.size, p.count)

module _ {has : ℕ → ℕ → Bool} {ps : List ℕ} {n k : ℕ} {held keys : List ℕ} {mine top : ℕ}
    (s : Rounding has ps n k held keys mine top) where
  -- k has no open cell left
  pub ends_own : mine ≡ 0 → LimitIs has ps n k top
  unfolding bar_from rounds_of
  ends_own z = record {
    is = sym (s.highest ∙ ap (max top) (bar_none k (has k) (others has ps k) (length ps) (open_of held) (sym s.own ∙ z))
        ∙ omega arith);
    small = s.small;
  }

  module _ {new : List ℕ} {key c : ℕ} (p : Priced ps) (most : length held ≤ 158) (f : Fronted has ps held keys new last key c) where
    bound_new : (i : ℕ) → i < length ps → (i ≡ k → ⊥) → at new i ≤ key_at has ps held i
    bound_new i l d = ⊎_elim (λ e. omega (arith, e, s.bound i l d)) (λ e. omega (arith, e.1)) (f.each i (omega (arith, p.count)))

    least_new : (i : ℕ) → i < length ps → (i ≡ k → ⊥) → key ≤ key_at has ps held i
    least_new i l d = omega (arith, f.least i (omega (arith, p.count)), bound_new i l d)

    -- k is still out
    still_out : at new k ≡ out
    still_out = ⊎_elim (λ e. e ∙ s.skip) (λ e. absurd (e.0 s.skip)) (f.each k (omega (arith, s.inside, p.count)))

    -- ---- no other bid has a key up to the last
    module _ (l : last < key) where
      reaches_none : (i : ℕ) → i < length ps → (i ≡ k → ⊥) → reach (has i) (open_of held) ≡ 0
      unfolding bids
      reaches_none i m d = none_reached (bids has ps) (length ps) (open_of held) (omega (arith, p.count)) (λ j q. p.most j)
          (open_most held most) i m (omega (arith, l, least_new i m d))

      stops : best (others has ps k) (length ps) (open_of held) ≡ nothing
      unfolding bids
      stops = go (best (others has ps k) (length ps) (open_of held)) (best_right (others has ps k) (length ps) (open_of held))
        where
          go : (u : Found) → Rightly (others has ps k) (length ps) (open_of held) u → u ≡ nothing
          go nothing x = refl
          go (found j) x = let d = withdrawn_reach k (bids has ps) (open_of held) j x.good in
              absurd (omega (arith, reaches_none j x.inside d, rw (withdrawn_other k (bids has ps) j d) at x.good))

      pub ends_none : LimitIs has ps n k top
      unfolding bar_from rounds_of bar
      ends_none = record {
        is = sym (s.highest ∙ ap (λ (t : Rounds). max top (bar k (has k) t))
            (rounds_stop (others has ps k) (length ps) (open_of held) stops) ∙ omega arith);
        small = s.small;
      }

    -- ---- the bid with the least key is taken
    module _ (l : key ≤ last) where
      lead : Leader has ps held new key c
      lead = f.leads l

      other : key % 1024 ≡ k → ⊥
      other e = omega (arith, ap (at new) e, lead.own, still_out)

      plain : (i : ℕ) → (i ≡ k → ⊥) → others has ps k i ≡ bids has ps i
      plain i d = withdrawn_other k (bids has ps) i d

      takes : best (others has ps k) (length ps) (open_of held) ≡ found (key % 1024)
      unfolding bids key_in
      takes = least_taken (others has ps k) (length ps) (open_of held) (omega (arith, p.count)) (λ i m. cheap has ps k p i)
          (open_most held most) (key % 1024) lead.inside (rw (plain (key % 1024) other) (omega (arith, lead.some, lead.cells)))
          (λ i m z. let d = withdrawn_reach k (bids has ps) (open_of held) i z in
          rw (plain (key % 1024) other, plain i d) (omega (arith, lead.key, least_new i m d)))

      within : key % 1024 < length new
      within = omega (arith, f.seats.size, lead.inside, p.count)

      -- its cells are closed
      module _ {rest : List ℕ} (e : length rest ≡ length held) (shut : Shut held (has (key % 1024)) rest) where
        left : open_of rest ≡ close (has (key % 1024)) (open_of held)
        left = sym (shut_open held rest (has (key % 1024)) e shut)

        pub fewer_open : length (open_of rest) < length (open_of held)
        fewer_open = rw left (omega (arith, lead.some, lead.cells, shrink (has (key % 1024)) (open_of held)))

        left_others : close (others has ps k (key % 1024)).has (open_of held) ≡ open_of rest
        unfolding bids
        left_others = rw (plain (key % 1024) other) (sym left)

        shared : raised_to k (key % 1024) (at ps (key % 1024)) c mine
            ≡ share k (has k) (key % 1024) (others has ps k (key % 1024)) (open_of held)
        unfolding raised_to share bids
        shared = rw (s.own, lead.cells, plain (key % 1024) other)

        -- the maximum is raised, and the rounds after are those from the cells left
        one_round : {top' : ℕ} → top' ≡ max top (raised_to k (key % 1024) (at ps (key % 1024)) c mine)
            → limit has ps (cells n) k ≡ max top' (bar_from has ps k (open_of rest))
        unfolding bar_from rounds_of bar
        one_round raised = s.highest ∙ ap (λ (v : Rounds). max top (bar k (has k) v))
            (rounds_more (others has ps k) (length ps) (open_of held) (key % 1024) takes)
            ∙ rw (left_others, raised, shared) (omega arith)

        rises_all : (i : ℕ) → i < length ps → key_at has ps held i ≤ key_at has ps rest i
        rises_all = rises has held rest p e (shut_fewer shut)

        own_out : key_at has ps rest (key % 1024) ≡ out
        own_out = key_at_lem has ps (open_of rest) (key % 1024) ∙ rw (left, close_own (has (key % 1024)) (open_of held))
            (key_none (at ps (key % 1024)) (key % 1024))

      -- its cells are closed and it is out: the run before the next round
      pub goes : {rest next : List ℕ} {so_far mine' top' : ℕ} → length rest ≡ length held
          → Took has k (key % 1024) (at ps (key % 1024)) c held new rest next mine so_far mine' top'
          → top' ≡ max top (raised_to k (key % 1024) (at ps (key % 1024)) c mine) → Rounding has ps n k rest next mine' top'
      goes {rest} e t raised = rw t.takes (record {
        inside = s.inside;
        seats = record {
          size = simp length-set f.seats.size;
          each = set_at (λ i y. i < 1024 → (y ≡ out) ⊎ Seat has ps rest i y) new (key % 1024) out within (λ m. inl refl)
              (λ i m. ⊎_elim (λ z. inl z) (λ u. inr (record {
                inside = u.inside;
                tells = u.tells;
                below = omega (arith, u.below, rises_all e t.shuts i u.inside);
              })) (f.seats.each i m));
        };
        skip = set_at (λ i y. i ≡ k → y ≡ out) new (key % 1024) out within (λ m. refl) (λ i m. ap (at new) m ∙ still_out)
            k refl;
        bound = set_at (λ i y. i < length ps → (i ≡ k → ⊥) → y ≤ key_at has ps rest i) new (key % 1024) out within
            (λ m d. omega (arith, own_out e t.shuts)) (λ i m d. omega (arith, bound_new i m d, rises_all e t.shuts i m));
        own = t.own;
        few = t.few;
        highest = one_round e t.shuts raised;
        small = t.small;
      })
