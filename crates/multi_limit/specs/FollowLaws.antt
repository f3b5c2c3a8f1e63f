-- The run without bid k as it follows the main run, step by step. Assumes nothing.
use Rattle.std.specs.Prelude.{◌≡◌, ◌⊎◌, Bool, true, false, ◌&&◌, eqb, ltb}
use Rattle.std.proofs.Math.Path.{refl, ap}
use Rattle.std.proofs.Common.{sym, ◌∙◌, inl, inr, add-one, arith, eqb-true}
use Rattle.std.proofs.Math.Logic.{⊎_elim}
use mathlib.Core.List.{List}
use Prim.Native.Nat.{ℕ, zero, suc, ◌+◌, ◌-◌, ◌*◌, ◌%◌, ◌≤◌, ◌<◌, max}
use Rattle.std.proofs.Math.ListN.{length}
use Rattle.std.proofs.lemmas.Bool.{eqb-false}
use Rattle.cover.specs.Sets.{when, Found, nothing, found}
use Rattle.cover.specs.Greedy.{reach, close, Rounds, best, bids}
use Rattle.cover.proofs.GreedyLaws.{Rightly, best_right, withdrawn_other, withdrawn_reach, close_own, shrink}
use Rattle.cover.specs.CriticalPrice.{share, bar}
use Rattle.cells.specs.Cells.{cell}
use Rattle.cells_pairs.specs.Pairs.{in_pairs, Shut}
use Rattle.multi_keys.specs.Keys.{at, last}
use Rattle.multi_keys.proofs.KeyLaws.{key_low}
use Rattle.multi_market.specs.Market.{Priced}
use Rattle.multi_market.specs.Opens.{opens, open_of}
use Rattle.multi_market.proofs.OpensLaws.{two_way, reach_alike, reach_less}
use Rattle.multi_market.specs.Seats.{key_at, Leader, Fronted}
use Rattle.multi_market.proofs.KeyedLaws.{zero_or, key_at_lem, opens_most, none_reached}
use Rattle.multi_market.proofs.RunLaws.{rounds_of, rounds_stop, rounds_more}
use Rattle.multi_rounds.specs.Trace.{key_on, bid_on, tape_on, before, open_on, Round}
use Rattle.multi_rounds.specs.ShutLaws.{shut_open}
use Rattle.multi_rounds.specs.TracingLaws.{round_best, round_least}
use Rattle.multi_gain.specs.Gain.{Gained}
use Rattle.multi_limit.specs.Follow.{raised_to, bar_from, Spared, Strayed, Following, SameBar, Took}
use Rattle.multi_limit.specs.FallLaws.{bar_falls, Cell, some_cell, reached_cell}
use Rattle.multi_limit.specs.StrayLaws.{others, taken, no_lower, scanned, closes, goes_out, passes}

-- a cell of `old` is open in `new` or not
pub shut_fewer : {old new : List ℕ} {h : ℕ → Bool} → Shut old h new → (x : ℕ) → cell new x ≤ cell old x
shut_fewer s x = omega (arith, s.clears x)

pub open_most : (alt : List ℕ) → length alt ≤ 158 → length (open_of alt) ≤ 10112
unfolding open_of
open_most alt most = omega (arith, opens_most (cell alt) (64 * length alt))

-- one round more of the main run
pub after_round : (has : ℕ → ℕ → Bool) (n : ℕ) (run : List ℕ) (g x : ℕ)
    → before has n run (g + 1) x ≡ before has n run g x - when (has (bid_on run g) x) 1
unfolding before
after_round has n run g x = rw add-one

pub before_bit : (has : ℕ → ℕ → Bool) (n : ℕ) (run : List ℕ) (g x : ℕ) → before has n run g x ≤ 1
unfolding before
before_bit has n run zero x = go (ltb x n)
  where
    go : (t : Bool) → when t 1 ≤ 1
    go true = omega arith
    go false = omega arith
before_bit has n run (suc g) x = omega (arith, before_bit has n run g x)

module _ {has : ℕ → ℕ → Bool} {ps : List ℕ} {k : ℕ} {run tape alt keys mark : List ℕ} {mine g : ℕ} (p : Priced ps)
    (most : length alt ≤ 158)
    (s : Following has ps k run tape alt keys mark mine g) where
  abbrev og : ℕ → ℕ
  og = before has s.n run g

  -- the keys were looked through
  pub looked : {new : List ℕ} {cap key cells : ℕ} → Fronted has ps alt keys new cap key cells
      → Following has ps k run tape alt new mark mine g
  looked f = record {
    n = s.n;
    rounds = s.rounds;
    main = s.main;
    reached = s.reached;
    inside = s.inside;
    strayed = scanned p most s.strayed s.inside f;
    own = s.own;
    few = s.few;
    gone = s.gone;
  }

  gone_after : (x : ℕ) → has k x ≡ true → before has s.n run (g + 1) x ≡ 0
  gone_after x e = omega (arith, after_round has s.n run g x, s.gone x e)

  -- a bid without mark has no key below that of the written round
  no_less : g < s.rounds → (i : ℕ) → i < length ps → cell mark i ≡ 0 → key_on run g ≤ key_at has ps alt i
  no_less l i m z = omega (arith, round_least (s.main.each g l) p most i m, no_lower p most s.strayed i m z)

  -- and none reaches a cell where the main run is over
  none_free : s.rounds ≤ g → (i : ℕ) → i < length ps → cell mark i ≡ 0 → reach (has i) (open_of alt) ≡ 0
  unfolding open_of
  none_free l i m z =
      let e : g ≡ s.rounds = omega (arith, s.reached) in
      let o : reach (has i) (opens og (64 * length alt)) ≡ 0 = rw e (s.main.over i m) in
      omega (arith, reach_less (has i) (cell alt) og (64 * length alt) (s.strayed.within i m z), o)

  -- the written round's key is `last` after the last round alone
  key_below : g < s.rounds → key_on run g < last
  key_below l = let a = s.main.each g l in omega (
    arith,
    a.key,
    key_at_lem has ps (open_on has (length alt) s.n run g) (bid_on run g),
    key_low (at ps (bid_on run g)) (reach (has (bid_on run g)) (open_on has (length alt) s.n run g)) (bid_on run g) (p.most (bid_on run g))
        (round_best a).good (omega (arith, a.inside, p.count)),
  )

  pub key_last : key_on run g ≤ last
  key_last = go (eqb g s.rounds) refl
    where
      go : (t : Bool) → eqb g s.rounds ≡ t → key_on run g ≤ last
      go true e = rw (eqb-true g s.rounds e) (omega (arith, s.main.end))
      go false e = omega (arith, key_below (omega (arith, s.reached, eqb-false g s.rounds e)))

  pub here : key_on run g < last → g < s.rounds
  here l = go (eqb g s.rounds) refl
    where
      go : (t : Bool) → eqb g s.rounds ≡ t → g < s.rounds
      go true e = absurd (omega (arith, s.main.end, ap (key_on run) (eqb-true g s.rounds e)))
      go false e = omega (arith, s.reached, eqb-false g s.rounds e)

  -- ---- the marked bid with the least key, which is not above that of the written round
  module _ {cap key c : ℕ} {old : List ℕ} (f : Fronted has ps alt old keys cap key c) (l : key ≤ cap) (w : cap ≡ key_on run g) where
    lead : Leader has ps alt keys key c
    lead = f.leads l

    pub other : key % 1024 ≡ k → ⊥
    other e = omega (arith, ap (at keys) e, lead.own, s.strayed.skip, w, key_last)

    pub takes_marked : best (others has ps k) (length ps) (open_of alt) ≡ found (key % 1024)
    takes_marked = taken p most s.strayed (key % 1024) lead.inside other (omega (arith, lead.some, lead.cells))
        (λ i m z. omega (arith, lead.key, f.least i (omega (arith, p.count))))
        (λ i m z y. go i m z y (eqb g s.rounds) refl)
      where
        go : (i : ℕ) → i < length ps → cell mark i ≡ 0 → 0 < reach (has i) (open_of alt) → (t : Bool) → eqb g s.rounds ≡ t
            → key_at has ps alt (key % 1024) ≤ key_at has ps alt i
        go i m z y true e = absurd (omega (arith, none_free (omega (arith, eqb-true g s.rounds e)) i m z))
        go i m z y false e = omega (arith, lead.key, w, no_less (omega (arith, s.reached, eqb-false g s.rounds e)) i m z)

    -- its cells are closed, and the main run comes to round g': it takes the bid too, or stays
    module _ {alt' keys' : List ℕ} {mine' top top' : ℕ} (e : length alt' ≡ length alt)
        (t : Took has k (key % 1024) (at ps (key % 1024)) c alt keys alt' keys' mine top mine' top') where
      plain : others has ps k (key % 1024) ≡ bids has ps (key % 1024)
      plain = withdrawn_other k (bids has ps) (key % 1024) other

      left : close (others has ps k (key % 1024)).has (open_of alt) ≡ open_of alt'
      unfolding bids
      left = rw plain (shut_open alt alt' (has (key % 1024)) e t.shuts)

      gets_none : reach (has (key % 1024)) (open_of alt') ≡ 0
      gets_none = rw (← shut_open alt alt' (has (key % 1024)) e t.shuts) (close_own (has (key % 1024)) (open_of alt))

      pub take_falls : length (open_of alt') < length (open_of alt)
      take_falls = rw (← shut_open alt alt' (has (key % 1024)) e t.shuts)
          (omega (arith, lead.some, lead.cells, shrink (has (key % 1024)) (open_of alt)))

      shared : raised_to k (key % 1024) (at ps (key % 1024)) c mine ≡ share k (has k) (key % 1024) (others has ps k (key % 1024))
          (open_of alt)
      unfolding raised_to share bids
      shared = rw (s.own, lead.cells, plain)

      pub take_bar : SameBar has ps k alt alt' top top'
      unfolding bar_from rounds_of bar
      take_bar y = ap (λ (v : Rounds). max top (bar k (has k) v))
          (rounds_more (others has ps k) (length ps) (open_of alt) (key % 1024) takes_marked) ∙ rw (left, t.most, shared) (omega arith)

      went : {og' : ℕ → ℕ} → ((i : ℕ) → i < length ps → cell mark i ≡ 0 → (x : ℕ) → has i x ≡ true
          → cell alt' x ≤ og' x)
          → Strayed has ps k alt' keys' mark og'
      went w = rw t.takes (goes_out p (omega (arith, e)) (closes p most s.strayed e (shut_fewer t.shuts) w) (key % 1024)
          lead.inside
          gets_none)

      pub take_on : {g' : ℕ} → (g' ≡ g) ⊎ ((g' ≡ g + 1) × ((bid_on run g ≡ key % 1024) × (g < s.rounds)))
          → Following has ps k run tape alt' keys' mark mine' g'
      take_on (inl z) = record {
        n = s.n;
        rounds = s.rounds;
        main = rw e s.main;
        reached = rw z s.reached;
        inside = s.inside;
        strayed = rw z (went (λ i m y x h. omega (arith, shut_fewer t.shuts x, s.strayed.within i m y x h)));
        own = t.own;
        few = t.few;
        gone = rw z s.gone;
      }
      take_on (inr (z, (b, l))) = record {
        n = s.n;
        rounds = s.rounds;
        main = rw e s.main;
        reached = rw z (omega arith);
        inside = s.inside;
        strayed = rw z (went (λ i m y x h. omega (
          arith,
          t.shuts.clears x,
          after_round has s.n run g x,
          ap (λ (j : ℕ). when (has j x) 1) b,
          s.strayed.within i m y x h,
        )));
        own = t.own;
        few = t.few;
        gone = rw z gone_after;
      }

  -- ---- the main run's next bid, below all marked bids
  module _ (cap : ℕ) (below : (i : ℕ) → i < 1024 → cap ≤ at keys i) (l : key_on run g < cap) (few_cap : cap ≤ last) where
    now_here : g < s.rounds
    now_here = here (omega arith)

    written : Round has ps (length alt) s.n run tape g
    written = s.main.each g now_here

    abbrev m : ℕ
    m = bid_on run g

    on_tape : (x : ℕ) → has m x ≡ true → 0 < og x → in_pairs tape (tape_on run g) (tape_on run (g + 1) - tape_on run g) x ≡ true
    on_tape x h y = let z : og x ≡ 1 = omega (arith, before_bit has s.n run g x) in written.cells x ∙ rw (z, h)

    -- it is not alike here: the main run alone takes it
    pub pass_on : {keys' mark' : List ℕ}
        → Gained has ps alt (in_pairs tape (tape_on run g) (tape_on run (g + 1) - tape_on run g)) keys mark keys' mark'
        → length keys' ≡ 1024
        → 0 < cell mark' m → Following has ps k run tape alt keys' mark' mine (g + 1)
    pass_on d size z = record {
      n = s.n;
      rounds = s.rounds;
      main = s.main;
      reached = omega (arith, now_here);
      inside = s.inside;
      strayed = passes p most s.strayed m d size z (after_round has s.n run g) on_tape s.inside;
      own = s.own;
      few = s.few;
      gone = gone_after;
    }

    -- it is alike: both take it
    module _ (free : cell mark m ≡ 0)
        (held : (x : ℕ) → in_pairs tape (tape_on run g) (tape_on run (g + 1) - tape_on run g) x ≡ true → cell alt x ≡ 1) where
      alike : (x : ℕ) → has m x ≡ true → cell alt x ≡ og x
      alike x h = ⊎_elim (λ z. omega (arith, s.strayed.within m written.inside free x h))
          (λ z. omega (arith, held x (on_tape x h z), s.strayed.within m written.inside free x h, before_bit has s.n run g x))
          (zero_or (og x))

      reaches_alike : reach (has m) (open_of alt) ≡ reach (has m) (open_on has (length alt) s.n run g)
      unfolding open_of
      reaches_alike = reach_alike (has m) (cell alt) og (64 * length alt) alike

      same_key : key_at has ps alt m ≡ key_on run g
      same_key = key_at_lem has ps (open_of alt) m ∙ rw reaches_alike (sym (written.key
          ∙ key_at_lem has ps (open_on has (length alt) s.n run g) m))

      not_own : m ≡ k → ⊥
      not_own e = omega (arith, s.strayed.own, ap (cell mark) e, free)

      takes_written : best (others has ps k) (length ps) (open_of alt) ≡ found m
      takes_written = taken p most s.strayed m written.inside not_own (omega (arith, reaches_alike, (round_best written).good))
          (λ i q z. omega (arith, same_key, below i (omega (arith, p.count))))
          (λ i q z y. omega (arith, same_key, no_less now_here i q z))

      module _ {alt' : List ℕ} (e : length alt' ≡ length alt)
          (shut : Shut alt (in_pairs tape (tape_on run g) (tape_on run (g + 1) - tape_on run g)) alt') where
        own_shut : Shut alt (has m) alt'
        own_shut = record { clears = λ x. shut.clears x ∙ rw (written.cells x) (go x (eqb (og x) 1) (has m x) refl refl) }
          where
            go : (x : ℕ) (u t : Bool) → eqb (og x) 1 ≡ u → has m x ≡ t → cell alt x - when (u && t) 1 ≡ cell alt x - when t 1
            go x true t d h = refl
            go x false false d h = refl
            go x false true d h = omega (arith, alike x h, before_bit has s.n run g x, eqb-false (og x) 1 d)

        plain_written : others has ps k m ≡ bids has ps m
        plain_written = withdrawn_other k (bids has ps) m not_own

        left_written : close (others has ps k m).has (open_of alt) ≡ open_of alt'
        unfolding bids
        left_written = rw plain_written (shut_open alt alt' (has m) e own_shut)

        -- none of its cells is one of bid k's
        own_kept : reach (has k) (open_of alt') ≡ reach (has k) (open_of alt)
        unfolding open_of
        own_kept = rw e (reach_alike (has k) (cell alt') (cell alt) (64 * length alt) (λ x h. shut.clears x
            ∙ rw (written.cells x, s.gone x h) (omega arith)))

        pub follow_on : Following has ps k run tape alt' keys mark mine (g + 1)
        follow_on = record {
          n = s.n;
          rounds = s.rounds;
          main = rw e s.main;
          reached = omega (arith, now_here);
          inside = s.inside;
          strayed = closes p most s.strayed e (shut_fewer shut) (λ i q z x h. omega (
            arith,
            own_shut.clears x,
            after_round has s.n run g x,
            s.strayed.within i q z x h,
          ));
          own = s.own ∙ sym own_kept;
          few = s.few;
          gone = gone_after;
        }

        -- while bid k has an open cell that is another bid's too the run goes on
        own_cell : 0 < mine → Cell (has k) (cell alt') (64 * length alt')
        unfolding open_of
        own_cell y = some_cell (has k) (cell alt') (64 * length alt') (omega (arith, y, s.own, own_kept))

        was_open : (x : ℕ) → 0 < cell alt' x → cell alt x ≡ 1
        was_open x l = ⊎_elim (λ z. absurd (omega (arith, z, shut_fewer shut x))) (λ z. z) (two_way alt x)

        goes_on : 0 < mine → Spared has ps k (cell alt) → best (others has ps k) (length ps) (open_of alt') ≡ nothing → ⊥
        unfolding open_of bids
        goes_on y spare d =
            let c = own_cell y in
            let a = spare c.place (was_open c.place c.open_there) in
            let none = rw d at (best_right (others has ps k) (length ps) (open_of alt')) in
            none a.who a.inside (rw (withdrawn_other k (bids has ps) a.who a.other)
            (reached_cell (has a.who) (cell alt') (64 * length alt') c.place c.below c.open_there a.covers_it))

        pub follow_bar : (top : ℕ) → 0 < mine → SameBar has ps k alt alt' top top
        unfolding bar_from rounds_of
        follow_bar top y spare = ap (max top) (go (best (others has ps k) (length ps) (open_of alt')) refl)
          where
            go : (u : Found) → best (others has ps k) (length ps) (open_of alt') ≡ u
                → bar k (has k) (rounds_of (others has ps k) (length ps) (open_of alt))
                ≡ bar k (has k) (rounds_of (others has ps k) (length ps) (open_of alt'))
            go nothing d = absurd (goes_on y spare d)
            go (found j) d = bar_falls (others has ps k) (length ps) k (has k) (open_of alt) m j takes_written
                (ap (reach (has k)) left_written ∙ own_kept) (ap (best (others has ps k) (length ps)) left_written ∙ d)
                ∙ ap (λ (O : List ℕ). bar k (has k) (rounds_of (others has ps k) (length ps) O)) left_written

        pub follow_fewer : (x : ℕ) → cell alt' x ≤ cell alt x
        follow_fewer = shut_fewer shut

  -- ---- no marked bid reaches a cell, and the main run is over
  module _ (e : key_on run g ≡ last) (h : (i : ℕ) → i < 1024 → last < at keys i) where
    done : s.rounds ≤ g
    done = go (eqb g s.rounds) refl
      where
        go : (t : Bool) → eqb g s.rounds ≡ t → s.rounds ≤ g
        go true d = omega (arith, eqb-true g s.rounds d)
        go false d = absurd (omega (arith, e, key_below (omega (arith, s.reached, eqb-false g s.rounds d))))

    reaches_none : (i : ℕ) → i < length ps → (i ≡ k → ⊥) → reach (has i) (open_of alt) ≡ 0
    unfolding bids
    reaches_none i l d = ⊎_elim (λ z. none_free done i l z)
        (λ z. none_reached (bids has ps) (length ps) (open_of alt) (omega (arith, p.count)) (λ j q. p.most j) (open_most alt most) i l
        (omega (arith, h i (omega (arith, p.count)), s.strayed.bound i l z d))) (zero_or (cell mark i))

    stops : best (others has ps k) (length ps) (open_of alt) ≡ nothing
    unfolding bids
    stops = go (best (others has ps k) (length ps) (open_of alt)) (best_right (others has ps k) (length ps) (open_of alt))
      where
        go : (u : Found) → Rightly (others has ps k) (length ps) (open_of alt) u → u ≡ nothing
        go nothing x = refl
        go (found j) x = let d = withdrawn_reach k (bids has ps) (open_of alt) j x.good in
            absurd (omega (arith, reaches_none j x.inside d, rw (withdrawn_other k (bids has ps) j d) at x.good))

    pub over_none : bar_from has ps k (open_of alt) ≡ 0
    unfolding bar_from rounds_of bar
    over_none = ap (bar k (has k)) (rounds_stop (others has ps k) (length ps) (open_of alt) stops)
