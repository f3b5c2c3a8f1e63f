-- The main run, written down round by round. Assumes nothing.
use Rattle.std.specs.Prelude.{◌≡◌, ◌⊎◌, Bool, true, false, ◌&&◌, List, ℕ, zero, suc, ◌+◌, ◌-◌, ◌*◌, ◌%◌}
use Rattle.std.specs.Prelude.{◌≤◌, ◌<◌, set, eqb, ltb}
use Rattle.std.proofs.Math.Path.{refl, sym, ap, ap₂}
use Rattle.std.proofs.Common.{◌∙◌, inl, inr, ⊎_elim, add-one, arith, eqb-true, ltb-true, ltb-false}
use Rattle.std.proofs.Math.ListN.{length, length-set}
use Rattle.std.proofs.Math.Seq.{get_or-set_same, get_or-set_other}
use Rattle.std.proofs.lemmas.Bool.{eqb-false}
use Rattle.cells.specs.Cells.{cell}
use Rattle.cells_pairs.specs.Pairs.{in_pairs, Paired, Shut}
use Rattle.cells_pairs.specs.PairLaws.{pairs_same, paired_same}
use Rattle.cover.specs.Greedy.{reach, close, best, bids}
use Rattle.cover.proofs.GreedyLaws.{best_right, shrink, close_own, close_other}
use Rattle.cover.proofs.PickLaws.{Best}
use Rattle.cover.specs.Sets.{when, found}
use Rattle.multi_keys.specs.Keys.{at, out, last}
use Rattle.multi_keys.proofs.KeyLaws.{key_none, key_bid, key_rises}
use Rattle.multi_keys.proofs.TreeLaws.{set_at}
use Rattle.multi_market.specs.Market.{has, Priced, First}
use Rattle.multi_market.specs.Opens.{open_of}
use Rattle.multi_market.proofs.OpensLaws.{length_cells, opens_same}
use Rattle.multi_market.proofs.BeginLaws.{open_first}
use Rattle.multi_market.specs.Seats.{key_in, key_at, Seat, Seats, Leader, Fronted, Entered}
use Rattle.multi_rounds.specs.Trace.{key_on, bid_on, gain_on, tape_on, before, open_on, Round, Trace}
use Rattle.multi_rounds.specs.ShutLaws.{shut_open, shut_set}
use Rattle.multi_market.proofs.KeyedLaws.{zero_or, key_at_lem, opens_most, least_taken, taken_least, none_reached}

-- what stands before round r turns on the keys before it
pub before_same : (has : ℕ → ℕ → Bool) (n : ℕ) (run new : List ℕ) (g : ℕ)
    → ((j : ℕ) → j < g → key_on new j ≡ key_on run j) → (x : ℕ) → before has n new g x ≡ before has n run g x
unfolding before
before_same has n run new zero h x = refl
before_same has n run new (suc g) h x = rw (before_same has n run new g (λ j l. h j (omega arith)) x, h g (omega arith))

pub record Past (has : ℕ → ℕ → Bool) (ps : List ℕ) (w n : ℕ) (run tape : List ℕ) (c g : ℕ) : Type 0 where
  pub written : Round has ps w n run tape g
  pub ended : tape_on run (g + 1) ≤ c

pub record Tracing (has : ℕ → ℕ → Bool) (ps : List ℕ) (w n : ℕ) (held keys run tape : List ℕ) (r c : ℕ) : Type 0 where
  pub seats : Seats has ps held keys
  pub bound : (i : ℕ) → i < length ps → at keys i ≤ key_at has ps held i
  pub words : length held ≡ w
  pub rows : 3 * n + 3 ≤ length run
  pub room : r + length (open_of held) ≤ n
  pub space : c + length (open_of held) ≤ n
  pub place : tape_on run r ≡ c
  pub standing : (x : ℕ) → cell held x ≡ before has n run r x
  pub past : (g : ℕ) → g < r → Past has ps w n run tape c g

-- ---- the start
pub seats_of : {has : ℕ → ℕ → Bool} {ps held keys : List ℕ} → Priced ps → Entered has ps held keys → Seats has ps held keys
seats_of {has} {ps} {held} {keys} p e = record { size = e.size; each = λ i l. go i l (ltb i (length ps)) refl }
  where
    open_key : (i : ℕ) → i < length ps → (at keys i ≡ out) ⊎ Seat has ps held i (at keys i)
    open_key i l = ⊎_elim
        (λ z. inl (e.each i l ∙ key_at_lem has ps (open_of held) i ∙ rw z (key_none (at ps i) i)))
        (λ z. inr (record {
          inside = l;
          tells = rw (e.each i l, key_at_lem has ps (open_of held) i)
              (key_bid (at ps i) (reach (has i) (open_of held)) i z (omega (arith, p.count)));
          below = omega (arith, e.each i l);
        })) (zero_or (reach (has i) (open_of held)))

    go : (i : ℕ) → i < 1024 → (t : Bool) → ltb i (length ps) ≡ t → (at keys i ≡ out) ⊎ Seat has ps held i (at keys i)
    go i l true d = open_key i (ltb-true i (length ps) d)
    go i l false d = inl (e.others i (ltb-false i (length ps) d) l)

pub trace_starts : {has : ℕ → ℕ → Bool} {ps : List ℕ} {n : ℕ} {held keys tape : List ℕ} (run : List ℕ) → Priced ps
    → n ≤ 64 * length held → First n held → Entered has ps held keys → 3 * n + 3 ≤ length run
    → Tracing has ps (length held) n held keys (set run 2 0) tape 0 0
unfolding before
trace_starts {has} {ps} {n} {held} {keys} run p l f e m = let o = open_first f l in record {
  seats = seats_of p e;
  bound = λ i q. omega (arith, e.each i q);
  words = refl;
  rows = simp length-set m;
  room = rw o (omega (arith, length_cells n));
  space = rw o (omega (arith, length_cells n));
  place = get_or-set_same run 2 0 0 (omega arith);
  standing = λ x. go x (ltb x n) refl;
  past = λ g q. absurd (omega arith);
}
  where
    go : (x : ℕ) (t : Bool) → ltb x n ≡ t → cell held x ≡ when t 1
    go x true d = f.inside x (ltb-true x n d)
    go x false d = f.above x (ltb-false x n d)

-- ---- a round that is written stays
pub round_same : {has : ℕ → ℕ → Bool} {ps : List ℕ} {w n : ℕ} {run tape : List ℕ} {g : ℕ} (new tape' : List ℕ)
    → Round has ps w n run tape g → ((j : ℕ) → j ≤ g → key_on new j ≡ key_on run j) → gain_on new g ≡ gain_on run g
    → tape_on new g ≡ tape_on run g → tape_on new (g + 1) ≡ tape_on run (g + 1) → length tape' ≡ length tape
    → ((p : ℕ) → p < 2 * tape_on run (g + 1) → at tape' p ≡ at tape p) → Round has ps w n new tape' g
round_same {has} {ps} {w} {n} {run} {tape} {g} new tape' a k y t u size h = record {
  inside = rw (k g (omega arith)) a.inside;
  takes = rw (same, k g (omega arith)) a.takes;
  key = rw (same, k g (omega arith)) a.key;
  gets = rw (same, k g (omega arith), y) a.gets;
  few = rw y a.few;
  paired = rw (t, u) (paired_same tape tape' w (tape_on run g) (tape_on run (g + 1)) size (λ p l m. h p m) a.paired);
  cells = λ x. rw (t, u, before_same has n run new g (λ j l. k j (omega arith)) x, k g (omega arith))
      (pairs_same tape tape' (tape_on run g) (tape_on run (g + 1) - tape_on run g) (λ p l m. h p (omega (arith, a.paired.rising))) x
      ∙ a.cells x);
}
  where
    same : open_on has w n new g ≡ open_on has w n run g
    same = opens_same (before has n new g) (before has n run g) (64 * w) (before_same has n run new g (λ j l. k j (omega arith)))

module _ {has : ℕ → ℕ → Bool} {ps : List ℕ} {w n : ℕ} {held keys run tape : List ℕ} {r c : ℕ} (p : Priced ps)
    (most : w ≤ 158) (s : Tracing has ps w n held keys run tape r c) where
  opened : open_on has w n run r ≡ open_of held
  unfolding open_of
  opened = rw s.words (opens_same (before has n run r) (cell held) (64 * w) (λ x. sym (s.standing x)))

  small : length (open_of held) ≤ 10112
  unfolding open_of
  small = omega (arith, opens_most (cell held) (64 * length held), s.words)

  module _ {new : List ℕ} {key cells : ℕ} (f : Fronted has ps held keys new last key cells) where
    bound_new : (i : ℕ) → i < length ps → at new i ≤ key_at has ps held i
    bound_new i l = ⊎_elim (λ e. omega (arith, e, s.bound i l)) (λ e. omega (arith, e.1)) (f.each i (omega (arith, p.count)))

    least_new : (i : ℕ) → i < length ps → key ≤ key_at has ps held i
    least_new i l = omega (arith, f.least i (omega (arith, p.count)), bound_new i l)

    -- no bid reaches an open cell
    pub ends : last < key → Trace has ps w n (set run (3 * r) last) tape r
    unfolding bids
    ends l = record {
      room = simp length-set (omega (arith, s.rows, s.room));
      each = λ g q. let e : (j : ℕ) → (j ≡ 3 * r → ⊥) → at (set run (3 * r) last) j ≡ at run j
          = λ j d. get_or-set_other run (3 * r) j last 0 d in
          round_same (set run (3 * r) last) tape (s.past g q).written (λ j m. e (3 * j) (λ d. omega arith))
          (e (3 * g + 1) (λ d. omega arith)) (e (3 * g + 2) (λ d. omega arith)) (e (3 * (g + 1) + 2) (λ d. omega arith))
          refl (λ p m. refl);
      end = get_or-set_same run (3 * r) last 0 (omega (arith, s.rows, s.room));
      over = λ i q. rw (same, opened) (none_reached (bids has ps) (length ps) (open_of held) (omega (arith, p.count))
          (λ j m. p.most j) small i q (omega (arith, l, least_new i q)));
    }
      where
        same : open_on has w n (set run (3 * r) last) r ≡ open_on has w n run r
        same = opens_same (before has n (set run (3 * r) last) r) (before has n run r) (64 * w)
            (before_same has n run (set run (3 * r) last) r (λ j m. get_or-set_other run (3 * r) (3 * j) last 0 (λ d. omega arith)))

    module _ (l : key ≤ last) where
      lead : Leader has ps held new key cells
      lead = f.leads l

      pub inside : key % 1024 < length ps
      inside = lead.inside

      pub gains : cells ≡ reach (has (key % 1024)) (open_of held)
      gains = lead.cells

      pub fits : c + cells ≤ n
      fits = omega (arith, s.space, gains, shrink (has (key % 1024)) (open_of held))

      pub room_left : r < n
      room_left = omega (arith, s.room, lead.some, gains, shrink (has (key % 1024)) (open_of held))

      taken : best (bids has ps) (length ps) (open_of held) ≡ found (key % 1024)
      unfolding bids
      taken = least_taken (bids has ps) (length ps) (open_of held) (omega (arith, p.count)) (λ j m. p.most j) small (key % 1024) inside
          (omega (arith, lead.some, gains)) (λ i q g. omega (arith, lead.key, least_new i q))

      abbrev run' : ℕ → List ℕ
      run' z = set (set (set run (3 * r) key) (3 * r + 1) cells) (3 * r + 5) z

      module _ (z : ℕ) where
        other : (j : ℕ) → (j ≡ 3 * r → ⊥) → (j ≡ 3 * r + 1 → ⊥) → (j ≡ 3 * r + 5 → ⊥)
            → at (run' z) j ≡ at run j
        other j d e g = get_or-set_other (set (set run (3 * r) key) (3 * r + 1) cells) (3 * r + 5) j z 0 g
            ∙ get_or-set_other (set run (3 * r) key) (3 * r + 1) j cells 0 e ∙ get_or-set_other run (3 * r) j key 0 d

        new_key : key_on (run' z) r ≡ key
        new_key = get_or-set_other (set (set run (3 * r) key) (3 * r + 1) cells) (3 * r + 5) (3 * r) z 0 (λ d. omega arith)
            ∙ get_or-set_other (set run (3 * r) key) (3 * r + 1) (3 * r) cells 0 (λ d. omega arith)
            ∙ get_or-set_same run (3 * r) key 0 (omega (arith, s.rows, room_left))

        new_gain : gain_on (run' z) r ≡ cells
        new_gain = get_or-set_other (set (set run (3 * r) key) (3 * r + 1) cells) (3 * r + 5) (3 * r + 1) z 0 (λ d. omega arith)
            ∙ get_or-set_same (set run (3 * r) key) (3 * r + 1) cells 0 (simp length-set (omega (arith, s.rows, room_left)))

        same_place : tape_on (run' z) r ≡ c
        same_place = other (3 * r + 2) (λ d. omega arith) (λ d. omega arith) (λ d. omega arith) ∙ s.place

        new_place : tape_on (run' z) (r + 1) ≡ z
        new_place = let e : 3 * (r + 1) + 2 ≡ 3 * r + 5 = omega arith in rw e
            (get_or-set_same (set (set run (3 * r) key) (3 * r + 1) cells) (3 * r + 5) z 0
            (simp (length-set) (omega (arith, s.rows, room_left))))

        same_keys : (j : ℕ) → j < r → key_on (run' z) j ≡ key_on run j
        same_keys j m = other (3 * j) (λ d. omega arith) (λ d. omega arith) (λ d. omega arith)

        same_open : open_on has w n (run' z) r ≡ open_of held
        same_open = opens_same (before has n (run' z) r) (before has n run r) (64 * w)
            (before_same has n run (run' z) r same_keys) ∙ opened

      -- its cells are written down and closed, and it is out
      module _ {tape' held' : List ℕ} {z : ℕ} (size : length tape' ≡ length tape) (cut : Paired tape' w c z)
          (few : z ≤ c + cells) (kept : (j : ℕ) → j < 2 * c → at tape' j ≡ at tape j)
          (on : (x : ℕ) → in_pairs tape' c (z - c) x ≡ (eqb (cell held x) 1 && has (key % 1024) x))
          (words : length held' ≡ length held) (shut : Shut held (in_pairs tape' c (z - c)) held') where
        own : Shut held (has (key % 1024)) held'
        own = shut_set held held' (in_pairs tape' c (z - c)) (has (key % 1024)) on shut

        left : open_of held' ≡ close (has (key % 1024)) (open_of held)
        left = sym (shut_open held held' (has (key % 1024)) words own)

        falls : length (open_of held') + cells ≡ length (open_of held)
        falls = rw left (omega (arith, gains, shrink (has (key % 1024)) (open_of held)))

        pub fewer_open : length (open_of held') < length (open_of held)
        fewer_open = omega (arith, falls, lead.some)

        rises : (i : ℕ) → i < length ps → key_at has ps held i ≤ key_at has ps held' i
        rises i m = rw (key_at_lem has ps (open_of held) i, key_at_lem has ps (open_of held') i, left)
            (key_rises (at ps i) (reach (has i) (open_of held)) (reach (has i) (close (has (key % 1024)) (open_of held))) i (p.most i)
            (omega (arith, p.count)) (close_other (has (key % 1024)) (has i) (open_of held)))

        own_out : key_at has ps held' (key % 1024) ≡ out
        own_out = key_at_lem has ps (open_of held') (key % 1024) ∙ rw (left, close_own (has (key % 1024)) (open_of held))
            (key_none (at ps (key % 1024)) (key % 1024))

        within : key % 1024 < length new
        within = omega (arith, f.seats.size, inside, p.count)

        after : (x : ℕ) → before has n (run' z) (r + 1) x ≡ before has n run r x - when (has (key % 1024) x) 1
        unfolding before
        after x = ap (λ (g : ℕ). before has n (run' z) g x) (add-one r)
            ∙ ap₂ (λ (u v : ℕ). u - when (has (v % 1024) x) 1) (before_same has n run (run' z) r (same_keys z) x) (new_key z)

        pub goes : Tracing has ps w n held' (set new (key % 1024) out) (run' z) tape' (r + 1) z
        goes = record {
          seats = record {
            size = simp length-set f.seats.size;
            each = set_at (λ i y. i < 1024 → (y ≡ out) ⊎ Seat has ps held' i y) new (key % 1024) out within (λ m. inl refl)
                (λ i m. ⊎_elim (λ e. inl e) (λ t. inr (record {
                  inside = t.inside;
                  tells = t.tells;
                  below = omega (arith, t.below, rises i t.inside);
                })) (f.seats.each i m));
          };
          bound = set_at (λ i y. i < length ps → y ≤ key_at has ps held' i) new (key % 1024) out within (λ q. omega (arith, own_out))
              (λ i q. omega (arith, bound_new i q, rises i q));
          words = words ∙ s.words;
          rows = simp length-set s.rows;
          room = omega (arith, s.room, falls, lead.some);
          space = omega (arith, s.space, falls, few);
          place = new_place z;
          standing = λ x. own.clears x ∙ ap (λ (v : ℕ). v - when (has (key % 1024) x) 1) (s.standing x) ∙ sym (after x);
          past = λ g m. go g m (eqb g r) refl;
        }
          where
            go : (g : ℕ) → g < r + 1 → (t : Bool) → eqb g r ≡ t → Past has ps w n (run' z) tape' z g
            go g m true d = rw (eqb-true g r d) (record {
              written = record {
                inside = rw (new_key z) inside;
                takes = rw (new_key z, same_open z) taken;
                key = rw (new_key z, same_open z) lead.key;
                gets = rw (new_key z, new_gain z, same_open z) gains;
                few = rw (new_gain z) lead.few;
                paired = rw (same_place z, new_place z) cut;
                cells = λ x. rw (
                  same_place z,
                  new_place z,
                  new_key z,
                  before_same has n run (run' z) r (same_keys z) x,
                  ← s.standing x,
                ) (on x);
              };
              ended = omega (arith, new_place z);
            })
            go g m false d =
                let ne = eqb-false g r d in
                let a = s.past g (omega arith) in
                let e = other z (3 * (g + 1) + 2) (λ q. omega arith) (λ q. omega arith) (λ q. omega arith) in record {
                  written = round_same (run' z) tape' a.written (λ j q. same_keys z j (omega arith))
                      (other z (3 * g + 1) (λ q. omega arith) (λ q. omega arith) (λ q. omega arith))
                      (other z (3 * g + 2) (λ q. omega arith) (λ q. omega arith) (λ q. omega arith)) e size
                      (λ j q. kept j (omega (arith, a.ended)));
                  ended = omega (arith, e, a.ended, cut.rising);
                }

-- ---- what a written round says
module _ {has : ℕ → ℕ → Bool} {ps : List ℕ} {w n : ℕ} {run tape : List ℕ} {g : ℕ} (a : Round has ps w n run tape g) where
  pub round_best : Best (at ps) (λ i. reach (has i) (open_on has w n run g)) (length ps) (bid_on run g)
  unfolding bids
  round_best = rw a.takes at (best_right (bids has ps) (length ps) (open_on has w n run g))

  pub round_least : Priced ps → w ≤ 158 → (i : ℕ) → i < length ps
      → key_on run g ≤ key_in (bids has ps) (open_on has w n run g) i
  unfolding bids
  round_least p most i l = rw a.key (taken_least (bids has ps) (length ps) (open_on has w n run g) (omega (arith, p.count))
      (λ j m. p.most j) (omega (arith, opens_most (before has n run g) (64 * w))) (bid_on run g) a.takes i l)
