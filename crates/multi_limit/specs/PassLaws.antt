-- The bids that gain where the main run alone takes a bid, which is marked first; and how the run without a bid begins. Assumes nothing.
use Rattle.std.specs.Prelude.{◌≡◌, refl, Bool, true, false, List, ℕ, ◌+◌, ◌-◌, ◌*◌, ◌≤◌, ◌<◌, set, eqb}
use Rattle.std.proofs.Math.Path.{sym}
use Rattle.std.proofs.Common.{ap, ◌∙◌, ⊎_elim, arith, get_or-set_same, get_or-set_other, eqb-true}
use Rattle.std.proofs.lemmas.Bool.{false≢true, eqb-false}
use Rattle.std.proofs.Math.ListN.{length}
use Rattle.cover.specs.Greedy.{reach}
use Rattle.cells.specs.Cells.{cell, RangeAdded}
use Rattle.cells.proofs.StoreLaws.{lt_or_le}
use Rattle.cells_pairs.specs.Pairs.{in_pairs}
use Rattle.multi_keys.specs.Keys.{at}
use Rattle.multi_market.specs.Market.{Priced}
use Rattle.multi_market.specs.Opens.{open_of}
use Rattle.multi_market.proofs.OpensLaws.{opens_same}
use Rattle.multi_market.proofs.KeyedLaws.{zero_or}
use Rattle.multi_market.specs.Seats.{key_at}
use Rattle.multi_rounds.specs.Trace.{bid_on, gain_on, tape_on, before, Round}
use Rattle.multi_gain.specs.Gain.{Gained}
use Rattle.multi_limit.specs.Follow.{Strayed, Following, Beginning}
use Rattle.multi_limit.specs.StrayLaws.{passes}
use Rattle.multi_limit.specs.FollowLaws.{after_round, before_bit}

-- ---- one mark more
module _ {m : ℕ} {old new : List ℕ} (f : RangeAdded m (m + 1) old new) where
  pub mark_own : cell new m ≡ 1
  mark_own = f.inside m (omega arith) (omega arith)

  mark_other : (i : ℕ) → (i ≡ m → ⊥) → cell new i ≡ cell old i
  mark_other i n = ⊎_elim (λ a. f.below i a) (λ a. f.above i (omega arith)) (lt_or_le i m)

  -- a bid without a mark then is another, and had none before
  mark_none : (i : ℕ) → cell new i ≡ 0 → i ≡ m → ⊥
  mark_none i z e = omega (arith, ap (cell new) e, mark_own)

  pub mark_kept : (i : ℕ) → 0 < cell old i → 0 < cell new i
  mark_kept i g = go (eqb i m) refl
    where
      go : (t : Bool) → eqb i m ≡ t → 0 < cell new i
      go true e = omega (arith, ap (cell new) (eqb-true i m e), mark_own)
      go false e = omega (arith, mark_other i (eqb-false i m e))

-- ---- the bid that the main run takes is marked
pub gained_nothing : (has : ℕ → ℕ → Bool) (ps alt keys mark : List ℕ) → Gained has ps alt (λ x. false) keys mark keys mark
gained_nothing has ps alt keys mark = record {
  kept = λ i l g. (g, refl);
  still = λ i l z. (refl, λ b x h f. absurd (false≢true f));
  moved = λ i l z g. absurd (omega arith);
}

-- it gets its mark and its key
pub gained_one : {has : ℕ → ℕ → Bool} {ps alt keys mark keys' mark' : List ℕ} (m : ℕ) → m < length ps → m < length keys
    → cell mark m ≡ 0
    → keys' ≡ set keys m (key_at has ps alt m) → RangeAdded m (m + 1) mark mark'
    → Gained has ps alt (λ x. false) keys mark keys' mark'
gained_one {has} {ps} {alt} {keys} {mark} {keys'} {mark'} m l ls z d f = record {
  kept = λ i k g. let n : (i ≡ m → ⊥) = λ e. omega (arith, ap (cell mark) e) in (mark_kept f i g, other_key i n);
  still = λ i k y. (other_key i (mark_none f i y), λ b x h t. absurd (false≢true t));
  moved = λ i k y g. go i y g (eqb i m) refl;
}
  where
    other_key : (i : ℕ) → (i ≡ m → ⊥) → at keys' i ≡ at keys i
    other_key i n = ap (λ (xs : List ℕ). at xs i) d ∙ get_or-set_other keys m i (key_at has ps alt m) 0 n

    go : (i : ℕ) → cell mark i ≡ 0 → 0 < cell mark' i → (t : Bool) → eqb i m ≡ t → (i < length ps)
        × (at keys' i ≡ key_at has ps alt i)
    go i y g true e = rw (eqb-true i m e) (l, ap (λ (xs : List ℕ). at xs m) d ∙ get_or-set_same keys m (key_at has ps alt m) 0 ls)
    go i y g false e = absurd (omega (arith, mark_other f i (eqb-false i m e)))

-- then those that gain are marked
pub gained_then : {has : ℕ → ℕ → Bool} {ps alt keys mark keys' mark' new next : List ℕ} {f : ℕ → Bool}
    → Gained has ps alt (λ x. false) keys mark keys' mark' → Gained has ps alt f keys' mark' new next
    → Gained has ps alt f keys mark new next
gained_then {mark' = mark'} {next = next} a d = record {
  kept = λ i k g. let y = a.kept i k g in let z = d.kept i k y.0 in (z.0, z.1 ∙ y.1);
  still = λ i k z. ((d.still i k z).0 ∙ (a.still i k (was i k z)).0, (d.still i k z).1);
  moved = λ i k z g. ⊎_elim (λ y. d.moved i k y g) (λ y. let h = a.moved i k z y in (h.0, (d.kept i k y).1 ∙ h.1))
      (zero_or (cell mark' i));
}
  where
    was : (i : ℕ) → i < 1024 → cell next i ≡ 0 → cell mark' i ≡ 0
    was i k z = ⊎_elim (λ y. y) (λ y. absurd (omega (arith, (d.kept i k y).0))) (zero_or (cell mark' i))

-- ---- the run without the bid of round h begins: the bid is marked, so are those that share an open cell with it, and the main run alone
-- takes it
module _ {has : ℕ → ℕ → Bool} {ps run tape alt keys mark marked : List ℕ} {h : ℕ} (p : Priced ps) (most : length alt ≤ 158)
    (b : Beginning has ps run tape h alt keys mark) (f : RangeAdded (bid_on run h) (bid_on run h + 1) mark marked) where
  abbrev k : ℕ
  k = bid_on run h

  abbrev og : ℕ → ℕ
  og = before has b.n run h

  written : Round has ps (length alt) b.n run tape h
  written = b.main.each h b.here

  alone : Strayed has ps k alt keys marked og
  alone = record {
    seats = b.seats;
    own = omega (arith, mark_own f);
    skip = b.skip;
    outs = λ i l z. b.outs i l (sym (mark_other f i (mark_none f i z)) ∙ z);
    bound = λ i l z d. b.bound i l (omega (arith, mark_other f i d)) d;
    within = λ i l z x e. omega (arith, b.stands x);
  }

  on_tape : (x : ℕ) → has k x ≡ true → 0 < og x → in_pairs tape (tape_on run h) (tape_on run (h + 1) - tape_on run h) x ≡ true
  on_tape x e y = let z : og x ≡ 1 = omega (arith, before_bit has b.n run h x) in written.cells x ∙ rw (z, e)

  own_open : gain_on run h ≡ reach (has k) (open_of alt)
  unfolding open_of
  own_open = written.gets ∙ sym (ap (reach (has k)) (opens_same (cell alt) og (64 * length alt) b.stands))

  pub begin_follows : {keys' mark' : List ℕ} {mine : ℕ}
      → Gained has ps alt (in_pairs tape (tape_on run h) (tape_on run (h + 1) - tape_on run h)) keys marked keys' mark'
      → length keys' ≡ 1024
      → mine ≡ gain_on run h → Following has ps k run tape alt keys' mark' mine (h + 1)
  begin_follows d size gets = record {
    n = b.n;
    rounds = b.rounds;
    main = b.main;
    reached = omega (arith, b.here);
    inside = written.inside;
    strayed = passes p most alone k d size (d.kept k (omega arith) alone.own).0 (after_round has b.n run h) on_tape
        written.inside;
    own = gets ∙ own_open;
    few = omega (arith, written.few);
    gone = λ x e. after_round has b.n run h x ∙ rw e (omega (arith, before_bit has b.n run h x));
  }
