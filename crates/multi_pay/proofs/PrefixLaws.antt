-- The rounds before a bid is taken leave its limit as the rest of the run without it has it, where the others cover the cells. Assumes
-- nothing.
use Rattle.std.specs.Prelude.{◌≡◌, Bool, ◌&&◌, List, [], length, ltb, leb}
use Rattle.std.proofs.Math.Path.{refl, ap}
use Rattle.std.proofs.Common.{sym, ◌∙◌}
use Rattle.std.proofs.Math.Bool.{true, false}
use Prim.Native.Nat.{ℕ, zero, suc, ◌+◌, ◌-◌, ◌*◌, ◌≤◌, ◌<◌, max}
use native.Mathlib.Omega.{arith}
use Rattle.std.proofs.Math.Dec.{eqb}
use borrow.Author.Tests.{eqb-true, eqb-false, eq-eqb, ltb-true, ltb-false, leb-true, le-ltb, lt-ltb}
use Rattle.cover.specs.Sets.{when, found, cells}
use Rattle.cover.specs.Greedy.{Entry, reach, keep, close, best, taken, bids}
use Rattle.cover.proofs.GreedyLaws.{best_right, withdrawn_other, withdrawn_reach}
use Rattle.cover.proofs.GreedyCoverLaws.{Each, Covered}
use Rattle.cover.specs.CriticalPrice.{late, share, bar, limit}
use Rattle.cover.proofs.BarLaws.{share_right, under}
use Rattle.cover.proofs.PickLaws.{before_one}
use Rattle.cells.proofs.LowestLaws.{two}
use Rattle.multi_keys.specs.Keys.{at}
use Rattle.multi_market.specs.Opens.{opens}
use Rattle.multi_market.proofs.OpensLaws.{close_step, opens_first, reach_alike}
use Rattle.multi_market.proofs.RunLaws.{right_one, rounds_of, rounds_more}
use Rattle.multi_rounds.specs.Trace.{bid_on, before, open_on, Trace}
use Rattle.multi_rounds.specs.ShutLaws.{one_when, when_way}
use Rattle.multi_rounds.specs.TracingLaws.{round_best}
use Rattle.multi_limit.specs.Follow.{bar_from}
use Rattle.multi_limit.specs.StrayLaws.{others}
use Rattle.multi_limit.specs.FollowLaws.{before_bit}

close_fun : (h : ℕ → Bool) (f g : ℕ → ℕ) → ((x : ℕ) → f x ≤ 1) → ((x : ℕ) → g x ≡ f x - when (h x) 1)
    → (n : ℕ)
    → close h (opens f n) ≡ opens g n
unfolding opens close
close_fun h f g b e zero = refl
close_fun h f g b e (suc n) = close_step h n (f n) (when (h n) 1) (sym (one_when (h n))) (g n) (opens f n) _ (e n) (close_fun h f g b e n)
    (two (f n) (omega (arith, b n))) (when_way (h n))

each_opens : (P : ℕ → Type 0) (f : ℕ → ℕ) → ((x : ℕ) → 0 < f x → P x) → (n : ℕ) → Each P (opens f n)
unfolding opens
each_opens P f h zero = tt
each_opens P f h (suc n) = go (eqb (f n) 0) refl (each_opens P f h n)
  where
    go : (t : Bool) → eqb (f n) 0 ≡ t → Each P (opens f n) → Each P (keep t n (opens f n))
    go true e x = x
    go false e x = (h n (omega (arith, eqb-false (f n) 0 e)), x)

opens_none : (N : ℕ) → opens (λ x. 0) N ≡ []
unfolding opens
opens_none zero = refl
opens_none (suc N) = opens_none N

before_most : (has : ℕ → ℕ → Bool) (n : ℕ) (run : List ℕ) (g x : ℕ) → before has n run g x ≤ when (ltb x n) 1
unfolding before
before_most has n run zero x = omega arith
before_most has n run (suc g) x = omega (arith, before_most has n run g x)

-- a cell that is open before a round is one of the first n
pub before_low : (has : ℕ → ℕ → Bool) (n : ℕ) (run : List ℕ) (g x : ℕ) → 0 < before has n run g x → x < n
before_low has n run g x l = go (ltb x n) refl
  where
    go : (t : Bool) → ltb x n ≡ t → x < n
    go true e = ltb-true x n e
    go false e = absurd (omega (arith, rw e at (before_most has n run g x)))

-- a round leaves open what its bid does not have
pub closes : (has : ℕ → ℕ → Bool) (w n : ℕ) (run : List ℕ) (g : ℕ)
    → close (has (bid_on run g)) (open_on has w n run g) ≡ open_on has w n run (suc g)
unfolding before
closes has w n run g = close_fun (has (bid_on run g)) (before has n run g) (before has n run (suc g)) (before_bit has n run g) (λ x. refl)
    (64 * w)

-- the first n cells are open at first
pub opened : (has : ℕ → ℕ → Bool) (w n : ℕ) (run : List ℕ) → n ≤ 64 * w → open_on has w n run 0 ≡ cells n
unfolding before
opened has w n run q = opens_first (before has n run 0) n (64 * w) q (λ x z. rw (lt-ltb x n z)) (λ x z. rw (le-ltb x n z))

module _ {has : ℕ → ℕ → Bool} {ps : List ℕ} {w n : ℕ} {run tape : List ℕ} {rounds : ℕ}
    (tr : Trace has ps w n run tape rounds) where
  abbrev og : ℕ → List ℕ
  og g = open_on has w n run g

  module _ (k : ℕ) (inside : k < length ps) where
    abbrev r : ℕ → ℕ → ℕ
    r g i = reach (has i) (og g)

    -- bid k is not ahead of the bid that the round takes
    not_ahead : (g : ℕ) → g < rounds → (bid_on run g ≡ k → ⊥) → (a b : Bool) → ltb 0 (r g k) ≡ a
        → leb (at ps k * r g (bid_on run g) + late k (bid_on run g)) (at ps (bid_on run g) * r g k) ≡ b → a && b ≡ false
    not_ahead g l ne true true e f = absurd (ne (before_one (at ps) (r g) (bid_on run g) k
        ((round_best (tr.each g l)).least k inside (ltb-true _ _ e)) (leb-true _ _ f)))
    not_ahead g l ne true false e f = refl
    not_ahead g l ne false b e f = refl

    share_low : (g : ℕ) → g < rounds → (bid_on run g ≡ k → ⊥)
        → share k (has k) (bid_on run g) (bids has ps (bid_on run g)) (og g) ≤ at ps k
    unfolding share bids
    share_low g l ne = ltb-false (at ps k) _ (sym (share_right (ltb 0 (r g k)) (at ps k) (r g (bid_on run g)) (late k (bid_on run g))
        (at ps (bid_on run g) * r g k) (round_best (tr.each g l)).good) ∙ not_ahead g l ne _ _ refl refl)

    plain : (i : ℕ) → (i ≡ k → ⊥) → others has ps k i ≡ bids has ps i
    plain i ne = withdrawn_other k (bids has ps) i ne

    -- the run without k takes the same bid
    without_best : (g : ℕ) → g < rounds → (bid_on run g ≡ k → ⊥)
        → best (others has ps k) (length ps) (og g) ≡ found (bid_on run g)
    unfolding best bids
    without_best g l ne = let b = round_best (tr.each g l) in
        right_one (λ i. (others has ps k i).price) (λ i. reach (others has ps k i).has (og g)) (length ps)
        (best (others has ps k) (length ps) (og g)) (found (bid_on run g)) (best_right (others has ps k) (length ps) (og g))
        (record {
          inside = b.inside;
          good = rw (plain (bid_on run g) ne) b.good;
          least = λ i q z. let d = withdrawn_reach k (bids has ps) (og g) i z in
              rw (plain (bid_on run g) ne, plain i d) (b.least i q (rw (plain i d) at z));
        })

    bar_step : (g : ℕ) → g < rounds → (bid_on run g ≡ k → ⊥)
        → bar_from has ps k (og g) ≡ max (share k (has k) (bid_on run g) (bids has ps (bid_on run g)) (og g))
        (bar_from has ps k (og (suc g)))
    unfolding bar_from rounds_of bar bids
    bar_step g l ne = ap (bar k (has k)) (rounds_more (others has ps k) (length ps) (og g) (bid_on run g) (without_best g l ne))
        ∙ ap (λ (y : Entry). max (share k (has k) (bid_on run g) y (og g))
        (bar k (has k) (rounds_of (others has ps k) (length ps) (close y.has (og g))))) (plain (bid_on run g) ne)
        ∙ ap (λ (O : List ℕ). max (share k (has k) (bid_on run g) (bids has ps (bid_on run g)) (og g))
        (bar k (has k) (rounds_of (others has ps k) (length ps) O))) (closes has w n run g)

    record Split (g : ℕ) : Type 0 where
      low : ℕ
      below : low ≤ at ps k
      whole : bar_from has ps k (og 0) ≡ max low (bar_from has ps k (og g))

    split : (g : ℕ) → g ≤ rounds → ((j : ℕ) → j < g → bid_on run j ≡ k → ⊥) → Split g
    split zero l ne = record { low = 0; below = omega arith; whole = omega arith }
    split (suc g) l ne = let s = split g (omega arith) (λ j q. ne j (omega arith)) in let d = ne g (omega arith) in record {
      low = max s.low (share k (has k) (bid_on run g) (bids has ps (bid_on run g)) (og g));
      below = omega (arith, s.below, share_low g (omega arith) d);
      whole = s.whole ∙ rw (bar_step g (omega arith) d) (omega arith);
    }

  -- what a bid once taken has is closed
  gone : (g j x : ℕ) → g < j → has (bid_on run g) x ≡ true → before has n run j x ≡ 0
  unfolding before
  gone g zero x q e = absurd (omega arith)
  gone g (suc j) x q e = go (eqb g j) refl (gone g j x)
    where
      go : (t : Bool) → eqb g j ≡ t → (g < j → has (bid_on run g) x ≡ true → before has n run j x ≡ 0)
          → before has n run j x - when (has (bid_on run j) x) 1 ≡ 0
      go true d ih = let z : has (bid_on run j) x ≡ true = rw (← eqb-true g j d) e in rw z (omega (arith, before_bit has n run j x))
      go false d ih = omega (arith, ih (omega (arith, eqb-false g j d)) e)

  -- each bid is taken once
  pub distinct : (j h : ℕ) → j < h → h < rounds → bid_on run j ≡ bid_on run h → ⊥
  unfolding reach
  distinct j h q l e = omega (
    arith,
    (round_best (tr.each h l)).good,
    reach_alike (has (bid_on run h)) (before has n run h) (λ x. 0) (64 * w) (λ x z. gone j h x q (rw e z)),
    ap (reach (has (bid_on run h))) (opens_none (64 * w)),
  )

  module _ (h : ℕ) (l : h < rounds) (cover : (x : ℕ) → x < n → Covered (others has ps (bid_on run h)) (length ps) x) where
    inside : bid_on run h < length ps
    inside = (tr.each h l).inside

    covers : Each (Covered (others has ps (bid_on run h)) (length ps)) (og h)
    covers = each_opens _ (before has n run h) (λ x q. cover x (before_low has n run h x q)) (64 * w)

    taken_here : taken (bid_on run h) (rounds_of (bids has ps) (length ps) (og h)) ≡ true
    unfolding taken
    taken_here = rw (
      rounds_more (bids has ps) (length ps) (og h) (bid_on run h) (tr.each h l).takes,
      eq-eqb (bid_on run h) (bid_on run h) refl,
    )

    above : at ps (bid_on run h) < bar_from has ps (bid_on run h) (og h)
    unfolding bar_from bids rounds_of
    above = ltb-true _ _ (sym (under (bids has ps) (length ps) (bid_on run h) inside (length (og h)) (og h) (omega arith) covers)
        ∙ taken_here)

    pub suffix_is : ((j : ℕ) → j < h → bid_on run j ≡ bid_on run h → ⊥)
        → bar_from has ps (bid_on run h) (og 0) ≡ bar_from has ps (bid_on run h) (og h)
    suffix_is ne = let s = split (bid_on run h) inside h (omega arith) ne in s.whole ∙ omega (arith, s.below, above)

    -- the limit of the bid of round h is what the rest of the run without it says
    pub limit_is : n ≤ 64 * w → limit has ps (cells n) (bid_on run h) ≡ bar_from has ps (bid_on run h) (og h)
    unfolding limit bar_from
    limit_is q = rw (← first) (suffix_is (λ j z. distinct j h z l))
      where
        first : og 0 ≡ cells n
        first = opened has w n run q
