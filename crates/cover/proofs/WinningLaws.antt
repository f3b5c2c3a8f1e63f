-- In both mechanisms the prices with which a bid would win are those below some price: by the least cover those up to its threshold, the
-- threshold itself where the tie falls so; by the greedy cover those up to its critical price (`CriticalLaws`). The threshold is what
-- the bid is paid at the price 0. Assumes nothing.
use Rattle.std.proofs.Math.Path.{◌≡◌, refl, sym, ap}
use Rattle.std.proofs.Common.{◌∙◌}
use Rattle.std.specs.Prelude.{Bool, List, set}
use Rattle.std.proofs.Math.Bool.{true, false, cond}
use Prim.Native.Nat.{ℕ, zero, suc, ◌+◌, ◌-◌, ◌^◌, ◌≤◌, ◌<◌}
use native.Mathlib.Omega.{arith}
use Rattle.std.proofs.Math.ListN.{length}
use Rattle.std.proofs.Math.Dec.{ltb, leb}
use borrow.Author.Tests.{le-ltb, ltb-true, ltb-false, le-leb, lt-leb}
use Rattle.cover.proofs.ThresholdLaws.{prices_that_win}
use Rattle.cover.specs.Sets.{when, Found, nothing, found, value_of, bit, cost}
use Rattle.cover.specs.LeastCover.{first, winners, without, vcg_paid, margin, vcg_threshold}
use Rattle.cover.specs.CriticalPrice.{largest, sum}
use Rattle.cover.specs.Winning.{Below, one_less}
use Rattle.cover.proofs.VcgLaws.{threshold, pays}
use Rattle.cover.proofs.Intervals.BidsLaws.{cost_most}

pub value_less : (m : ℕ) → value_of (one_less m) ≡ m - 1
unfolding one_less value_of
value_less zero = omega arith
value_less (suc p) = omega arith

-- numbers of which those below m pass

module _ (ok : ℕ → Bool) (m : ℕ) (b : Below ok m) where
  -- the largest of them is found by a search that goes far enough
  pub largest_below : (n : ℕ) → m ≤ n → largest ok n ≡ one_less m
  unfolding largest one_less
  largest_below zero l = ap one_less zero_is
    where
      zero_is : 0 ≡ m
      zero_is = omega arith
  largest_below (suc n) l = go (ok n) (b n) (largest_below n)
    where
      go : (t : Bool) → t ≡ ltb n m → (m ≤ n → largest ok n ≡ one_less m) → cond t (found n) (largest ok n) ≡ one_less m
      go true e ih = let z : suc n ≡ m = omega (arith, ltb-true n m (sym e)) in ap one_less z
      go false e ih = ih (ltb-false n m (sym e))

  -- none passes that is more than the largest
  pub below_most : (top : ℕ) → ((q : ℕ) → ok q ≡ true → q ≤ top) → m ≤ suc top
  below_most top f = go (ltb (suc top) m) refl
    where
      go : (t : Bool) → ltb (suc top) m ≡ t → m ≤ suc top
      go true e = absurd (omega (arith, f (suc top) (b (suc top) ∙ e)))
      go false e = ltb-false (suc top) m e

  -- what the largest says of each number
  pub up_to : (p : ℕ) → one_less m ≡ found p → (q : ℕ) → ok q ≡ leb q p
  unfolding one_less
  up_to p e q = go m b e
    where
      go : (m : ℕ) → Below ok m → one_less m ≡ found p → ok q ≡ leb q p
      go zero b e = let z : ◌≡◌ {A = ℕ} 0 1 = cc in absurd (omega arith)
      go (suc x) b e = let z : x ≡ p = cc in b q ∙ side z (ltb q (suc x)) refl
        where
          side : x ≡ p → (t : Bool) → ltb q (suc x) ≡ t → t ≡ leb q p
          side z true d = sym (le-leb q p (omega (arith, ltb-true q (suc x) d)))
          side z false d = sym (lt-leb q p (omega (arith, ltb-false q (suc x) d)))

  pub none_at_all : one_less m ≡ nothing → (q : ℕ) → ok q ≡ false
  unfolding one_less
  none_at_all e q = go m b e
    where
      go : (m : ℕ) → Below ok m → one_less m ≡ nothing → ok q ≡ false
      go zero b e = b q ∙ le-ltb q 0 (omega arith)
      go (suc x) b e = let z : ◌≡◌ {A = ℕ} 0 1 = cc in absurd (omega arith)

-- the least cover, where some set of the family is without bid i
module _ (ok : ℕ → Bool) (ps : List ℕ) (i : ℕ) (inside : i < length ps) (s : ℕ) (below : s < 2 ^ length ps)
    (spare : without i ok s ≡ true) where
  abbrev won_at : ℕ → Bool
  won_at q = bit (winners ok (set ps i q)) i

  -- at the price 0 the bid loses, and so at every price,
  pub never_wins : won_at 0 ≡ false → Below won_at 0
  never_wins e q =
      let t = threshold ok ps i inside s below spare in
      let z : vcg_threshold ok ps i ≡ 0 = omega (arith, t.above 0 e) in
      prices_that_win won_at (vcg_threshold ok ps i) t q ∙ ap (λ (θ : ℕ). ltb q (θ + when (won_at θ) 1)) z
      ∙ ap (λ (b : Bool). ltb q (0 + when b 1)) e ∙ le-ltb q (0 + 0) (omega arith) ∙ sym (le-ltb q 0 (omega arith))

  -- or is paid its threshold:
  pub free_pays : won_at 0 ≡ true → vcg_paid ok (set ps i 0) i ≡ vcg_threshold ok ps i
  free_pays e = pays ok ps i inside s below spare 0 ∙ ap (λ (b : Bool). when b (vcg_threshold ok ps i)) e

  -- with c the cents paid at the price 0, the prices that win are those below c, and c itself where it wins
  pub wins_up_to : won_at 0 ≡ true → (c : ℕ) → c ≡ vcg_paid ok (set ps i 0) i → Below won_at (c + when (won_at c) 1)
  wins_up_to e c d q = prices_that_win won_at (vcg_threshold ok ps i) (threshold ok ps i inside s below spare) q
      ∙ ap (λ (θ : ℕ). ltb q (θ + when (won_at θ) 1)) (sym (d ∙ free_pays e))

  -- no price above what the others ask in all wins
  pub threshold_most : vcg_threshold ok ps i ≤ sum (set ps i 0)
  unfolding vcg_threshold margin
  threshold_most = go (first _ (cost (set ps i 0)) (2 ^ length ps))
    where
      go : (f : Found) → margin (cost (set ps i 0) (winners (without i ok) (set ps i 0))) (cost (set ps i 0)) f ≤ sum (set ps i 0)
      go nothing = omega arith
      go (found v) = omega (arith, cost_most (set ps i 0) (winners (without i ok) (set ps i 0)))
