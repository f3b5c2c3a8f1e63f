-- In an auction whose entries but one have every cell, the prices with which that one would win are those up to the highest, whatever the
-- price; a winner's highest is its payment by the greedy rule, and by least cost its payment or one cent less, as the tie falls; a loser's
-- is below the price that it named. Assumes nothing.
use Rattle.cover.specs.Spare.{Spare}
use Rattle.std.specs.Prelude.{◌≡◌, ◌⊎◌, Bool, true, false, List, get_or, set, ltb, leb}
use Rattle.std.proofs.Math.Path.{refl, ap}
use Rattle.std.proofs.Common.{sym, ◌∙◌, inl, inr, true≢false, length-set}
use Prim.Native.Nat.{ℕ, zero, suc, ◌+◌, ◌*◌, ◌≤◌, ◌<◌}
use Rattle.std.proofs.Math.Nat.{mul-le-mul_left}
use native.Mathlib.Omega.{arith}
use Rattle.std.proofs.Math.ListN.{length}
use borrow.Author.Tests.{ltb-true, leb-false}
use Rattle.cover.specs.Sets.{when, Found, nothing, found, value_of, bit, cells}
use Rattle.cover.specs.LeastCover.{winners, without, vcg_paid, vcg_threshold}
use Rattle.cover.specs.CriticalPrice.{sum, ceiling, wins_at, critical, critical_paid, limit}
use Rattle.cover.specs.Winning.{Below, one_less}
use Rattle.cover.proofs.ThresholdLaws.{prices_that_win}
use Rattle.cover.proofs.WinningLaws.{largest_below, below_most, up_to, none_at_all, threshold_most}
use Rattle.cover.proofs.VcgLaws as vcg
use Rattle.cover.proofs.CriticalLaws as critical-laws
use Rattle.cover.proofs.SpareLaws.{others, others_below, spare_set, spare_bids}
use Rattle.award_check.specs.Auction.{Auction, at_price}
use Rattle.award_check.proofs.AuctionLaws.{at_own_price}
use Rattle.award_rule.specs.Award.{Rule, least_cost, greedy, covers_in, won, cents}
use Rattle.award_rule.proofs.AwardLaws.{won_least, cents_least, won_greedy}
use Rattle.highest_rule.specs.Highest.{highest}
use Rattle.highest_rule.proofs.Searched.{searched}

some_length : (L : ℕ) → 0 < L → 1 ≤ length (cells L)
unfolding cells
some_length zero l = absurd (omega arith)
some_length (suc L) l = omega arith

-- the largest is found, or nothing is
none_or : (f : Found) → (f ≡ nothing) ⊎ (f ≡ found (value_of f))
unfolding value_of
none_or nothing = inl refl
none_or (found p) = inr refl

module _ (A : Auction) (i : ℕ) (inside : i < length A.prices) (y : Spare A.has (length A.prices) A.cells i)
    (some_cell : 0 < A.cells) where
  abbrev ps : List ℕ
  ps = A.prices

  abbrev ok : ℕ → Bool
  ok = covers_in A

  abbrev won_at : Rule → ℕ → Bool
  won_at r q = won r (at_price i q A) i

  abbrev rest : ℕ
  rest = others (length ps) i

  spare : without i ok rest ≡ true
  spare = spare_set A.has (length ps) A.cells i y inside

  least_at : (q : ℕ) → won_at least_cost q ≡ bit (winners ok (set ps i q)) i
  unfolding at_price
  least_at q = won_least (at_price i q A) i (length ps) (length-set ps i q)

  greedy_at : (q : ℕ) → won_at greedy q ≡ wins_at A.has ps (cells A.cells) i q
  unfolding at_price wins_at
  greedy_at q = won_greedy (at_price i q A) i

  -- what the prices that win are below
  abbrev pub bound : Rule → ℕ
  bound least_cost = vcg_threshold ok ps i + when (won_at least_cost (vcg_threshold ok ps i)) 1
  bound greedy = limit A.has ps (cells A.cells) i

  pub wins_below : (r : Rule) → Below (won_at r) (bound r)
  wins_below least_cost q = least_at q
      ∙ prices_that_win (λ p. bit (winners ok (set ps i p)) i) (vcg_threshold ok ps i)
      (vcg.threshold ok ps i inside rest (others_below (length ps) i) spare) q
      ∙ ap (λ (b : Bool). ltb q (vcg_threshold ok ps i + when b 1)) (sym (least_at (vcg_threshold ok ps i)))
  wins_below greedy q = greedy_at q
      ∙ critical-laws.wins_under A.has ps (cells A.cells) i inside (spare_bids A.has (length ps) A.cells i y ps) q

  -- no price from the ceiling on wins
  within_ceiling : (r : Rule) (q : ℕ) → won_at r q ≡ true → q < ceiling (set ps i 0) (cells A.cells)
  unfolding ceiling
  within_ceiling least_cost q e =
      let t = vcg.threshold ok ps i inside rest (others_below (length ps) i) spare in
      omega (
        arith,
        t.below q (sym (least_at q) ∙ e),
        threshold_most ok ps i inside rest (others_below (length ps) i) spare,
        mul-le-mul_left (sum (set ps i 0)) (some_length A.cells some_cell),
      )
  within_ceiling greedy q e = omega (
    arith,
    ltb-true q (bound greedy) (sym (wins_below greedy q) ∙ e),
    critical-laws.limit_most A.has ps (cells A.cells) i,
  )

  -- the highest is the largest of the prices below m, where these win and no other
  pub highest_below : (r : Rule) (m : ℕ) → Below (won_at r) m → highest r A i ≡ one_less m
  unfolding highest ceiling
  highest_below r m b = largest_below (won_at r) m b (searched A i)
      (below_most (won_at r) m b (sum (set ps i 0) * length (cells A.cells)) (λ q e. omega (arith, within_ceiling r q e)))

  highest_bound : (r : Rule) → highest r A i ≡ one_less (bound r)
  highest_bound r = highest_below r (bound r) (wins_below r)

  -- at the highest and below the entry wins, above it loses,
  pub wins_up_to : (r : Rule) (p : ℕ) → highest r A i ≡ found p → (q : ℕ) → won_at r q ≡ leb q p
  wins_up_to r p e = up_to (won_at r) (bound r) (wins_below r) p (sym (highest_bound r) ∙ e)

  -- and where there is none it wins with no price
  pub wins_never : (r : Rule) → highest r A i ≡ nothing → (q : ℕ) → won_at r q ≡ false
  wins_never r e = none_at_all (won_at r) (bound r) (wins_below r) (sym (highest_bound r) ∙ e)

  at_own : (r : Rule) → won_at r (get_or ps i 0) ≡ won r A i
  at_own r = ap (λ B. won r B i) (at_own_price i A)

  -- a winner has a highest price
  pub winner_found : (r : Rule) → won r A i ≡ true → highest r A i ≡ found (value_of (highest r A i))
  winner_found r e = go (none_or (highest r A i))
    where
      go : (highest r A i ≡ nothing) ⊎ (highest r A i ≡ found (value_of (highest r A i)))
          → highest r A i ≡ found (value_of (highest r A i))
      go (inl f) = absurd (true≢false (sym e ∙ sym (at_own r) ∙ wins_never r f (get_or ps i 0)))
      go (inr f) = f

  -- which is its payment by the greedy rule,
  pub greedy_winner : won greedy A i ≡ true → highest greedy A i ≡ found (cents greedy A i)
  unfolding highest cents critical_paid critical won wins_at at_price
  greedy_winner e = winner_found greedy e ∙ ap found (rw e refl)

  -- and by least cost its payment where it would win at that price, else one cent less
  pub least_winner : won least_cost A i ≡ true → (p : ℕ) → highest least_cost A i ≡ found p
      → p + 1 ≡ cents least_cost A i + when (won_at least_cost (cents least_cost A i)) 1
  unfolding one_less at_price
  least_winner e p f = rw paid (go (bound least_cost) refl (sym (highest_bound least_cost) ∙ f))
    where
      θ : ℕ
      θ = vcg_threshold ok ps i

      paid : cents least_cost A i ≡ θ
      paid = sym (ap (λ B. cents least_cost B i) (at_own_price i A))
          ∙ cents_at (get_or ps i 0)
          ∙ vcg.pays ok ps i inside rest (others_below (length ps) i) spare (get_or ps i 0)
          ∙ ap (λ (b : Bool). when b θ) (sym (least_at (get_or ps i 0)) ∙ at_own least_cost ∙ e)
        where
          cents_at : (q : ℕ) → cents least_cost (at_price i q A) i ≡ vcg_paid ok (set ps i q) i
          cents_at q = cents_least (at_price i q A) i (length ps) (length-set ps i q)

      go : (m : ℕ) → bound least_cost ≡ m → one_less m ≡ found p → p + 1 ≡ θ + when (won_at least_cost θ) 1
      go zero d z = let z : ◌≡◌ {A = ℕ} 0 1 = cc in absurd (omega arith)
      go (suc m) d z = let z : m ≡ p = cc in omega (arith, d)

  -- a loser's is below the price that it named
  pub loser_below : (r : Rule) → won r A i ≡ false → (p : ℕ) → highest r A i ≡ found p → p < get_or ps i 0
  loser_below r e p f = leb-false (get_or ps i 0) p (sym (wins_up_to r p f (get_or ps i 0)) ∙ at_own r ∙ e)
