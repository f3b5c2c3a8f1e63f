-- The least cover and its VCG payments (paper 01, "Single"): the winners are the covering set of least cost; of two such sets, the one
-- without the latest-entered bid that tells them apart. As numbers that is the least number among the sets of least cost.
-- Nothing here asks what the family `ok` of sets is: in an award it is the sets that cover.
use Rattle.std.specs.Prelude.{◌≡◌, Bool, true, false, not, ◌&&◌, List, ℕ, zero, suc, ◌-◌, ◌^◌, ◌≤◌, ◌<◌}
use Rattle.std.specs.Prelude.{length, get_or, set, ltb}
use Rattle.cover.specs.Sets.{Found, nothing, found, value_of, bit, cost}

-- n where it passes and is better than what was found before
unfoldable pub choose : Bool → Bool → Found → ℕ → Found
choose false better r n = r
choose true false r n = r
choose true true r n = found n

unfoldable pub dearer : (ℕ → ℕ) → ℕ → Found → Bool
dearer price s nothing = true
dearer price s (found b) = ltb (price s) (price b)

-- the first of the numbers below n that passes and costs least
unfoldable pub first : (ℕ → Bool) → (ℕ → ℕ) → ℕ → Found
unfolding choose dearer
first ok price zero = nothing
first ok price (suc n) = let r = first ok price n in choose (ok n) (dearer price n r) r n

-- what it is: of the numbers below n that pass, b costs least and is the earliest to do so
pub record Wins (ok : ℕ → Bool) (price : ℕ → ℕ) (n b : ℕ) : Type 0 where
  pub inside : b < n
  pub good : ok b ≡ true
  pub least : (s : ℕ) → s < n → ok s ≡ true → price b ≤ price s
  pub earliest : (s : ℕ) → s < n → ok s ≡ true → price s ≡ price b → b ≤ s

-- the tie rule in the paper's words: at the latest-entered bid that is in one of the sets s and t and not in the other, s is without it
pub record Stands (s t : ℕ) : Type 0 where
  pub at : ℕ
  pub lacks : bit s at ≡ false
  pub takes : bit t at ≡ true
  pub later : (j : ℕ) → at < j → bit s j ≡ bit t j

-- the winners among the sets of the family
unfoldable pub winners : (ℕ → Bool) → List ℕ → ℕ
unfolding first cost value_of
winners ok ps = value_of (first ok (cost ps) (2 ^ length ps))

-- the sets of the family without bid i
unfoldable pub without : ℕ → (ℕ → Bool) → ℕ → Bool
unfolding bit
without i ok s = ok s && not (bit s i)

-- document 000, formula 8: the least cost without this bid, less the winners' cost, plus the winner's own price
unfoldable pub payment : Bool → ℕ → ℕ → ℕ → ℕ
payment false least all price = 0
payment true least all price = least - (all - price)

-- what bid i is paid
unfoldable pub vcg_paid : (ℕ → Bool) → List ℕ → ℕ → ℕ
unfolding winners without payment
vcg_paid ok ps i =
    let m = winners ok ps in
    payment (bit m i) (cost ps (winners (without i ok) ps)) (cost ps m) (get_or ps i 0)

unfoldable pub margin : ℕ → (ℕ → ℕ) → Found → ℕ
margin least price nothing = 0
margin least price (found s) = least - price s

-- the threshold of bid i, which does not turn on its price: the least cost without it, less what the others cost in the best set with it;
-- 0 where no set of the family has it
unfoldable pub vcg_threshold : (ℕ → Bool) → List ℕ → ℕ → ℕ
unfolding winners without first margin
vcg_threshold ok ps i =
    let free = set ps i 0 in
    margin (cost free (winners (without i ok) free)) (cost free) (first (λ s. ok s && bit s i) (cost free) (2 ^ length ps))
