-- The bid that leads: the lightest of the bids that reach, found by a scan of them, and the best for the cells below each t up
-- to its end.
use Rattle.std.specs.Prelude.{◌≡◌, cond, List, ℕ, ◌≤◌, ◌<◌, eqb, length, get_or}
use Rattle.cover.specs.Sets.{Found}
use Rattle.cover.specs.Intervals.{scan, scan_cost, reaches}
use Rattle.cover.specs.Intervals.Bids.{any_bid}
use Rattle.single_lead.specs.Costs.{no_cost, cost_in}
use Rattle.single_lead.specs.Rows.{weight, Honest}
use Rattle.single_lead.specs.Live.{On, Thinned, Live}

-- the least cost at the places below j of xs whose bids reach t
unfoldable pub lead_cost : List ℕ → List ℕ → List ℕ → List ℕ → ℕ → ℕ → Found
unfolding scan_cost reaches cost_in
lead_cost a b xs costs t j = scan_cost (reaches (λ i. get_or a i 0) (λ i. get_or b i 0) any_bid (λ q. get_or xs q 0) t)
    (λ q. cost_in (get_or costs (get_or xs q 0) 0)) j

-- and the least weight
unfoldable pub least_weight : (ℕ → ℕ) → ℕ → List ℕ → List ℕ → List ℕ → List ℕ → List ℕ
    → ℕ → ℕ → Found
unfolding scan reaches weight
least_weight cost w a b xs costs sets t j = scan cost (reaches (λ i. get_or a i 0) (λ i. get_or b i 0) any_bid (λ q. get_or xs q 0) t)
    (λ q. weight w costs sets (get_or xs q 0)) j

-- a bid of the list that reaches t
pub record Reaches (a b xs : List ℕ) (j t r : ℕ) : Type 0 where
  pub at : On xs j r
  pub begins : get_or a r 0 < t
  pub ends : t ≤ get_or b r 0

-- what the scan of the places below j has found: bid r, or n for none. Its cost is the least, and its weight is where the
-- weights of the list are honest
pub record Seen (w : ℕ) (a b xs costs sets : List ℕ) (n t j r : ℕ) : Type 0 where
  pub within : r ≤ n
  pub found_at : (r ≡ n → ⊥) → Reaches a b xs j t r
  pub priced : get_or costs r 0 ≡ no_cost → r ≡ n
  pub cheapest : cost_in (get_or costs r 0) ≡ lead_cost a b xs costs t j
  pub lightest : (cost : ℕ → ℕ) → ((q : ℕ) → q < j → Honest cost w costs sets (get_or xs q 0))
      → Honest cost w costs sets r × (weight w costs sets r ≡ least_weight cost w a b xs costs sets t j)

-- where the lead of bid r ends: nowhere for none
unfoldable pub end_of : List ℕ → ℕ → ℕ → ℕ
end_of b n r = cond (eqb r n) 0 (get_or b r 0)

-- a new lead at t: the list thinned out, and what the scan of it found
pub record Renewed (w : ℕ) (a b old live costs sets : List ℕ) (n t m r c end len : ℕ) : Type 0 where
  pub thinned : Thinned b old live t m len
  pub seen : Seen w a b old costs sets n t m r
  pub cost_is : c ≡ get_or costs r 0
  pub end_is : end ≡ end_of b n r

-- the lead of before, where it lasts up to t, or a new one
pub data Led (w : ℕ) (a b old live costs sets : List ℕ) (n t r c end m r' c' end' m' : ℕ) : Type 0 where
  same : t ≤ end → r' ≡ r → c' ≡ c → end' ≡ end → m' ≡ m → live ≡ old
      → Led w a b old live costs sets n t r c end m r' c' end' m'
  anew : end < t → Renewed w a b old live costs sets n t m r' c' end' m'
      → Led w a b old live costs sets n t r c end m r' c' end' m'

-- bid r, of cost c, is worth `mine`: the best for the cells below t, from t = at up to t = end. The list is known from `at` on
pub record Leading (best : ℕ → Found) (mine : Found) (a b ps order live : List ℕ) (at k m r c end : ℕ) : Type 0 where
  pub early : (q : ℕ) → k ≤ q → q < length ps → at ≤ get_or a (get_or order q 0) 0
  pub reach : Live order b live k m at
  pub within : r ≤ length ps
  pub past : (r ≡ length ps → ⊥) → get_or a r 0 < at
  pub none : c ≡ no_cost → r ≡ length ps
  pub lasts : (t : ℕ) → at ≤ t → t ≤ end → mine ≡ best t

-- and it is the best for the cells below t
pub record Ready (best : ℕ → Found) (mine : Found) (a b ps order live : List ℕ) (k t m r c end : ℕ) : Type 0 where
  pub at : ℕ
  pub low : at ≤ t
  pub lead : Leading best mine a b ps order live at k m r c end
  pub now : mine ≡ best t
