-- Bids with one run of cells each, as lists of starts, ends and prices: the least sets and costs that the code of the single
-- award computes.
use Rattle.std.specs.Prelude.{◌≡◌, Bool, true, cond, List, ℕ, ◌-◌, ◌≤◌, ◌<◌, length, get_or, eqb}
use Rattle.cover.specs.Sets.{Found, nothing, cost}
use Rattle.cover.specs.LeastCover.{without}
use Rattle.cover.specs.Settled.{spans}
use Rattle.cover.specs.Intervals.{found_cost, raise, least_set, covers_from, Order}

abbrev pub any_bid : ℕ → Bool
any_bid i = true

-- a start and an end for each price, and `order` has the bids in order of start
pub record Bids (a b ps order : List ℕ) : Type 0 where
  pub starts : length ps ≤ length a
  pub ends : length ps ≤ length b
  pub sorted : Order (length ps) (λ i. get_or a i 0) (λ q. get_or order q 0)

-- the sets of the bids below n that cover the cells below t
unfoldable pub covers_below : List ℕ → List ℕ → ℕ → ℕ → ℕ → Bool
unfolding covers_from spans
covers_below a b n = covers_from (λ x. x) 0 (spans a b) n

-- the least of them, and its cost
unfoldable pub least_below : List ℕ → List ℕ → List ℕ → ℕ → Found
unfolding least_set covers_below
least_below a b ps t = least_set (covers_below a b (length ps)) (cost ps) (length ps) t

unfoldable pub cost_below : List ℕ → List ℕ → List ℕ → ℕ → Found
unfolding found_cost least_below
cost_below a b ps t = found_cost (cost ps) (least_below a b ps t)

-- the same without bid k
unfoldable pub others_below : ℕ → List ℕ → List ℕ → ℕ → ℕ → ℕ → Bool
unfolding without covers_below
others_below k a b n t s = without k (covers_below a b n t) s

unfoldable pub cost_without : ℕ → List ℕ → List ℕ → List ℕ → ℕ → Found
unfolding found_cost least_set others_below
cost_without k a b ps t = found_cost (cost ps) (least_set (others_below k a b (length ps)) (cost ps) (length ps) t)

-- bid i and the least cost without bid k before it; nothing for bid k itself
unfoldable pub end_cost : ℕ → List ℕ → List ℕ → List ℕ → ℕ → Found
unfolding raise cost_without
end_cost k a b ps i = cond (eqb i k) nothing (raise (get_or ps i 0) (cost_without k a b ps (get_or a i 0)))

-- the least cost of the cells from the end of bid i up to L
unfoldable pub cost_after : List ℕ → List ℕ → List ℕ → ℕ → ℕ → Found
unfolding found_cost least_set covers_from spans
cost_after a b ps L i = found_cost (cost ps)
    (least_set (covers_from (λ x. x) (get_or b i 0) (spans a b) (length ps)) (cost ps) (length ps) L)

-- x and y are the starts and ends of the bids below n, counted from the end L
pub record Mirrored (a b x y : List ℕ) (L n : ℕ) : Type 0 where
  pub starts : (i : ℕ) → i < n → get_or x i 0 ≡ L - get_or b i 0
  pub ends : (i : ℕ) → i < n → get_or y i 0 ≡ L - get_or a i 0
