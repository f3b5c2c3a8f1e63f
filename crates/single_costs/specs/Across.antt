-- The least cost without bid k: the bids that begin in its cells once more, and a scan across its end.
use Rattle.std.specs.Prelude.{◌≡◌, cond, ◌&&◌, List, ℕ, ◌+◌, ◌-◌, ◌≤◌, ◌<◌, ltb, leb, eqb, length, get_or}
use Rattle.cover.specs.Sets.{Found}
use Rattle.cover.specs.Intervals.{scan_cost, reaches, raise}
use Rattle.cover.specs.Intervals.Bids.{any_bid, cost_below, cost_after}
use Rattle.single_lead.specs.Costs.{no_cost, cost_in}
use Rattle.single_lead.specs.Live.{Thinned, Live}

-- the prices sum to no more
abbrev pub most_sum : ℕ
most_sum = 1000000000000

-- x is a cost with what comes before, y one with what comes after: both have the price p
unfoldable pub joined_cost : ℕ → ℕ → ℕ → ℕ
joined_cost x y p = cond (eqb x no_cost) no_cost (cond (eqb y no_cost) no_cost (x + (y - p)))

-- r, or x where the cells from s to e reach t and x is less
unfoldable pub less_of : ℕ → ℕ → ℕ → ℕ → ℕ → ℕ
less_of s e t x r = cond (ltb s t && leb t e) (cond (ltb x r) x r) r

-- the cost across the bid at place j of xs
abbrev pub join_at : List ℕ → List ℕ → List ℕ → List ℕ → ℕ → ℕ
join_at ps xs costs after j = joined_cost (get_or costs (get_or xs j 0) 0) (get_or after (get_or xs j 0) 0) (get_or ps (get_or xs j 0) 0)

-- the least of them at the places below j whose bids reach t
unfoldable pub least_across : List ℕ → List ℕ → List ℕ → List ℕ → List ℕ → List ℕ → ℕ → ℕ → Found
unfolding scan_cost reaches cost_in
least_across a b ps xs costs after t j = scan_cost (reaches (λ i. get_or a i 0) (λ i. get_or b i 0) any_bid (λ q. get_or xs q 0) t)
    (λ q. cost_in (join_at ps xs costs after q)) j

-- each bid's cost with what comes before it, and with what comes after it
abbrev pub Before : List ℕ → List ℕ → List ℕ → List ℕ → Type 0
Before a b ps before = (i : ℕ) → i < length ps
    → cost_in (get_or before i 0) ≡ raise (get_or ps i 0) (cost_below a b ps (get_or a i 0))

abbrev pub After : List ℕ → List ℕ → List ℕ → ℕ → List ℕ → Type 0
After a b ps L after = (i : ℕ) → i < length ps → cost_in (get_or after i 0) ≡ raise (get_or ps i 0) (cost_after a b ps L i)

-- the bids at the positions below q that still reach the starts to come
pub record Waiting (a b ps order live : List ℕ) (q m : ℕ) : Type 0 where
  pub at : ℕ
  pub early : (j : ℕ) → q ≤ j → j < length ps → at ≤ get_or a (get_or order j 0) 0
  pub reach : Live order b live q m at

-- the list thinned out for t and copied, with the costs of its bids
pub record BegunAt (b old live before xs costs : List ℕ) (t m len : ℕ) : Type 0 where
  pub thinned : Thinned b old live t m len
  pub copied : (j : ℕ) → j < len → get_or xs j 0 ≡ get_or live j 0
  pub priced : (j : ℕ) → j < m → get_or costs (get_or old j 0) 0 ≡ get_or before (get_or old j 0) 0
