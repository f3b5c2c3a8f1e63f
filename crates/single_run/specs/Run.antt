-- The least costs without bid k, over the bids in order of start: what the records of the run say. k is no bid's number where
-- none is left out.
use Rattle.std.specs.Prelude.{◌≡◌, cond, List, ℕ, ◌≤◌, ◌<◌, eqb, length, get_or}
use Rattle.cover.specs.Intervals.Bids.{cost_without, end_cost}
use Rattle.single_lead.specs.Costs.{no_cost, cost_in, plus_price}
use Rattle.single_lead.specs.Live.{On, Live}
use Rattle.single_lead.specs.Lead.{Leading, Ready}

-- the cost that bid i gets, where c comes before it: none for bid k
unfoldable pub entry : ℕ → ℕ → ℕ → ℕ → ℕ
unfolding plus_price
entry i k c p = cond (eqb i k) no_cost (plus_price c p)

-- the bids at the positions from `from` to q have their costs, and so have those that reach; bid r leads, and c is the least cost
pub record Running (k : ℕ) (a b ps order costs live : List ℕ) (from q m r c end stop : ℕ) : Type 0 where
  pub at : ℕ
  pub low : at ≤ stop
  pub lead : Leading (cost_without k a b ps) (cost_in c) a b ps order live at q m r c end
  pub values : (i : ℕ) → On live m i → cost_in (get_or costs i 0) ≡ end_cost k a b ps i
  pub done : (j : ℕ) → from ≤ j → j < q → cost_in (get_or costs (get_or order j 0) 0) ≡ end_cost k a b ps (get_or order j 0)
  pub guard : get_or costs (length ps) 0 ≡ no_cost

-- the lead for the cells below t, and the list as it then is
pub record ReadyCost (k : ℕ) (a b ps order costs live : List ℕ) (q t m r c end : ℕ) : Type 0 where
  pub least : Ready (cost_without k a b ps) (cost_in c) a b ps order live q t m r c end
  pub values : (i : ℕ) → On live m i → cost_in (get_or costs i 0) ≡ end_cost k a b ps i

-- the run has come to the last bid that begins before `stop`
pub record Ran (k : ℕ) (a b ps order costs live : List ℕ) (from stop m : ℕ) : Type 0 where
  pub pos : ℕ
  pub fit : pos ≤ length ps
  pub at : ℕ
  pub low : at ≤ stop
  pub reach : Live order b live pos m at
  pub values : (i : ℕ) → On live m i → cost_in (get_or costs i 0) ≡ end_cost k a b ps i
  pub done : (j : ℕ) → from ≤ j → j < pos → cost_in (get_or costs (get_or order j 0) 0) ≡ end_cost k a b ps (get_or order j 0)
  pub all : (i : ℕ) → i < length ps → get_or a i 0 < stop → On order pos i
