-- The bids get their weights in order of start: what the records of the selection say.
use Rattle.std.specs.Prelude.{◌≡◌, List, ◌++◌, ℕ, ◌≤◌, ◌<◌, length, get_or, drop}
use Rattle.cover.specs.Sets.{value_of, bit, cost, covers, when}
use Rattle.cover.specs.LeastCover.{winners}
use Rattle.cover.specs.Settled.{spans, listed}
use Rattle.cover.specs.Intervals.{plus, found_cost, raise}
use Rattle.cover.specs.Intervals.Bids.{least_below, cost_below}
use Rattle.single_lead.specs.Costs.{no_cost, cost_in}
use Rattle.single_lead.specs.Rows.{set_in, weigh, weight, Honest}
use Rattle.single_lead.specs.Lead.{Leading, Ready}

-- bid i has its weight
pub record Done (a b ps costs sets : List ℕ) (i : ℕ) : Type 0 where
  pub is : weight 16 costs sets i ≡ plus i (least_below a b ps (get_or a i 0))
  pub honest : Honest (cost ps) 16 costs sets i

-- the bids at the positions below k are done; row r, of cost c, leads and is the least set
pub record Weighing (a b ps order costs sets live : List ℕ) (k m r c end : ℕ) : Type 0 where
  pub at : ℕ
  pub low : (t : ℕ) → ((i : ℕ) → i < length ps → get_or a i 0 ≤ t) → at ≤ t
  pub lead : Leading (least_below a b ps) (weigh c (set_in 16 sets r)) a b ps order live at k m r c end
  pub honest : cost_in c ≡ found_cost (cost ps) (weigh c (set_in 16 sets r))
  pub done : (q : ℕ) → q < k → Done a b ps costs sets (get_or order q 0)
  pub guard : get_or costs (length ps) 0 ≡ no_cost
  pub empty : set_in 16 sets (length ps) ≡ 0

-- the lead for the cells below t: row r is the least set, of cost c
pub record ReadyRow (a b ps order sets live : List ℕ) (k t m r c end : ℕ) : Type 0 where
  pub least : Ready (least_below a b ps) (weigh c (set_in 16 sets r)) a b ps order live k t m r c end
  pub honest : cost_in c ≡ found_cost (cost ps) (weigh c (set_in 16 sets r))

-- every bid has its weight, and the set in row r, of cost c, is the least of all
pub record Weighed (a b ps costs sets : List ℕ) (L r c : ℕ) : Type 0 where
  pub within : r ≤ length ps
  pub wins : set_in 16 sets r ≡ winners (covers (spans a b) (length ps) L) ps
  pub all : value_of (cost_in c) ≡ cost ps (winners (covers (spans a b) (length ps) L) ps)
  pub costs_are : (i : ℕ) → i < length ps → cost_in (get_or costs i 0) ≡ raise (get_or ps i 0) (cost_below a b ps (get_or a i 0))

-- what the selection leaves: a flag for each bid, the cost of each bid with what comes before it, and the winners' cost
pub record Selected (a b ps costs old_won new_won : List ℕ) (L all : ℕ) : Type 0 where
  pub flags : new_won ≡ listed (length ps) (λ i. when (bit (winners (covers (spans a b) (length ps) L) ps) i) 1)
      ++ drop (length ps) old_won
  pub costs_are : (i : ℕ) → i < length ps → cost_in (get_or costs i 0) ≡ raise (get_or ps i 0) (cost_below a b ps (get_or a i 0))
  pub all_is : all ≡ cost ps (winners (covers (spans a b) (length ps) L) ps)
