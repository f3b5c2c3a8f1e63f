-- What the two runs at a price of one bid ask of the bids.
use Rattle.std.specs.Prelude.{◌≡◌, List, ℕ, ◌≤◌, ◌<◌, length, get_or}
use Rattle.tender.specs.Limits.{max_entries}
use Rattle.cover.specs.CriticalPrice.{sum}
use Rattle.cover.specs.Intervals.{Order}
use Rattle.single_costs.specs.Across.{most_sum}

-- bids over L cells that can be awarded, i one of them: each a window within the cells, and `order` has them in order of start
pub record Runnable (a b ps order : List ℕ) (L i : ℕ) : Type 0 where
  pub few : length ps ≤ max_entries
  pub starts : length a ≡ length ps
  pub ends : length b ≡ length ps
  pub some : 0 < L
  pub most : L ≤ 10080
  pub windows : (j : ℕ) → j < length ps → (get_or a j 0 ≤ get_or b j 0) × (get_or b j 0 ≤ L)
  pub small : sum ps ≤ most_sum
  pub places : length ps ≤ length order
  pub sorted : Order (length ps) (λ j. get_or a j 0) (λ q. get_or order q 0)
  pub inside : i < length ps
