-- The run without bid k, as far as it has come.
use Rattle.std.specs.Prelude.{◌≡◌, Bool, List, ℕ, ◌≤◌, ◌<◌, max, length}
use Rattle.cover.specs.Sets.{cells}
use Rattle.cover.specs.Greedy.{reach}
use Rattle.cover.specs.CriticalPrice.{limit}
use Rattle.multi_keys.specs.Keys.{at, out}
use Rattle.multi_market.specs.Opens.{open_of}
use Rattle.multi_market.specs.Seats.{key_at, Seats}
use Rattle.multi_limit.specs.Follow.{bar_from}

-- the cells held are open, and k is out; k has `mine` of them, and `top` is the maximum over the rounds so far
pub record Rounding (has : ℕ → ℕ → Bool) (ps : List ℕ) (n k : ℕ) (held keys : List ℕ) (mine top : ℕ) : Type 0 where
  pub inside : k < length ps
  pub seats : Seats has ps held keys
  pub skip : at keys k ≡ out
  pub bound : (i : ℕ) → i < length ps → (i ≡ k → ⊥) → at keys i ≤ key_at has ps held i
  pub own : mine ≡ reach (has k) (open_of held)
  pub few : mine ≤ 10112
  pub highest : limit has ps (cells n) k ≡ max top (bar_from has ps k (open_of held))
  pub small : top ≤ 1011200000001

-- r is the price below which bid k would win
pub record LimitIs (has : ℕ → ℕ → Bool) (ps : List ℕ) (n k r : ℕ) : Type 0 where
  pub is : r ≡ limit has ps (cells n) k
  pub small : r ≤ 1011200000001
