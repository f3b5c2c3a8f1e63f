-- For each word the bids that have a cell there, as a chain of nodes in one list. Node t stands at the places 2 t and 2 t + 1: first its
-- bid and, times 1,024, the node that follows, 0 where none does; then the bid's cells in the word. Word q's chain begins after node q;
-- the nodes below 158 are no bid's. Bids that are in no chain are in a set of their own.
use Rattle.std.specs.Prelude.{◌≡◌, ◌⊎◌, List, ℕ, zero, suc, ◌+◌, ◌*◌, ◌/◌, ◌%◌, ◌≤◌, ◌<◌, length}
use Rattle.cells.specs.Cells.{cell}
use Rattle.multi_keys.specs.Keys.{at}
use Rattle.multi_market.specs.Market.{word_row}

abbrev pub bid_at : List ℕ → ℕ → ℕ
bid_at index t = at index (2 * t) % 1024

abbrev pub next_at : List ℕ → ℕ → ℕ
next_at index t = at index (2 * t) / 1024

abbrev pub mask_at : List ℕ → ℕ → ℕ
mask_at index t = at index (2 * t + 1)

-- among the first f nodes from node t on is one of bid i with the cells m
abbrev pub Lists : List ℕ → ℕ → ℕ → ℕ → ℕ → Type 0
Lists index zero t i m = ⊥
Lists index (suc f) t i m = (0 < t) × (((bid_at index t ≡ i) × (mask_at index t ≡ m)) ⊎ Lists index f (next_at index t) i m)

-- the nodes below `top` are laid: a chain goes on to an earlier node, and each node past the first 158 is one of n bids'
pub record Chained (n : ℕ) (index : List ℕ) (top : ℕ) : Type 0 where
  pub heads : 158 ≤ top
  pub room : 2 * top ≤ length index
  pub next : (t : ℕ) → t < top → (next_at index t ≡ 0) ⊎ ((158 ≤ next_at index t) × (next_at index t < top))
  pub earlier : (t : ℕ) → 158 ≤ t → t < top → next_at index t < t
  pub bids : (t : ℕ) → 158 ≤ t → t < top → bid_at index t < n

-- each of n bids that is not in `ever` is in the chain of each word where it has a cell
pub record Indexed (n : ℕ) (ms : List ℕ) (w : ℕ) (index ever : List ℕ) : Type 0 where
  pub top : ℕ
  pub chained : Chained n index top
  pub lists : (i q : ℕ) → i < n → q < w → cell ever i ≡ 0 → (at (word_row ms w i) q ≡ 0 → ⊥)
      → Lists index top (next_at index q) i (at (word_row ms w i) q)
