-- A row of words walked by hops: a hop skips words without a cell, or runs over words that have all 64.
use Rattle.std.specs.Prelude.{ℕ, ◌+◌, ◌≤◌, ◌<◌, ◌≡◌, List, length, get_or}
use Rattle.std.specs.Int.Count.{ones}
use Rattle.cells.specs.Cells.{whole, total}

-- from each word of the mask the hop goes on: from a whole word over whole words, from another word over words without a cell
pub record Hops (mask hop : List ℕ) : Type 0 where
  pub same : length hop ≡ length mask
  pub on : (q : ℕ) → q < length mask → q < get_or hop q 0
  pub within : (q : ℕ) → q < length mask → get_or hop q 0 ≤ length mask
  pub run : (q : ℕ) → q < length mask → get_or mask q 0 ≡ whole → (p : ℕ) → q ≤ p → p < get_or hop q 0
      → get_or mask p 0 ≡ whole
  pub gap : (q : ℕ) → q < length mask → (get_or mask q 0 ≡ whole → ⊥) → (p : ℕ) → q < p → p < get_or hop q 0
      → get_or mask p 0 ≡ 0

-- how many cells the words before word q have
unfoldable pub cells_to : List ℕ → ℕ → ℕ
unfolding total
cells_to words q = total (λ p. ones (get_or words p 0)) q

-- the word up to which the cells are counted: the last entry of the sums
abbrev pub counted_to : List ℕ → List ℕ → ℕ
counted_to words counts = get_or counts (length words + 1) 0

-- the sums of the cells before each word, as far as they are counted
pub record Counted (words counts : List ℕ) : Type 0 where
  pub size : length counts ≡ length words + 2
  pub known : counted_to words counts ≤ length words
  pub each : (q : ℕ) → q ≤ counted_to words counts → get_or counts q 0 ≡ cells_to words q

-- the word q of the mask is followed by the word r, and those between have no cell
pub record Onward (mask : List ℕ) (q r : ℕ) : Type 0 where
  pub on : q < r
  pub within : r ≤ length mask
  pub gap : (p : ℕ) → q < p → p < r → get_or mask p 0 ≡ 0
