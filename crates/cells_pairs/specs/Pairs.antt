-- Cells as pairs of a word and a mask, one pair after the other in a list: pair p is the number of a word at place 2 p, and some of that
-- word's cells after it.
use Rattle.std.specs.Prelude.{◌≡◌, Bool, true, false, ◌&&◌, ◌||◌, List, ℕ, zero, suc, ◌+◌, ◌-◌, ◌*◌, ◌/◌}
use Rattle.std.specs.Prelude.{◌%◌, ◌≤◌, ◌<◌, length, get_or, eqb}
use Rattle.cover.specs.Sets.{when}
use Rattle.cells.specs.Cells.{bit_of, cell, common}

-- pair p has the cell x
unfoldable pub in_pair : List ℕ → ℕ → ℕ → Bool
in_pair pairs p x = eqb (get_or pairs (2 * p) 0) (x / 64) && eqb (bit_of (get_or pairs (2 * p + 1) 0) (x % 64)) 1

-- one of the n pairs from a on has the cell x
unfoldable pub in_pairs : List ℕ → ℕ → ℕ → ℕ → Bool
unfolding in_pair
in_pairs pairs a zero x = false
in_pairs pairs a (suc n) x = in_pairs pairs a n x || in_pair pairs (a + n) x

-- the pairs a up to z are there, each of one of w words
pub record Paired (pairs : List ℕ) (w a z : ℕ) : Type 0 where
  pub rising : a ≤ z
  pub room : 2 * z ≤ length pairs
  pub words : (p : ℕ) → a ≤ p → p < z → get_or pairs (2 * p) 0 < w

-- the pairs a up to z of `new` are the cells that `held` and `mask` have in common, and what stands before them is as it was
pub record Cut (held mask old new : List ℕ) (a z : ℕ) : Type 0 where
  pub paired : Paired new (length held) a z
  pub few : z ≤ a + common held mask
  pub kept : (p : ℕ) → p < 2 * a → get_or new p 0 ≡ get_or old p 0
  pub cells : (x : ℕ) → in_pairs new a (z - a) x ≡ (eqb (cell held x) 1 && eqb (cell mask x) 1)

-- a cell of the pairs a up to z that is not held
pub record Unheld (held pairs : List ℕ) (a z : ℕ) : Type 0 where
  pub where_it_is : ℕ
  pub paired_there : in_pairs pairs a (z - a) where_it_is ≡ true
  pub closed_there : cell held where_it_is ≡ 0

-- whether all cells of the pairs a up to z are held
pub record Covering (held pairs : List ℕ) (a z : ℕ) (all : Bool) : Type 0 where
  pub yes : all ≡ true → (x : ℕ) → in_pairs pairs a (z - a) x ≡ true → cell held x ≡ 1
  pub no : all ≡ false → Unheld held pairs a z

-- `new` is `old` with the cells of h cleared: 1 - 1 and 0 - 1 are 0
pub record Shut (old : List ℕ) (h : ℕ → Bool) (new : List ℕ) : Type 0 where
  pub clears : (x : ℕ) → cell new x ≡ cell old x - when (h x) 1
