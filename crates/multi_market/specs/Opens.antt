-- Cells set in a row of words, as the list that the theory's rounds go by.
use Rattle.std.specs.Prelude.{List, [], ℕ, zero, suc, ◌*◌, length, eqb}
use Rattle.cover.specs.Greedy.{keep}
use Rattle.cells.specs.Cells.{cell}

-- the numbers x below n with f x other than 0, the greatest first
unfoldable pub opens : (ℕ → ℕ) → ℕ → List ℕ
unfolding keep
opens f zero = []
opens f (suc n) = keep (eqb (f n) 0) n (opens f n)

-- the cells set in the words
unfoldable pub open_of : List ℕ → List ℕ
unfolding opens cell
open_of held = opens (cell held) (64 * length held)
