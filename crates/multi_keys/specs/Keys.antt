-- A bid's price for each cell and its place of entry as one number, so that the numbers of bids compare as the bids do: the price for
-- each cell in parts of 2²⁷, which tell any two fractions over 10,112 cells apart, and then the place.
use Rattle.std.specs.Prelude.{cond, List, ℕ, ◌+◌, ◌*◌, ◌/◌, get_or, eqb}

abbrev pub at : List ℕ → ℕ → ℕ
at xs i = get_or xs i 0

-- above every key: of a bid without an open cell, or out
abbrev pub out : ℕ
out = 18446744073709551614

-- above the key of every bid with an open cell, and below `out`
abbrev pub last : ℕ
last = 18446744073709551613

-- the key of bid i, which asks p for r cells
unfoldable pub key_of : ℕ → ℕ → ℕ → ℕ
key_of p r i = cond (eqb r 0) out (p * 134217728 / r * 1024 + i)
