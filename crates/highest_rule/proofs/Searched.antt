-- Up to which price the highest price of an entry is looked for. Assumes nothing.
use Rattle.std.specs.Prelude.{ℕ, set}
use Rattle.cover.specs.Sets.{cells}
use Rattle.cover.specs.CriticalPrice.{ceiling}
use Rattle.award_check.specs.Auction.{Auction}

abbrev pub searched : Auction → ℕ → ℕ
searched A i = ceiling (set A.prices i 0) (cells A.cells)
