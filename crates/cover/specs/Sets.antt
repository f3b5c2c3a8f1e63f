-- Sets of bids over cells: which cells a set covers and what it costs (paper 01, "Who wins and what is paid").
-- There are L cells, numbered from 0, and bids in entry order: `has i x` says that bid i has the cell x, and `ps` are the prices.
-- A set of n bids is a number below 2 ^ n, bid i its bit i.
use Rattle.std.specs.Prelude.{Bool, true, false, ◌&&◌, ◌||◌, List, [], ◌∷◌, ℕ, zero, suc, ◌+◌, ◌/◌, ◌%◌, eqb}
use Rattle.std.specs.Prelude.{leb}

-- p where the condition holds, and 0 elsewhere
abbrev pub when : Bool → ℕ → ℕ
when true p = p
when false p = 0

-- what a search finds: a set, a bid or a cost, or nothing
pub data Found : Type 0 where
  nothing : Found
  found : ℕ → Found

-- the number found, 0 where there is none
unfoldable pub value_of : Found → ℕ
value_of nothing = 0
value_of (found s) = s

-- P holds of every number below n
unfoldable pub all : ℕ → (ℕ → Bool) → Bool
all zero P = true
all (suc n) P = P n && all n P

-- bid i is in the set s
unfoldable pub bit : ℕ → ℕ → Bool
bit s zero = eqb (s % 2) 1
bit s (suc i) = bit (s / 2) i

-- some bid of the set s, of bids below n, has the cell x
unfoldable pub hit : (ℕ → ℕ → Bool) → ℕ → ℕ → ℕ → Bool
unfolding bit
hit has zero s x = false
hit has (suc n) s x = bit s n && has n x || hit has n s x

-- a set of bids covers when every cell is in one of its members
unfoldable pub covers : (ℕ → ℕ → Bool) → ℕ → ℕ → ℕ → Bool
unfolding all hit
covers has n L s = all L (hit has n s)

-- its cost is the sum of its prices
unfoldable pub cost : List ℕ → ℕ → ℕ
unfolding bit
cost [] s = 0
cost (p ∷ ps) s = when (bit s 0) p + cost ps (s / 2)

-- the L cells, all of them
unfoldable pub cells : ℕ → List ℕ
cells zero = []
cells (suc L) = L ∷ cells L

-- how many of the bids below n have the cell x
unfoldable pub bidders : (ℕ → ℕ → Bool) → ℕ → ℕ → ℕ
bidders has zero x = 0
bidders has (suc n) x = when (has n x) 1 + bidders has n x

-- each of the L cells has m bidders at least
unfoldable pub each : (ℕ → ℕ → Bool) → ℕ → ℕ → ℕ → Bool
unfolding bidders all
each has n L m = all L (λ x. leb m (bidders has n x))
