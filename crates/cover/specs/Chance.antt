-- When the run without bid k leaves it a chance: as a test, and in words.
use Rattle.std.specs.Prelude.{◌≡◌, ◌⊎◌, Bool, ◌&&◌, ◌||◌, List, ℕ, ◌+◌, ◌*◌, ◌≤◌, ◌<◌, leb, ltb}
use Rattle.cover.specs.Greedy.{Entry, reach, Rounds, stop, round}
use Rattle.cover.specs.CriticalPrice.{late}

-- bid k, at the price p and with the cells h, is taken before bid i, which is c, where the cells O are open
unfoldable pub ahead : ℕ → ℕ → (ℕ → Bool) → ℕ → Entry → List ℕ → Bool
unfolding reach late
ahead k p h i c O = ltb 0 (reach h O) && leb (p * reach c.has O + late k i) (c.price * reach h O)

-- so in some round, or it reaches a cell that stays open
unfoldable pub chance : ℕ → ℕ → (ℕ → Bool) → Rounds → Bool
unfolding ahead
chance k p h (stop O) = ltb 0 (reach h O)
chance k p h (round i c O t) = ahead k p h i c O || chance k p h t

-- the price p for r cells is less than the price q for m cells, or the same, and k entered first
abbrev pub Cheaper : ℕ → ℕ → ℕ → ℕ → ℕ → ℕ → Type 0
Cheaper k p r i q m = (p * m < q * r) ⊎ ((p * m ≡ q * r) × (k ≤ i))

-- in some round bid k would have been taken before bid i, or it reaches a cell that stays open
abbrev pub Chance : ℕ → ℕ → (ℕ → Bool) → Rounds → Type 0
Chance k p h (stop O) = 0 < reach h O
Chance k p h (round i c O t) = ((0 < reach h O) × Cheaper k p (reach h O) i c.price (reach c.has O)) ⊎ Chance k p h t
