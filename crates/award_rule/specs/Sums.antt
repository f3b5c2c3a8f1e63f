-- The totals that flags and cents say: what the winners ask, over all entries, what the first of them, the owners,
-- are paid, and whether the entry after the owners' is among the winners.
use Rattle.std.specs.Prelude.{Bool, ◌&&◌, List, ℕ, length, get_or, ltb, eqb}
use Rattle.tender.specs.declared.Totals.{Totals}
use Rattle.cover.specs.Sets.{when}
use Rattle.cover.specs.CriticalPrice.{sum}
use Rattle.cover.specs.Settled.{listed}

-- what entry i asks if its flag is 1
abbrev pub asked : List ℕ → List ℕ → ℕ → ℕ
asked ps won i = when (eqb (get_or won i 0) 1) (get_or ps i 0)

-- what the entries whose flag is 1 ask in all
unfoldable pub cost_in : List ℕ → List ℕ → ℕ
unfolding listed sum
cost_in ps won = sum (listed (length ps) (asked ps won))

-- what the first `owners` entries are paid in all
unfoldable pub paid_in : List ℕ → ℕ → ℕ
unfolding listed sum
paid_in cents owners = sum (listed owners (λ i. get_or cents i 0))

-- an entry stands after the owners', and its flag is 1
unfoldable pub house_in : List ℕ → List ℕ → ℕ → Bool
house_in ps won owners = ltb owners (length ps) && eqb (get_or won owners 0) 1

unfoldable pub totals_in : List ℕ → List ℕ → List ℕ → ℕ → Totals
unfolding cost_in paid_in house_in
totals_in ps won cents owners = record { cost = cost_in ps won; paid = paid_in cents owners; house = house_in ps won owners }
