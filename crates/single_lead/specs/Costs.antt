-- A cost in a word: the largest word is no cost.
use Rattle.std.specs.Prelude.{cond, ℕ, ◌+◌, eqb}
use Rattle.cover.specs.Sets.{Found, nothing, found}

abbrev pub no_cost : ℕ
no_cost = 18446744073709551615

unfoldable pub cost_in : ℕ → Found
cost_in x = cond (eqb x no_cost) nothing (found x)

-- with one price more
unfoldable pub plus_price : ℕ → ℕ → ℕ
plus_price c p = cond (eqb c no_cost) c (c + p)
