-- What a cell costs where the earliest of some cells is looked for as the least: nothing, so that they are all alike. Assumes nothing.
use Rattle.std.specs.Prelude.{ℕ}

abbrev pub cell_cost : ℕ → ℕ → ℕ
cell_cost L x = 0
