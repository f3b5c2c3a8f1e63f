-- The bids that take part in every payment, with their keys from the first round on.
use Rattle.std.specs.Prelude.{◌≡◌, List, ℕ, ◌<◌, length}
use Rattle.cells.specs.Cells.{cell}
use Rattle.multi_keys.specs.Keys.{at, out}

-- the keys of the bids in `ever`; the others are out
pub record Picked (ever keys new : List ℕ) : Type 0 where
  pub size : length new ≡ 1024
  pub each : (i : ℕ) → i < 1024 → 0 < cell ever i → at new i ≡ at keys i
  pub others : (i : ℕ) → i < 1024 → cell ever i ≡ 0 → at new i ≡ out
