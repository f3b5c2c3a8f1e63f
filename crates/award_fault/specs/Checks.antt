-- What checking the tables answers: no fault, or the place of the first.
use Rattle.std.proofs.Math.Option as maybe
use Rattle.std.specs.Prelude.{ℕ, Option, Some, None}

abbrev pub checked_fault : Option ℕ → maybe.Option ℕ
checked_fault None = maybe.none
checked_fault (Some row) = maybe.some row
