-- `award_rows::fill` meets its contract: before each turn the rows of the bids passed are written, one store after the other.
-- Assumes nothing.
use Rattle.std.specs.Prelude.{◌≡◌}
use Rattle.award_rows.specs.Rows.{rows_written}
use Rattle.award_rows.proofs.fill.Given as goal

abbrev pub invariant-loop-i : goal.invariant-loop-i
invariant-loop-i l = l.rows ≡ rows_written l.i l.won l.cents l.initial.rows
