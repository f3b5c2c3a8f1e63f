-- `highest::row_with` meets its contract: the rows from i on have not the number, so the largest of all rows with it is one before i.
-- Assumes nothing.
use mathlib.Core.Path.{◌≡◌}
use Rattle.highest_rule.specs.Highest.{row_with}
use Rattle.highest.proofs.row_with.Given as goal

abbrev pub invariant-loop-i : goal.invariant-loop-i
invariant-loop-i l = row_with l.bids l.i l.bidder ≡ row_with l.bids l.count l.bidder
