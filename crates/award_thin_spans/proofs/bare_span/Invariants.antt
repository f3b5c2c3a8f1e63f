-- `award_thin_spans::bare_span` meets its contract: each cell passed has a bidder, and none of the bids asked has the cell. Assumes nothing.
use lib.ListN.{length}
use Rattle.cover.specs.Settled.{spans}
use Rattle.award_thin.specs.BareLaws.{Looking, Asking}
use Rattle.award_thin_spans.proofs.bare_span.Given as goal

abbrev pub invariant-loop-i : goal.invariant-loop-i
invariant-loop-i l = Asking (spans l.starts l.ends) (length l.starts) l.cells l.x l.i

abbrev pub invariant-cells : goal.invariant-cells
invariant-cells l = Looking (spans l.starts l.ends) (length l.starts) l.cells l.x
