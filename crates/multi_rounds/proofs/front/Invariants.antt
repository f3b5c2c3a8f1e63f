-- `multi_rounds::front` meets its contract: each key in the tree stays no more than its bid's, and the first leaf is the least of all.
-- Assumes nothing.
use lib.ListN.{length}
use Rattle.cells_count.specs.Hops.{Counted}
use Rattle.multi_keys.specs.Tree.{leaves}
use Rattle.multi_market.specs.Market.{has}
use Rattle.multi_rounds.specs.FrontLaws.{slack, Fronting}
use Rattle.multi_rounds.proofs.front.Given as goal

abbrev pub invariant-loop-cap : goal.invariant-loop-cap
invariant-loop-cap l =
    Fronting (has l.bids.masks.now (length l.held)) l.bids.prices.now l.held (leaves l.initial.tree) l.tree × Counted l.held l.counts

abbrev pub decreases-loop-cap : goal.decreases-loop-cap
decreases-loop-cap l = slack (leaves l.tree)
