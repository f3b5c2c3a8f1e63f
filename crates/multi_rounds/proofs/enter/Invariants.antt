-- `multi_rounds::enter` meets its contract: before leaf i the leaves below i are entered, and the tree is played from them.
-- Assumes nothing.
use lib.ListN.{length}
use Rattle.cells_count.specs.Hops.{Counted}
use Rattle.multi_market.specs.Market.{has}
use Rattle.multi_rounds.specs.EnterLaws.{Entering}
use Rattle.multi_rounds.proofs.enter.Given as goal

abbrev pub invariant-loop-i : goal.invariant-loop-i
invariant-loop-i l =
    Entering (has l.bids.masks.now (length l.held)) l.bids.prices.now l.held l.tree l.i × Counted l.held l.counts
