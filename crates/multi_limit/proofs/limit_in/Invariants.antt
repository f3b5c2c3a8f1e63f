-- `multi_limit::limit_in` meets its contract: each step keeps the maximum that the run says of the bid, until the run is over or the bid
-- has no open cell; with each the rounds left and the open cells are fewer. Assumes nothing.
use Prim.Native.Nat.{◌+◌, ◌-◌, ◌*◌}
use mathlib.Core.Path.{◌≡◌}
use lib.ListN.{length}
use Rattle.cells_count.specs.Hops.{Counted}
use Rattle.multi_keys.specs.Tree.{leaves, Tree}
use Rattle.multi_market.specs.Market.{has}
use Rattle.multi_market.specs.Opens.{open_of}
use Rattle.multi_index.specs.Index.{Indexed}
use Rattle.multi_rounds.specs.Trace.{bid_on}
use Rattle.multi_limit.specs.StepLaws.{Limiting}
use Rattle.multi_limit.proofs.limit_in.Given as goal

abbrev pub invariant-loop-walk : goal.invariant-loop-walk
invariant-loop-walk l =
    (l.walk.bid ≡ bid_on l.run l.h)
    × (Limiting (has l.bids.masks.now (length l.initial.alt)) l.bids.prices.now
    (bid_on l.run l.h) l.run l.tape l.initial.alt l.alt (leaves l.tree) l.mark l.walk.mine l.walk.top
    l.walk.round
    × (Counted l.alt l.counts × (Tree l.tree × ((length l.mark ≡ 16)
    × Indexed (length l.bids.prices.now) l.bids.masks.now (length l.initial.alt) l.index l.mark))))

abbrev pub decreases-loop-walk : goal.decreases-loop-walk
decreases-loop-walk l =
    length l.run - 3 * l.walk.round + length (open_of l.alt)
