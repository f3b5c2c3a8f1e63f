-- `multi_highest::rounds` meets its contract: each round takes the bid with the least key without k, and raises the maximum; no round
-- more does where k has no open cell, or no other bid has. Assumes nothing.
use mathlib.Core.Path.{◌≡◌}
use lib.ListN.{length}
use Rattle.cells_count.specs.Hops.{Counted}
use Rattle.multi_keys.specs.Tree.{leaves, Tree}
use Rattle.multi_market.specs.Market.{has}
use Rattle.multi_market.specs.Opens.{open_of}
use Rattle.multi_highest.specs.Rounding.{Rounding}
use Rattle.multi_highest.proofs.rounds.Given as goal

abbrev pub invariant-loop-walk : goal.invariant-loop-walk
invariant-loop-walk l =
    (length l.held ≡ length l.initial.held) × ((l.walk.bid ≡ l.k)
    × (Rounding (has l.bids.masks.now (length l.held)) l.bids.prices.now l.count l.k l.held (leaves l.tree) l.walk.mine l.walk.top
    × (Tree l.tree × Counted l.held l.counts)))

abbrev pub decreases-loop-walk : goal.decreases-loop-walk
decreases-loop-walk l = length (open_of l.held)
