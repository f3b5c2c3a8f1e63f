-- `multi_limit::along` meets its contract: a round whose bid is alike is taken by both runs, and the first that is not by the main run
-- alone. Assumes nothing.
use Prim.Native.Nat.{ℕ, ◌-◌, ◌*◌, ◌≤◌, ◌<◌}
use mathlib.Core.Path.{◌≡◌}
use lib.ListN.{length}
use Rattle.cells_count.specs.Hops.{Counted}
use Rattle.multi_keys.specs.Keys.{at}
use Rattle.multi_keys.specs.Tree.{leaves, Tree}
use Rattle.multi_market.specs.Market.{has}
use Rattle.multi_index.specs.Index.{Indexed}
use Rattle.multi_limit.specs.WalkLaws.{Along}
use Rattle.multi_limit.proofs.along.Given as goal

abbrev pub invariant-loop-g : goal.invariant-loop-g
invariant-loop-g l =
    Along (has l.bids.masks.now (length l.initial.alt)) l.bids.prices.now
    l.walk.bid l.walk.mine l.walk.top l.cap l.run l.tape l.initial.alt l.alt (leaves l.tree) l.mark l.walk.round l.g
    × (Counted l.alt l.counts × (Tree l.tree × ((length l.mark ≡ 16)
    × (Indexed (length l.bids.prices.now) l.bids.masks.now (length l.initial.alt) l.index l.mark
    × ((i : ℕ) → i < 1024 → l.cap ≤ at (leaves l.tree) i)))))

abbrev pub decreases-loop-g : goal.decreases-loop-g
decreases-loop-g l = length l.run - 3 * l.g
