-- `multi_gain::gain` meets its contract: before each node of word q's chain the bids without a mark have no cell of m in word q, or are
-- still to come; the chain goes on to earlier nodes. Assumes nothing.
use mathlib.Core.Path.{◌≡◌}
use lib.ListN.{length}
use Rattle.cells_count.specs.Hops.{Counted}
use Rattle.multi_keys.specs.Tree.{leaves, Tree}
use Rattle.multi_gain.specs.GainLaws.{Gaining}
use Rattle.multi_gain.proofs.gain.Given as goal

abbrev pub invariant-loop-t : goal.invariant-loop-t
invariant-loop-t l =
    Gaining l.bids.prices.now l.bids.masks.now l.alt l.index l.q l.m (leaves l.initial.tree) l.initial.mark (leaves l.tree) l.mark l.t
    × (Tree l.tree × ((length l.mark ≡ 16) × Counted l.alt l.counts))

abbrev pub decreases-loop-t : goal.decreases-loop-t
decreases-loop-t l = l.t
