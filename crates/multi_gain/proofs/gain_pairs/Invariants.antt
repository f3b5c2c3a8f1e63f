-- `multi_gain::gain_pairs` meets its contract: before pair p the bids that have an open cell of the pairs before it are marked, with
-- their keys; those that have an open cell of pair p have a cell in common with the pair's mask and the open cells of its word.
-- Assumes nothing.
use mathlib.Core.Path.{◌≡◌}
use Prim.Native.Nat.{◌-◌}
use lib.ListN.{length}
use Rattle.cells_count.specs.Hops.{Counted}
use Rattle.cells_pairs.specs.Pairs.{in_pairs}
use Rattle.multi_keys.specs.Tree.{leaves, Tree}
use Rattle.multi_market.specs.Market.{has}
use Rattle.multi_index.specs.Index.{Indexed}
use Rattle.multi_gain.specs.Gain.{Gained}
use Rattle.multi_gain.proofs.gain_pairs.Given as goal

abbrev pub invariant-loop-p : goal.invariant-loop-p
invariant-loop-p l =
    Gained (has l.bids.masks.now (length l.alt)) l.bids.prices.now l.alt
    (in_pairs l.pairs l.a (l.p - l.a)) (leaves l.initial.tree) l.initial.mark (leaves l.tree) l.mark
    × (Indexed (length l.bids.prices.now) l.bids.masks.now (length l.alt) l.index l.mark × (Tree l.tree × ((length l.mark ≡ 16)
    × Counted l.alt l.counts)))
