-- `multi_rounds::trace` meets its contract: the rounds so far are written down, and each closes a cell at least. Assumes nothing.
-- the cells of the pairs are the bid's among those held
use mathlib.Core.Path.{◌≡◌}
use lib.ListN.{length}
use Rattle.cells_count.specs.Hops.{Counted}
use Rattle.multi_keys.specs.Tree.{leaves, Tree}
use Rattle.multi_market.specs.Market.{has}
use Rattle.multi_market.specs.Opens.{open_of}
use Rattle.multi_rounds.specs.TracingLaws.{Tracing}
use Rattle.multi_rounds.proofs.trace.Given as goal

abbrev pub invariant-loop-f : goal.invariant-loop-f
invariant-loop-f l =
    (length l.held ≡ length l.initial.held) × ((length l.run ≡ length l.initial.run) × ((length l.tape ≡ length l.initial.tape)
    × (Tracing (has l.bids.masks.now (length l.held)) l.bids.prices.now (length l.held) l.count l.held (leaves l.tree) l.run l.tape l.r l.c
    × (Tree l.tree × Counted l.held l.counts))))

abbrev pub decreases-loop-f : goal.decreases-loop-f
decreases-loop-f l = length (open_of l.held)
