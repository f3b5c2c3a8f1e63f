-- `single_select::weigh` meets its contract: each turn gives one bid its weight. Assumes nothing.
use mathlib.Core.Path.{◌≡◌}
use Prim.Native.Nat.{◌≤◌}
use lib.ListN.{length}
use Rattle.single_select.specs.Weighing.{Weighing}
use Rattle.single_select.proofs.weigh.Given as goal

abbrev pub invariant-loop-k : goal.invariant-loop-k
invariant-loop-k l = (l.k ≤ length l.bids.prices.now)
    × (length l.live ≡ length l.initial.live) × (length l.costs ≡ length l.initial.costs) × (length l.sets ≡ length l.initial.sets)
    × Weighing l.bids.starts.now l.bids.ends.now l.bids.prices.now l.bids.order.now l.costs l.sets l.live l.k l.lead.live l.lead.row l.lead.cost l.lead.end
