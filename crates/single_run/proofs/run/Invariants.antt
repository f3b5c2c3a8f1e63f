-- `single_run::run` meets its contract: each turn gives one bid its cost. Assumes nothing.
use mathlib.Core.Path.{◌≡◌}
use Prim.Native.Nat.{◌≤◌}
use lib.ListN.{length}
use Rattle.single_run.specs.Run.{Running}
use Rattle.single_run.proofs.run.Given as goal

abbrev pub invariant-loop-q : goal.invariant-loop-q
invariant-loop-q l = (l.q ≤ length l.bids.prices.now)
    × (length l.live ≡ length l.initial.live) × (length l.costs ≡ length l.initial.costs)
    × Running l.skip l.bids.starts.now l.bids.ends.now l.bids.prices.now l.bids.order.now l.costs l.live l.from l.q l.lead.live l.lead.row l.lead.cost l.lead.end l.stop
