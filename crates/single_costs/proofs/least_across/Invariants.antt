-- `single_costs::least_across` meets its contract: each place of the list is looked at once. Assumes nothing.
use mathlib.Core.Path.{◌≡◌}
use Prim.Native.Nat.{◌≤◌}
use Rattle.single_lead.specs.Costs.{cost_in}
use Rattle.single_costs.specs.Across.{least_across}
use Rattle.single_costs.proofs.least_across.Given as goal

abbrev pub invariant-loop-j : goal.invariant-loop-j
invariant-loop-j l = (l.j ≤ l.m) × (l.r ≤ 18446744073709551615)
    × (cost_in l.r ≡ least_across l.bids.starts.now l.bids.ends.now l.bids.prices.now l.live l.costs l.after l.t l.j)
