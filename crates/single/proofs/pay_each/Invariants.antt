-- `single::pay_each` meets its contract: each turn pays one bid. Assumes nothing.
use mathlib.Core.Path.{◌≡◌}
use Prim.Native.Nat.{◌≤◌}
use lib.ListN.{length}
use Rattle.single_costs.specs.Across.{Waiting}
use Rattle.single.specs.Pay.{vcg_paid_of}
use Rattle.single.specs.PayLaws.{PaidTo}
use Rattle.single.proofs.pay_each.Given as goal

abbrev pub invariant-loop-q : goal.invariant-loop-q
invariant-loop-q l = (l.q ≤ length l.bids.prices.now)
    × (length l.live ≡ length l.initial.live) × (length l.xs ≡ length l.initial.xs)
    × (length l.costs ≡ length l.initial.costs) × (length l.cents ≡ length l.initial.cents)
    × Waiting l.bids.starts.now l.bids.ends.now l.bids.prices.now l.bids.order.now l.live l.q l.m
    × PaidTo (vcg_paid_of l.bids.starts.now l.bids.ends.now l.bids.prices.now l.cells) l.bids.order.now l.initial.cents l.cents
    (length l.bids.prices.now) l.q
