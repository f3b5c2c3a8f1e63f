-- `single::pay_each` meets its contract: each turn pays one bid. Assumes nothing.
use lib.ListN.{length-set}
use native.Mathlib.Nat.{le_antisymm}
use Rattle.single_lead.specs.ListedLaws.{in_order}
use Rattle.single_costs.specs.AcrossLaws.{waiting_more}
use Rattle.single.specs.PayLaws.{paid_more, paid_all}
use native.Mathlib.Omega.{arith}
use Rattle.single.proofs.pay_each.Goals as goal

pub loop-q-preserved : goal.loop-q-preserved
loop-q-preserved c = (
  omega (arith, c.loop-q-test.true),
  simp length-set (omega (arith, c.loop-q.invariant.1, c.pay-z.auto)),
  omega (arith, c.loop-q.invariant.2, c.pay-z.auto),
  omega (arith, c.loop-q.invariant.3, c.pay-z.auto),
  simp length-set (omega (arith, c.loop-q.invariant.4)),
  waiting_more _ _ _ _ _ _ _ (omega (
    arith,
    c.pay-z.ensures.waiting_2.reach.few,
    c.loop-q-test.true,
    c.loop-q.invariant.1,
    c.pay-z.auto,
    c.args.bids.few,
    c.requires.room,
  )) c.pay-z.ensures.waiting_2,
  paid_more _ _ _ _ _ _ _ (c.args.bids.within c.loop-q.q c.loop-q-test.true)
      (omega (arith, c.loop-q.invariant.4, c.requires.prices_in_bounds)) c.pay-z.ensures.cents_value c.loop-q.invariant.6,
)

pub returns : goal.returns
returns c =
    paid_all _ _ _ _ _ _ _ (in_order c.args.bids) c.loop-q.invariant.4 _ (le_antisymm c.loop-q.invariant.0 c.loop-q-test.false)
    c.loop-q.invariant.6
