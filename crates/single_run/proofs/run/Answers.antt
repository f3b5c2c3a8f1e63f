-- `single_run::run` meets its contract: each turn gives one bid its cost. Assumes nothing.
use native.Mathlib.Nat.{le_antisymm}
use Rattle.single_lead.specs.ListedLaws.{in_order}
use Rattle.single_run.specs.RunLaws.{ran_stop, ran_end}
use Rattle.single_run.proofs.run.Goals as goal

pub returns-then-stop-bids : goal.returns-then-stop-bids
returns-then-stop-bids c =
    ran_stop _ _ _ _ _ _ _ (in_order c.args.bids) _ _ _ _ _ _ _ c.loop-q.invariant.3 c.loop-q-test.true c.if-stop-bids.true

pub returns : goal.returns
returns c =
    ran_end _ _ _ _ _ _ _ (in_order c.args.bids) _ _ _ _ _ _ _ c.loop-q.invariant.3 (le_antisymm c.loop-q.invariant.0 c.loop-q-test.false)
