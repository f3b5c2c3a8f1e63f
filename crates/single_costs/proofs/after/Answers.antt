-- `single_costs::after` meets its contract: the run over the mirrored bids gives the costs from each end on. Assumes nothing.
use lib.ListN.{length}
use lib.Seq.{get_or-set_same}
use Rattle.single_lead.specs.ListedLaws.{every_listed}
use Rattle.single_costs.specs.AcrossLaws.{run_all, ran_after}
use native.Mathlib.Omega.{arith}
use Rattle.single_costs.proofs.after.Goals as goal

pub invariant_of-mirrored : goal.invariant_of-mirrored
invariant_of-mirrored c = record {
  few = c.args.bids.few;
  small = c.args.bids.small;
  room = (
    omega (arith, c.args.bids.few, c.mirror.auto),
    omega (arith, c.args.bids.few, c.mirror.auto),
    omega (arith, c.args.bids.few, c.by_start.auto),
  );
  within = c.by_start.ensures.bids;
  every = every_listed _ c.by_start.ensures;
  sorted = c.by_start.ensures.sorted;
}

pub run-requires-clause-running : goal.run-requires-clause-running
run-requires-clause-running c =
    let args = c.args in
    run_all _ _ _ _ _ _ _ (get_or-set_same args.costs.now (length args.bids.prices.now) 18446744073709551615 0
    (omega (arith, c.requires.room)))

pub returns : goal.returns
returns c =
    ran_after _ _ _ _ _ _ (record {
      starts = omega (arith, c.args.bids.few, c.mirror.auto);
      ends = omega (arith, c.args.bids.few, c.mirror.auto);
      sorted = c.by_start.ensures;
    }) _ _ _ _ c.mirror.ensures c.run.ensures
