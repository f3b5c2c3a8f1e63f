-- `single_costs::least_across` meets its contract: each place of the list is looked at once. Assumes nothing.
use native.Mathlib.Numerals.{add-one}
use Rattle.single_costs.specs.AcrossLaws.{across_none, across_more}
use native.Mathlib.Omega.{arith}
use Rattle.single_costs.proofs.least_across.Goals as goal

pub loop-j-init : goal.loop-j-init
loop-j-init c = (omega arith, omega arith, across_none _ _ _ _ _ _ _)

pub loop-j-preserved : goal.loop-j-preserved
loop-j-preserved c =
    let args = c.args in (
      omega arith,
      omega arith,
      rw (c.lower-r.ensures, add-one)
          (across_more args.bids.starts.now args.bids.ends.now args.bids.prices.now args.live.now args.costs.now args.after.now
          args.t c.loop-j.j c.loop-j.r c.join-x.result c.join-x.ensures
          (omega (arith, c.join-x.type_inv)) c.loop-j.invariant.1 c.loop-j.invariant.2),
    )
