-- `single_costs::begin` meets its contract: the list is thinned out and copied. Assumes nothing.
use lib.ListN.{length-set}
use Rattle.single_costs.specs.AcrossLaws.{begun_more}
use native.Mathlib.Omega.{arith}
use Rattle.single_costs.proofs.begin.Goals as goal

pub loop-j-preserved : goal.loop-j-preserved
loop-j-preserved c = (
  omega arith,
  simp length-set (omega arith),
  simp length-set (omega arith),
  simp length-set (omega arith),
  rw c.count-x.ensures (begun_more _ _ _ _ _ _ _ _ _ (omega arith) (omega (arith, c.loop-j.invariant.4.thinned.short))
      (omega (arith, c.loop-j.invariant.4.thinned.short))
      (omega (arith, c.requires.by_index c.loop-j.j c.loop-j-test.true, c.loop-j.invariant.4.thinned.rest c.loop-j.j (omega arith)))
      c.loop-j.invariant.4),
)
