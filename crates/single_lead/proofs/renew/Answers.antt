-- `single_lead::renew` meets its contract: the scan goes through the list while it is thinned out. Assumes nothing.
use lib.ListN.{length-set}
use Rattle.single_lead.specs.LiveLaws.{thinned_none, thinned_more}
use Rattle.single_lead.specs.RowsLaws.{row_room}
use Rattle.single_lead.specs.LeadLaws.{seen_none, seen_more}
use native.Mathlib.Omega.{arith}
use Rattle.single_lead.proofs.renew.Goals as goal

pub loop-j-init : goal.loop-j-init
loop-j-init c =
    (omega arith, omega arith, thinned_none _ _ _, seen_none _ _ _ _ _ _ _ _ c.requires.n_value.0)

pub consider-r-requires : goal.consider-r-requires
consider-r-requires c = (
  omega (arith, c.requires.by_index c.loop-j.j c.loop-j-test.true, c.loop-j.invariant.2.rest c.loop-j.j (omega arith)),
  omega (arith, c.loop-j.invariant.3.within),
  row_room _ _ _ _ (omega (arith, c.requires.by_index c.loop-j.j c.loop-j-test.true, c.loop-j.invariant.2.rest c.loop-j.j (omega arith)))
      c.requires.m_in_bounds.5,
  row_room _ _ _ _ (omega (arith, c.loop-j.invariant.3.within)) c.requires.m_in_bounds.5,
)

pub loop-j-preserved : goal.loop-j-preserved
loop-j-preserved c = (
  omega arith,
  simp length-set (omega arith),
  rw c.count-x.ensures
      (thinned_more _ _ _ _ _ _ (omega arith) c.loop-j.invariant.2),
  rw (c.consider-r.ensures, c.loop-j.invariant.2.rest c.loop-j.j (omega arith))
      (seen_more _ _ _ _ _ _ _ _ _ _ (λ q. omega (arith, c.type_inv.costs q)) c.requires.n_value.1
      (c.requires.by_index c.loop-j.j c.loop-j-test.true) c.loop-j.invariant.3),
)
