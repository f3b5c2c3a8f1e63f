-- `single_select::weigh` meets its contract: each turn gives one bid its weight. Assumes nothing.
use mathlib.Core.Path.{refl}
use lib.ListN.{length, length-set}
use lib.Seq.{get_or-set_same}
use native.Mathlib.Nat.{le_antisymm}
use Rattle.single_lead.specs.ListedLaws.{in_order}
use Rattle.single_select.specs.WeighingLaws.{weighing_none, weighed}
use native.Mathlib.Omega.{arith}
use Rattle.single_select.proofs.weigh.Goals as goal

pub loop-k-init : goal.loop-k-init
loop-k-init c =
    let args = c.args in (
      omega arith,
      refl,
      simp length-set refl,
      refl,
      weighing_none _ _ _ _ _ _ _ (get_or-set_same args.costs.now (length args.bids.prices.now) 18446744073709551615 0
          (omega (arith, c.args.bids.few, c.requires.room))) c.requires.no_bids,
    )

pub returns : goal.returns
returns c =
    weighed _ _ _ _ _ _ (in_order c.args.bids) _ _ _ _ _ _ _ _ _ _ _ _ (le_antisymm c.loop-k.invariant.0 c.loop-k-test.false) c.requires.by_index
    c.loop-k.invariant.4 c.lead_at.ensures
