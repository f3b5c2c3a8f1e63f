-- `single_costs::without` meets its contract: the run without the bid and the scan across its end give the least cost. Assumes nothing.
use mathlib.Core.Path.{ap, ◌∙◌}
use Prim.Native.Nat.{ℕ}
use lib.ListN.{length-set}
use Rattle.cover.specs.Sets.{value_of}
use Rattle.single_lead.specs.ListedLaws.{in_order}
use Rattle.single_costs.specs.AcrossLaws.{run_start, ran_cost, waiting_on, ran_below, ran_small, after_bounds}
use native.Mathlib.Omega.{arith}
use Rattle.single_costs.proofs.without.Goals as goal

pub run-size-requires : goal.run-size-requires
run-size-requires c =
    let w = c.requires.waiting in record {
      room = (
        simp length-set (omega (arith, c.begin-len.auto, c.requires.room)),
        simp length-set (omega (arith, c.begin-len.auto, c.requires.room)),
      );
      from_in_bounds = omega (arith, c.requires.q_in_bounds);
      running = run_start _ _ _ _ (in_order c.args.bids) _ _ _ _ _ _ _ _ c.requires.q_in_bounds.0 (omega (arith, c.begin-len.auto, c.args.bids.few, c.requires.room))
          (omega (arith, c.begin-len.auto, c.begin-len.ensures.thinned.short, w.reach.few, c.args.bids.few, c.requires.room, c.requires.q_in_bounds))
          (c.requires.by_index _ (c.args.bids.within c.args.q c.requires.q_in_bounds.0)).0 c.requires.before.0 w c.begin-len.ensures;
    }

pub least_across-requires : goal.least_across-requires
least_across-requires c =
    let args = c.args in
    let g = c.run-size.ensures in record {
      m_in_bounds = (
        omega (arith, g.reach.few, g.fit, c.run-size.auto, c.begin-len.auto, length-set {A = ℕ}, c.args.bids.few, c.requires.room),
        omega (arith, c.run-size.auto, c.begin-len.auto, length-set {A = ℕ}, c.args.bids.few, c.requires.room),
        omega (arith, c.args.bids.few, c.requires.room),
      );
      by_index = ran_below _ _ _ _ _ (in_order c.args.bids) _ _ _ _ _ g;
      by_index_2 = ran_small _ _ _ _ _ (in_order c.args.bids) _ _ _ _ _ c.requires.q_in_bounds.1 g;
      by_index_3 = after_bounds _ _ _ args.after.now _ c.requires.q_in_bounds.1 c.requires.before.1;
    }

pub returns : goal.returns
returns c =
    let k = c.args.bids.within c.args.q c.requires.q_in_bounds.0 in record {
      cost_value = c.whole-cost.ensures ∙ ap value_of (ran_cost _ _ _ _ _ (in_order c.args.bids) _ _ _ _ _ _ _ k c.requires.q_in_bounds.2 (c.requires.by_index _ k).1
          c.requires.q_in_bounds.1 c.requires.before.1 c.run-size.ensures c.least_across.ensures);
      waiting_2 = waiting_on _ _ _ _ (in_order c.args.bids) _ _ _ _ _ _ _ _ c.requires.q_in_bounds.0 c.requires.waiting c.begin-len.ensures;
    }
