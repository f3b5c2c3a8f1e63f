-- `single_run::step` meets its contract: the least cost with the bid's price is the bid's cost. Assumes nothing.
use Rattle.single_lead.specs.ListedLaws.{in_order}
use Rattle.single_lead.specs.RowsLaws.{no_words}
use Rattle.single_lead.specs.LiveLaws.{live_below}
use Rattle.single_run.specs.RunLaws.{next_cost, cost_fits, running_more}
use native.Mathlib.Omega.{arith}
use Rattle.single_run.proofs.step.Goals as goal

pub lead_at-z-requires : goal.lead_at-z-requires
lead_at-z-requires c =
    let g = c.requires.running in record {
      live_in_bounds = (
        omega (arith, c.args.bids.few, c.requires.room, c.requires.q_in_bounds, g.lead.reach.few),
        omega (arith, c.args.bids.few, c.requires.room, c.requires.q_in_bounds, g.lead.reach.few),
        omega (arith, c.args.bids.few, c.requires.room),
        omega (arith, c.args.bids.room),
        omega (arith, c.args.bids.room),
        omega arith,
      );
      by_index = live_below _ _ _ _ (in_order c.args.bids) _ _ _ _ (omega (arith, c.requires.q_in_bounds)) g.lead.reach;
      n_value = (g.guard, no_words _ _);
    }

pub entry-requires : goal.entry-requires
entry-requires c =
    let y = next_cost _ _ _ _ _ _ _ (in_order c.args.bids) _ _ _ _ _ _ _ c.requires.q_in_bounds.0 c.requires.running _ _ _ _ _ _ _
    c.lead_at-z.ensures in
    cost_fits _ _ _ _ _ _ _ (in_order c.args.bids) _ _ _ _ _ c.requires.q_in_bounds.0 c.args.bids.small y

pub returns : goal.returns
returns c =
    let y = next_cost _ _ _ _ _ _ _ (in_order c.args.bids) _ _ _ _ _ _ _ c.requires.q_in_bounds.0 c.requires.running _ _ _ _ _ _ _ c.lead_at-z.ensures in
    let g = c.requires.running in
    rw c.entry.ensures (running_more _ _ _ _ _ _ _ (in_order c.args.bids) _ _ _ _ _ c.requires.q_in_bounds.0 c.args.bids.small y _ _
    (omega (arith, c.args.bids.few, c.requires.room)) (omega (arith, y.least.lead.reach.few, c.args.bids.few, c.requires.room, c.requires.q_in_bounds, c.lead_at-z.auto))
    (omega (arith, c.requires.q_in_bounds)) g.guard g.done)
