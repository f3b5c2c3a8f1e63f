-- `single_select::step` meets its contract: the leading set with the bid is the bid's weight. Assumes nothing.
use mathlib.Core.Path.{refl}
use Rattle.single_lead.specs.ListedLaws.{in_order}
use Rattle.single_select.specs.WeighingLaws.{weighing_more, next_row, lead_lacks, lead_fits, lead_other}
use native.Mathlib.Omega.{arith}
use Rattle.single_select.proofs.step.Goals as goal

pub extend-requires : goal.extend-requires
extend-requires c =
    let y = next_row _ _ _ _ _ _ (in_order c.args.bids) _ _ _ _ _ _ _ _ _ _ _ c.requires.k_in_bounds c.requires.weighing
    c.lead_at-z.ensures in
    let l = c.args.bids.within c.args.k c.requires.k_in_bounds in
    let e = c.requires.weighing.empty in record {
      from_in_bounds = (
        omega (arith, y.least.lead.within, c.args.bids.few, c.requires.room),
        omega (arith, l, c.args.bids.few, c.requires.room),
        lead_other _ _ _ _ _ _ _ _ _ _ _ _ e y _ l refl,
        omega (arith, l, c.args.bids.few, c.requires.room),
      );
      i_value = lead_lacks _ _ _ _ _ _ _ _ _ _ _ _ e y _ l refl;
    }

pub add_price-requires : goal.add_price-requires
add_price-requires c =
    let y = next_row _ _ _ _ _ _ (in_order c.args.bids) _ _ _ _ _ _ _ _ _ _ _ c.requires.k_in_bounds c.requires.weighing c.lead_at-z.ensures in
    lead_fits _ _ _ _ _ _ _ _ _ _ _ _ c.requires.weighing.empty y _ (c.args.bids.within c.args.k c.requires.k_in_bounds) refl
    c.args.bids.small

pub returns : goal.returns
returns c =
    let y = next_row _ _ _ _ _ _ (in_order c.args.bids) _ _ _ _ _ _ _ _ _ _ _ c.requires.k_in_bounds c.requires.weighing c.lead_at-z.ensures in
    let g = c.requires.weighing in
    rw c.add_price.ensures (weighing_more _ _ _ _ _ _ _ _ (in_order c.args.bids) _ _ _ _ _ c.requires.k_in_bounds c.args.bids.small
    (omega (arith, c.args.bids.few, c.requires.room)) (omega (arith, y.least.lead.reach.few, c.args.bids.few, c.requires.room, c.requires.k_in_bounds, c.lead_at-z.auto)) g.guard
    g.empty g.done y c.extend.ensures)
