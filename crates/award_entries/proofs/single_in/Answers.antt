-- `award_entries::single_in` meets its contract: the tender is laid out as starts and ends, and each way out is one of the laws.
-- Assumes nothing.
use mathlib.Core.Path.{sym, ◌∙◌}
use native.Mathlib.Omega.{arith}
use Rattle.tender.specs.declared.Kind.TheVariants.{Single}
use Rattle.award_layout.specs.LayoutLaws.{cells_within}
use Rattle.award_laid.specs.TellsLaws.{named_inside}
use Rattle.award_laid.specs.EntryLaws.{of_kind, laid_prices}
use Rattle.award_entries.specs.ThinLaws.{refuses_thin}
use Rattle.award_entries.specs.SingleLaws.{prices_sum, settled}
use Rattle.award_entries.proofs.single_in.Goals as goal

pub refusal-requires : goal.refusal-requires
refusal-requires c =
    let A = c.args in let T = A.tables.now in named_inside T.tender T.count T.bids.now T.windows.now c.in-Err.thin c.in-Err.ensures.thin_is

pub cells-cells-requires : goal.cells-cells-requires
cells-cells-requires c =
    let A = c.args in let T = A.tables.now in (cells_within Single T.tender T.count T.bids.now T.windows.now (of_kind T c.requires.0)).0

pub award-requires : goal.award-requires
award-requires c =
    let A = c.args in let T = A.tables.now in let P = c.requires in let L = c.lay_spans in
    let w = cells_within Single T.tender T.count T.bids.now T.windows.now (of_kind T P.0) in record {
      prices_len_bound = (
        (laid_prices T.tender T.count T.bids.now T.windows.now _ _ _ _ _ (of_kind T P.0) c.in_default.ensures).count,
        L.auto.starts ∙ P.1.1.0 ∙ sym P.1.0 ∙ sym L.auto.prices,
        L.auto.ends ∙ P.1.1.1.0 ∙ sym P.1.0 ∙ sym L.auto.prices,
        omega (arith, w, c.cells-cells.ensures),
        omega (arith, w, c.cells-cells.ensures),
      );
      prices_in_bounds = (omega (arith, L.auto.prices, P.1.1.1.1.1), omega (arith, L.auto.prices, P.1.1.1.1.1));
      by_index = (λ i m. rw c.cells-cells.ensures (c.in_default.ensures.ordered i, c.in_default.ensures.inside i));
      prices_bound = prices_sum T.tender T.count T.bids.now T.windows.now _ _ _ _ (of_kind T P.0) c.in_default.ensures;
      prices_in_bounds_2 = (omega (arith, L.auto.prices, L.auto.order, P.1.1.1.1.0), c.in_default.ensures.in_order);
    }

pub totals-requires : goal.totals-requires
totals-requires c =
    let A = c.args in let T = A.tables.now in let P = c.requires in let L = c.lay_spans in
    let p = laid_prices T.tender T.count T.bids.now T.windows.now _ _ _ _ _ (of_kind T P.0) c.in_default.ensures in record {
      prices_len_bound = (
        p.count,
        (
          omega (arith, L.auto.prices, c.award.auto.won, P.1.1.1.1.1),
          (
            omega (arith, L.auto.prices, c.award.auto.cents, P.1.1.1.1.1),
            omega (arith, L.auto.prices, P.1.0),
          ),
        ),
      );
      by_index = λ i l. (omega (arith, p.most i), c.award.ensures.small i l);
    }

pub returns-in-Err : goal.returns-in-Err
returns-in-Err c =
    let A = c.args in let T = A.tables.now in rw c.refusal.ensures (refuses_thin Single T.tender T.count T.bids.now T.windows.now (of_kind T c.requires.0)
    A.flags.now A.pays.now c.in-Err.thin c.in-Err.ensures.thin_is)

pub returns : goal.returns
returns c =
    let A = c.args in let T = A.tables.now in let L = c.lay_spans in
    settled T.tender T.count T.bids.now T.windows.now L.new.prices L.new.starts
    L.new.ends L.new.order (of_kind T c.requires.0) c.in_default.ensures
    A.flags.now A.pays.now c.award.new.won c.award.new.cents c.totals.result
    (rw c.cells-cells.ensures at c.award.ensures) c.totals.ensures
