-- `highest::ask_spans` meets its contract: the row's bid would win below what two runs give, and no row is 17. Assumes nothing.
use mathlib.Core.Path.{ap, sym, ◌∙◌}
use native.Mathlib.Omega.{arith}
use Rattle.tender.specs.declared.Kind.TheVariants.{Single}
use Rattle.award_layout.specs.LayoutLaws.{orderly, cells_within}
use Rattle.award_laid.specs.EntryLaws.{laid_prices}
use Rattle.highest.specs.AskingLaws.{small_sum, spared, spans_missing, spans_price}
use Rattle.std.specs.Prelude.{Ok}
use Rattle.highest_rule.proofs.RowLaws.{row_inside}
use Rattle.highest.specs.Asking.{found_row}
use Rattle.highest.proofs.ask_spans.Goals as goal

pub row_with-requires : goal.row_with-requires
row_with-requires c =
    let A = c.args in (orderly Single A.tender A.count A.bids.now A.windows.now c.requires.sound).lent

pub cells-cells-requires : goal.cells-cells-requires
cells-cells-requires c =
    let A = c.args in (cells_within Single A.tender A.count A.bids.now A.windows.now c.requires.sound).0

pub below-requires : goal.below-requires
below-requires c =
    let A = c.args in let P = c.requires in
    let n = cells_within Single A.tender A.count A.bids.now A.windows.now P.sound in
    let l = (row_inside _ _ _ _ (sym c.row_with.ensures ∙ ap found_row c.in-Some.is)).0 in
    let p = laid_prices A.tender A.count A.bids.now A.windows.now _ _ _ _ (Ok tt) P.sound P.laid in record {
      prices_len_bound = (
        p.count,
        P.start_count ∙ sym P.price_count,
        P.end_count ∙ sym P.price_count,
        omega (arith, n, c.cells-cells.ensures),
        omega (arith, n, c.cells-cells.ensures),
      );
      by_index = (λ j m. rw c.cells-cells.ensures (P.laid.ordered j, P.laid.inside j));
      prices_bound = (
        small_sum A.tender A.count A.bids.now A.windows.now _ _ _ _ P,
        omega (arith, l, P.price_count),
      );
      prices_in_bounds = (P.room, P.laid.in_order);
      spare = rw c.cells-cells.ensures (spared A.tender A.count A.bids.now A.windows.now _ _ _ _ P _ l);
    }

pub returns : goal.returns
returns c =
    let A = c.args in
    c.told.ensures ∙ spans_price A.tender A.count A.bids.now A.windows.now _ _ _ _ c.requires A.bidder _ _
    (sym c.row_with.ensures ∙ ap found_row c.in-Some.is) (rw c.cells-cells.ensures at c.below.ensures.below)

pub returns-in_default : goal.returns-in_default
returns-in_default c =
    let A = c.args in
    spans_missing A.tender A.count A.bids.now A.windows.now _ _ _ _ c.requires A.bidder
    (sym c.row_with.ensures ∙ ap found_row c.in_default.is)
