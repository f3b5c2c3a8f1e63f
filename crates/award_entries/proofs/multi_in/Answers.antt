-- `award_entries::multi_in` meets its contract: the tender is laid out as words, and each way out is one of the laws. Assumes nothing.
use mathlib.Core.Path.{◌∙◌}
use native.Mathlib.Omega.{arith}
use Rattle.tender.specs.declared.Kind.TheVariants.{Multi}
use Rattle.award_layout.specs.LayoutLaws.{cells_within}
use Rattle.award_laid.specs.LayLaws.{words_of}
use Rattle.award_laid.specs.TellsLaws.{named_inside}
use Rattle.award_laid.specs.EntryLaws.{of_kind, market}
use Rattle.award_entries.specs.ThinLaws.{refuses_thin}
use Rattle.award_entries.specs.MultiLaws.{settled}
use Rattle.award_entries.proofs.multi_in.Goals as goal

pub refusal-requires : goal.refusal-requires
refusal-requires c =
    let A = c.args in let T = A.tables.now in named_inside T.tender T.count T.bids.now T.windows.now c.in-Err.thin c.in-Err.ensures.thin_is

pub cells-cells-requires : goal.cells-cells-requires
cells-cells-requires c =
    let A = c.args in let T = A.tables.now in (cells_within Multi T.tender T.count T.bids.now T.windows.now (of_kind T c.requires.0)).0

pub award-requires : goal.award-requires
award-requires c =
    let A = c.args in let T = A.tables.now in let P = c.requires in let L = c.lay_masks in
    let w = cells_within Multi T.tender T.count T.bids.now T.windows.now (of_kind T P.0) in
    let d = words_of Multi T.tender T.count A.w T.bids.now T.windows.now (of_kind T P.0) P.1.0 in (
      market T.tender T.count A.w T.bids.now T.windows.now _ _ _ (of_kind T P.0) c.in_default.ensures d
          (L.auto.masks ∙ P.1.1.1.0),
      (
        omega (arith, w, c.cells-cells.ensures),
        (
          omega (arith, d.fits, c.cells-cells.ensures),
          (omega (arith, L.auto.prices, P.1.1.1.1), omega (arith, L.auto.prices, P.1.1.1.1)),
        ),
      ),
    )

pub totals-requires : goal.totals-requires
totals-requires c =
    let A = c.args in let T = A.tables.now in let P = c.requires in let L = c.lay_masks in
    let d = words_of Multi T.tender T.count A.w T.bids.now T.windows.now (of_kind T P.0) P.1.0 in
    let m = market T.tender T.count A.w T.bids.now T.windows.now _ _ _ (of_kind T P.0) c.in_default.ensures d
    (L.auto.masks ∙ P.1.1.1.0) in record {
      prices_len_bound = (
        m.priced.count,
        (
          omega (arith, L.auto.prices, c.award.auto.won, P.1.1.1.1),
          (
            omega (arith, L.auto.prices, c.award.auto.cents, P.1.1.1.1),
            omega (arith, L.auto.prices, P.1.1.0),
          ),
        ),
      );
      by_index = λ i l. (omega (arith, m.priced.most i), c.award.ensures.small i l);
    }

pub returns-in-Err : goal.returns-in-Err
returns-in-Err c =
    let A = c.args in let T = A.tables.now in rw c.refusal.ensures (refuses_thin Multi T.tender T.count T.bids.now T.windows.now (of_kind T c.requires.0)
    A.flags.now A.pays.now c.in-Err.thin c.in-Err.ensures.thin_is)

pub returns : goal.returns
returns c =
    let A = c.args in let T = A.tables.now in let L = c.lay_masks in
    settled T.tender T.count A.w T.bids.now T.windows.now L.new.prices
    L.new.masks (of_kind T c.requires.0) c.in_default.ensures A.flags.now A.pays.now
    c.award.new.won c.award.new.cents c.totals.result (rw c.cells-cells.ensures at c.award.ensures)
    c.totals.ensures
