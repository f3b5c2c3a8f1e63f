-- `highest::ask_masks` meets its contract: the row's bid would win below its limit, and no row is 17. Assumes nothing.
use mathlib.Core.Path.{ap, sym, ◌∙◌}
use native.Mathlib.Omega.{arith}
use Rattle.tender.specs.declared.Kind.TheVariants.{Multi}
use Rattle.award_layout.specs.LayoutLaws.{orderly, cells_within}
use Rattle.award_laid.specs.LayLaws.{words_of}
use Rattle.award_laid.specs.EntryLaws.{market}
use Rattle.highest.specs.AskingLaws.{masks_missing, masks_price}
use Rattle.std.specs.Prelude.{Ok}
use Rattle.highest_rule.proofs.RowLaws.{row_inside}
use Rattle.highest.specs.Asking.{found_row}
use Rattle.highest.proofs.ask_masks.Goals as goal

pub row_with-requires : goal.row_with-requires
row_with-requires c =
    let A = c.args in (orderly Multi A.tender A.count A.bids.now A.windows.now c.requires.sound).lent

pub cells-cells-requires : goal.cells-cells-requires
cells-cells-requires c =
    let A = c.args in (cells_within Multi A.tender A.count A.bids.now A.windows.now c.requires.sound).0

pub below-requires : goal.below-requires
below-requires c =
    let A = c.args in let P = c.requires in
    let n = cells_within Multi A.tender A.count A.bids.now A.windows.now P.sound in
    let l = (row_inside _ _ _ _ (sym c.row_with.ensures ∙ ap found_row c.in-Some.is)).0 in
    let d = words_of Multi A.tender A.count A.w A.bids.now A.windows.now P.sound P.words in (
      market A.tender A.count A.w A.bids.now A.windows.now _ _ (Ok tt) P.sound P.laid d P.word_count,
      (
        omega (arith, n, c.cells-cells.ensures),
        (omega (arith, d.fits, c.cells-cells.ensures), omega (arith, l, P.price_count)),
      ),
    )

pub returns : goal.returns
returns c =
    let A = c.args in
    c.told.ensures ∙ masks_price A.tender A.w A.count A.bids.now A.windows.now _ _ c.requires A.bidder _ _
    (sym c.row_with.ensures ∙ ap found_row c.in-Some.is) (rw c.cells-cells.ensures at c.below.ensures.0)

pub returns-in_default : goal.returns-in_default
returns-in_default c =
    let A = c.args in
    masks_missing A.tender A.w A.count A.bids.now A.windows.now _ _ c.requires A.bidder
    (sym c.row_with.ensures ∙ ap found_row c.in_default.is)
