-- `award_laid::lay_masks` meets its contract: prices and words of the bids are laid out, then the cells are asked or the house is put
-- after them. Assumes nothing.
use mathlib.Core.Path.{ap, ◌∙◌}
use native.Mathlib.Omega.{arith}
use Rattle.tender.specs.declared.Kind.TheVariants.{Multi}
use Rattle.award_check.specs.Auction.{houses}
use Rattle.award_layout.specs.LayoutLaws.{orderly, cells_within}
use Rattle.award_laid.specs.LayLaws.{words_of, front_count, word_front, rows_only, masks_ready, masks_owners, masks_house, house_words}
use Rattle.award_laid.specs.EntryLaws.{of_kind}
use Rattle.award_laid.proofs.lay_masks.Goals as goal

pub cells-cells-requires : goal.cells-cells-requires
cells-cells-requires c =
    let T = c.args.tables.now in (cells_within Multi T.tender T.count T.bids.now T.windows.now (of_kind T c.requires.0)).0

pub prices-requires : goal.prices-requires
prices-requires c =
    let A = c.args in let T = A.tables.now in let P = c.requires in let F = of_kind T P.0 in
    rw (front_count _ _ A.prices.now P.1.1.0) (orderly Multi T.tender T.count T.bids.now T.windows.now F).lent

pub masks-requires : goal.masks-requires
masks-requires c =
    let A = c.args in let T = A.tables.now in let P = c.requires in let F = of_kind T P.0 in
    let d = words_of Multi T.tender T.count A.w T.bids.now T.windows.now F P.1.0 in (
      orderly Multi T.tender T.count T.bids.now T.windows.now F,
      (
        word_front _ _ _ A.masks.now P.1.1.1,
        (((cells_within Multi T.tender T.count T.bids.now T.windows.now F).0, d.fits), d.words),
      ),
    )

pub thin_masks-requires : goal.thin_masks-requires
thin_masks-requires c =
    let A = c.args in let T = A.tables.now in let P = c.requires in let F = of_kind T P.0 in
    let d = words_of Multi T.tender T.count A.w T.bids.now T.windows.now F P.1.0 in
    let R = masks_ready T.tender T.count A.w T.bids.now T.windows.now A.prices.now A.masks.now
    c.prices.new.out c.masks.new.out P.1.1.0 P.1.1.1
    (c.masks.auto.out ∙ word_front _ _ _ A.masks.now P.1.1.1)
    (rw (front_count _ _ A.prices.now P.1.1.0) at c.prices.ensures) c.masks.ensures in (
      R.word_count ∙ rows_only A.w T.count _ (ap houses c.in-None.is),
      (d.words, omega (arith, c.cells-cells.ensures, d.fits)),
    )

pub unlock-requires : goal.unlock-requires
unlock-requires c =
    let A = c.args in let T = A.tables.now in let P = c.requires in let F = of_kind T P.0 in
    let d = words_of Multi T.tender T.count A.w T.bids.now T.windows.now F P.1.0 in
    let R = masks_ready T.tender T.count A.w T.bids.now T.windows.now A.prices.now A.masks.now
    c.prices.new.out c.masks.new.out P.1.1.0 P.1.1.1
    (c.masks.auto.out ∙ word_front _ _ _ A.masks.now P.1.1.1)
    (rw (front_count _ _ A.prices.now P.1.1.0) at c.prices.ensures) c.masks.ensures in
    let e = house_words _ _ _ _ _ _ _ R _ c.in-Some.is in
    (omega (arith, c.cells-cells.ensures, d.fits, e), omega (arith, d.words, e))

pub returns-in-None : goal.returns-in-None
returns-in-None c =
    let A = c.args in let T = A.tables.now in let P = c.requires in let F = of_kind T P.0 in
    let R = masks_ready T.tender T.count A.w T.bids.now T.windows.now A.prices.now A.masks.now
    c.prices.new.out c.masks.new.out P.1.1.0 P.1.1.1
    (c.masks.auto.out ∙ word_front _ _ _ A.masks.now P.1.1.1)
    (rw (front_count _ _ A.prices.now P.1.1.0) at c.prices.ensures) c.masks.ensures in
    masks_owners _ _ _ _ _ _ _ R c.in-None.is c.thin_masks.result (rw c.cells-cells.ensures at c.thin_masks.ensures)

pub returns-in-Some : goal.returns-in-Some
returns-in-Some c =
    let A = c.args in let T = A.tables.now in let P = c.requires in let F = of_kind T P.0 in
    let R = masks_ready T.tender T.count A.w T.bids.now T.windows.now A.prices.now A.masks.now
    c.prices.new.out c.masks.new.out P.1.1.0 P.1.1.1
    (c.masks.auto.out ∙ word_front _ _ _ A.masks.now P.1.1.1)
    (rw (front_count _ _ A.prices.now P.1.1.0) at c.prices.ensures) c.masks.ensures in
    masks_house _ _ _ _ _ _ _ R _ c.in-Some.is c.unlock.new.held
    (c.unlock.auto.held ∙ house_words _ _ _ _ _ _ _ R _ c.in-Some.is)
    (rw c.cells-cells.ensures at c.unlock.ensures)
