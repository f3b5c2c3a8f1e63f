-- `award_thin_masks::thin_masks` meets its contract. Assumes nothing.
use native.Mathlib.Omega.{arith}
use Rattle.multi_market.specs.Market.{has}
use Rattle.award_thin.specs.FirstsLaws.{enough, bare, lone}
use Rattle.award_thin_masks.proofs.thin_masks.Goals as goal

pub returns-then-lone-cells : goal.returns-then-lone-cells
returns-then-lone-cells c =
    let args = c.args in
    enough (has args.masks.now args.w) args.n args.cells c.masks_below-lone.result c.masks_below-lone.ensures
    (omega arith)

pub returns-in-Some : goal.returns-in-Some
returns-in-Some c =
    let args = c.args in
    let found = c.in-Some.ensures in
    bare (has args.masks.now args.w) args.n args.cells c.in-Some.missing found.1 found.0

pub returns-in-None : goal.returns-in-None
returns-in-None c =
    let args = c.args in
    lone (has args.masks.now args.w) args.n args.cells c.masks_below-lone.result args.cells c.masks_below-lone.ensures
    c.if-lone-cells.false c.in-None.ensures (omega arith)
