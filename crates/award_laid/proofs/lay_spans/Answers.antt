-- `award_laid::lay_spans` meets its contract: prices, starts and ends of the bids are laid out, then the cells are asked or the house
-- is put after them. Assumes nothing.
use mathlib.Core.Path.{refl, sym, ap, ◌∙◌}
use native.Mathlib.Omega.{arith}
use Rattle.tender.specs.declared.Kind.TheVariants.{Single}
use Rattle.award_check.specs.Auction.{houses}
use Rattle.award_layout.specs.LayoutLaws.{orderly, cells_within}
use Rattle.award_laid.specs.LayLaws.{front_count, spans_ready, spans_owners, lays_owners}
use Rattle.award_laid.specs.LayLaws.{house_count, house_starts, house_few, lays_house}
use Rattle.award_laid.specs.EntryLaws.{of_kind}
use Rattle.award_laid.proofs.lay_spans.Goals as goal

pub cells-cells-requires : goal.cells-cells-requires
cells-cells-requires c =
    let T = c.args.tables.now in (cells_within Single T.tender T.count T.bids.now T.windows.now (of_kind T c.requires.0)).0

pub slice_bounds-prices-end-2 : goal.slice_bounds-prices-end-2
slice_bounds-prices-end-2 c =
    sym (front_count _ _ c.args.prices.now c.requires.1.0)

pub prices-requires : goal.prices-requires
prices-requires c =
    let A = c.args in let T = A.tables.now in let P = c.requires in let F = of_kind T P.0 in
    rw (front_count _ _ A.prices.now P.1.0) (orderly Single T.tender T.count T.bids.now T.windows.now F).lent

pub slice_bounds-spans-end-2 : goal.slice_bounds-spans-end-2
slice_bounds-spans-end-2 c =
    sym (front_count _ _ c.args.starts.now c.requires.1.1.0)

pub slice_bounds-spans-end-4 : goal.slice_bounds-spans-end-4
slice_bounds-spans-end-4 c =
    sym (front_count _ _ c.args.ends.now c.requires.1.1.1.0)

pub spans-requires : goal.spans-requires
spans-requires c =
    let A = c.args in let T = A.tables.now in let P = c.requires in let F = of_kind T P.0 in
    rw (front_count _ _ A.starts.now P.1.1.0, front_count _ _ A.ends.now P.1.1.1.0) (
      orderly Single T.tender T.count T.bids.now T.windows.now F,
      (refl, (cells_within Single T.tender T.count T.bids.now T.windows.now F).0),
    )

pub ask-requires : goal.ask-requires
ask-requires c =
    let A = c.args in let T = A.tables.now in let P = c.requires in let F = of_kind T P.0 in
    let R = spans_ready T.tender T.count T.bids.now T.windows.now A.prices.now A.starts.now A.ends.now
    c.prices.new.out c.spans.new.starts c.spans.new.ends F P.1.0 P.1.1.0 P.1.1.1.0
    (c.spans.auto.starts ∙ front_count _ _ A.starts.now P.1.1.0)
    (c.spans.auto.ends ∙ front_count _ _ A.ends.now P.1.1.1.0)
    (rw (front_count _ _ A.prices.now P.1.0) at c.prices.ensures)
    (rw (front_count _ _ A.starts.now P.1.1.0) at c.spans.ensures) in
    rw c.cells-cells.ensures (
      spans_owners _ _ _ _ _ _ _ R c.in-None.is,
      (
        (cells_within Single T.tender T.count T.bids.now T.windows.now F).1,
        omega (arith, R.start_count, P.1.1.1.1),
      ),
    )

pub put_house-requires : goal.put_house-requires
put_house-requires c =
    let A = c.args in let T = A.tables.now in let P = c.requires in let F = of_kind T P.0 in
    let R = spans_ready T.tender T.count T.bids.now T.windows.now A.prices.now A.starts.now A.ends.now
    c.prices.new.out c.spans.new.starts c.spans.new.ends F P.1.0 P.1.1.0 P.1.1.1.0
    (c.spans.auto.starts ∙ front_count _ _ A.starts.now P.1.1.0)
    (c.spans.auto.ends ∙ front_count _ _ A.ends.now P.1.1.1.0)
    (rw (front_count _ _ A.prices.now P.1.0) at c.prices.ensures)
    (rw (front_count _ _ A.starts.now P.1.1.0) at c.spans.ensures) in
    let h = ap houses c.in-Some.is in
    (omega (arith, h, R.price_count), (omega (arith, h, R.start_count), omega (arith, h, R.end_count)))

pub by_start-requires : goal.by_start-requires
by_start-requires c =
    let A = c.args in let T = A.tables.now in let P = c.requires in let F = of_kind T P.0 in
    let R = spans_ready T.tender T.count T.bids.now T.windows.now A.prices.now A.starts.now A.ends.now
    c.prices.new.out c.spans.new.starts c.spans.new.ends F P.1.0 P.1.1.0 P.1.1.1.0
    (c.spans.auto.starts ∙ front_count _ _ A.starts.now P.1.1.0)
    (c.spans.auto.ends ∙ front_count _ _ A.ends.now P.1.1.1.0)
    (rw (front_count _ _ A.prices.now P.1.0) at c.prices.ensures)
    (rw (front_count _ _ A.starts.now P.1.1.0) at c.spans.ensures) in
    let H = c.put_house in let e = c.in-Some.is in
    rw (H.ensures.1.0, c.cells-cells.ensures) (record {
      n_le_max_entries = (
        omega (arith, house_few _ _ _ _ _ _ _ R _ e),
        omega arith,
        (cells_within Single T.tender T.count T.bids.now T.windows.now F).1,
        omega (arith, house_count _ _ _ _ _ _ _ R _ e, P.1.1.1.1),
      );
      by_index = λ i l. house_starts _ _ _ _ _ _ _ R _ e i;
    })

pub returns-in-None : goal.returns-in-None
returns-in-None c =
    let A = c.args in let T = A.tables.now in let P = c.requires in let F = of_kind T P.0 in
    let R = spans_ready T.tender T.count T.bids.now T.windows.now A.prices.now A.starts.now A.ends.now
    c.prices.new.out c.spans.new.starts c.spans.new.ends F P.1.0 P.1.1.0 P.1.1.1.0
    (c.spans.auto.starts ∙ front_count _ _ A.starts.now P.1.1.0)
    (c.spans.auto.ends ∙ front_count _ _ A.ends.now P.1.1.1.0)
    (rw (front_count _ _ A.prices.now P.1.0) at c.prices.ensures)
    (rw (front_count _ _ A.starts.now P.1.1.0) at c.spans.ensures) in
    let ask = c.ask in
    lays_owners _ _ _ _ _ _ _ R c.in-None.is _ ask.result (rw c.cells-cells.ensures at ask.ensures.0) ask.ensures.1

pub returns-in-Some : goal.returns-in-Some
returns-in-Some c =
    let A = c.args in let T = A.tables.now in let P = c.requires in let F = of_kind T P.0 in
    let R = spans_ready T.tender T.count T.bids.now T.windows.now A.prices.now A.starts.now A.ends.now
    c.prices.new.out c.spans.new.starts c.spans.new.ends F P.1.0 P.1.1.0 P.1.1.1.0
    (c.spans.auto.starts ∙ front_count _ _ A.starts.now P.1.1.0)
    (c.spans.auto.ends ∙ front_count _ _ A.ends.now P.1.1.1.0)
    (rw (front_count _ _ A.prices.now P.1.0) at c.prices.ensures)
    (rw (front_count _ _ A.starts.now P.1.1.0) at c.spans.ensures) in
    let H = c.put_house in
    rw (H.ensures.0, H.ensures.1.0, H.ensures.1.1, c.cells-cells.ensures)
    (lays_house _ _ _ _ _ _ _ R _ c.in-Some.is _ (rw H.ensures.1.0 at c.by_start.ensures))
