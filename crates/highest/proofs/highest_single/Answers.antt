-- `highest::highest_single` meets its contract: the places lent are as many as the entries. Assumes nothing.
use mathlib.Core.Path.{sym}
use native.Mathlib.Omega.{arith}
use Rattle.tender.specs.declared.Kind.TheVariants.{Single}
use Rattle.tender.specs.Limits.{max_entries}
use Rattle.award_layout.specs.LayoutLaws.{orderly}
use Rattle.award_laid.specs.EntryLaws.{of_kind, entries_few, prefix_length}
use Rattle.highest.proofs.highest_single.Goals as goal

pub entries-entries-requires : goal.entries-entries-requires
entries-entries-requires c = let A = c.args in let T = A.tables.now in (orderly Single T.tender T.count T.bids.now T.windows.now (of_kind T c.requires)).few

pub slice_bounds-prices-end : goal.slice_bounds-prices-end
slice_bounds-prices-end c = let A = c.args in let T = A.tables.now in
    omega (arith, c.entries-entries.ensures, entries_few Single T.tender T.count T.bids.now T.windows.now (of_kind T c.requires))

pub slice_bounds-single_in-end : goal.slice_bounds-single_in-end
slice_bounds-single_in-end c =
    let A = c.args in let T = A.tables.now in sym (prefix_length c.entries-entries.result max_entries
    (omega (arith, c.entries-entries.ensures, entries_few Single T.tender T.count T.bids.now T.windows.now (of_kind T c.requires))))

pub slice_bounds-starts-end : goal.slice_bounds-starts-end
slice_bounds-starts-end c =
    let A = c.args in let T = A.tables.now in
    omega (arith, c.entries-entries.ensures, entries_few Single T.tender T.count T.bids.now T.windows.now (of_kind T c.requires))

pub slice_bounds-single_in-end-2 : goal.slice_bounds-single_in-end-2
slice_bounds-single_in-end-2 c =
    let A = c.args in let T = A.tables.now in sym (prefix_length c.entries-entries.result max_entries
    (omega (arith, c.entries-entries.ensures, entries_few Single T.tender T.count T.bids.now T.windows.now (of_kind T c.requires))))

pub slice_bounds-ends-end : goal.slice_bounds-ends-end
slice_bounds-ends-end c =
    let A = c.args in let T = A.tables.now in
    omega (arith, c.entries-entries.ensures, entries_few Single T.tender T.count T.bids.now T.windows.now (of_kind T c.requires))

pub slice_bounds-single_in-end-3 : goal.slice_bounds-single_in-end-3
slice_bounds-single_in-end-3 c =
    let A = c.args in let T = A.tables.now in sym (prefix_length c.entries-entries.result max_entries
    (omega (arith, c.entries-entries.ensures, entries_few Single T.tender T.count T.bids.now T.windows.now (of_kind T c.requires))))

pub single_in-requires : goal.single_in-requires
single_in-requires c =
    let A = c.args in let T = A.tables.now in let P = c.requires in let e = c.entries-entries.ensures in
    let f = entries_few Single T.tender T.count T.bids.now T.windows.now (of_kind T P) in
    rw (prefix_length c.entries-entries.result max_entries (omega (arith, e, f))) (P, (e, (e, (e, omega (arith, e, f)))))
