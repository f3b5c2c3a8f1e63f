-- `highest::highest_multi` meets its contract: the places lent are as many as the entries and their words need. Assumes nothing.
use mathlib.Core.Path.{sym, ap}
use Prim.Native.Nat.{ℕ, ◌+◌, ◌*◌, ◌/◌}
use native.Mathlib.Omega.{arith}
use Rattle.tender.specs.declared.Kind.TheVariants.{Multi}
use Rattle.tender.specs.Limits.{max_entries}
use Rattle.award_layout.specs.LayoutLaws.{orderly, cells_within}
use Rattle.award_laid.specs.EntryLaws.{of_kind, entries_few, words_room, prefix_length}
use Rattle.highest.proofs.highest_multi.Goals as goal

pub cells-requires : goal.cells-requires
cells-requires c = let A = c.args in let T = A.tables.now in (cells_within Multi T.tender T.count T.bids.now T.windows.now (of_kind T c.requires)).0

pub overflow_add-w : goal.overflow_add-w
overflow_add-w c = let A = c.args in let T = A.tables.now in
    omega (arith, c.cells.ensures, (cells_within Multi T.tender T.count T.bids.now T.windows.now (of_kind T c.requires)).1)

pub entries-entries-requires : goal.entries-entries-requires
entries-entries-requires c = let A = c.args in let T = A.tables.now in (orderly Multi T.tender T.count T.bids.now T.windows.now (of_kind T c.requires)).few

pub overflow_mul-all : goal.overflow_mul-all
overflow_mul-all c =
    let A = c.args in let T = A.tables.now in omega (
      arith,
      words_room T.tender T.count c.entries-entries.result c.cells.result T.bids.now T.windows.now (of_kind T c.requires)
          c.entries-entries.ensures c.cells.ensures,
    )

pub slice_bounds-prices-end : goal.slice_bounds-prices-end
slice_bounds-prices-end c =
    let A = c.args in let T = A.tables.now in
    omega (arith, c.entries-entries.ensures, entries_few Multi T.tender T.count T.bids.now T.windows.now (of_kind T c.requires))

pub slice_bounds-multi_in-end : goal.slice_bounds-multi_in-end
slice_bounds-multi_in-end c =
    let A = c.args in let T = A.tables.now in sym (prefix_length c.entries-entries.result max_entries
    (omega (arith, c.entries-entries.ensures, entries_few Multi T.tender T.count T.bids.now T.windows.now (of_kind T c.requires))))

pub slice_bounds-masks-end : goal.slice_bounds-masks-end
slice_bounds-masks-end c =
    let A = c.args in let T = A.tables.now in omega (
      arith,
      words_room T.tender T.count c.entries-entries.result c.cells.result T.bids.now T.windows.now (of_kind T c.requires)
          c.entries-entries.ensures c.cells.ensures,
    )

pub slice_bounds-multi_in-end-2 : goal.slice_bounds-multi_in-end-2
slice_bounds-multi_in-end-2 c =
    let A = c.args in let T = A.tables.now in sym (prefix_length ((c.cells.result + 63) / 64 * c.entries-entries.result) (158 * max_entries)
    (words_room T.tender T.count c.entries-entries.result c.cells.result T.bids.now T.windows.now (of_kind T c.requires)
    c.entries-entries.ensures c.cells.ensures))

pub multi_in-requires : goal.multi_in-requires
multi_in-requires c =
    let A = c.args in let T = A.tables.now in let P = c.requires in let e = c.entries-entries.ensures in
    let f = entries_few Multi T.tender T.count T.bids.now T.windows.now (of_kind T P) in
    rw (
      prefix_length c.entries-entries.result max_entries (omega (arith, e, f)),
      prefix_length ((c.cells.result + 63) / 64 * c.entries-entries.result) (158 * max_entries)
          (words_room T.tender T.count c.entries-entries.result c.cells.result T.bids.now T.windows.now (of_kind T P) e c.cells.ensures),
    ) (P, (ap (λ (v : ℕ). (v + 63) / 64) c.cells.ensures, (e, ap (λ (m : ℕ). (c.cells.result + 63) / 64 * m) e)))
