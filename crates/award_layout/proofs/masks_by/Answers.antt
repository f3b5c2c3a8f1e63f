-- `award_layout::masks_by` meets its contract: the rows passed have the cells of their bids. Assumes nothing.
use mathlib.Core.Path.{sym, ◌∙◌}
use native.Mathlib.Omega.{arith}
use Rattle.tender.specs.Tables.{own}
use Rattle.multi_market.proofs.WordRowLaws.{part_row, row_within}
use Rattle.award_layout.specs.LaidLaws.{row_room}
use Rattle.award_layout.specs.WordRowLaws.{writing_starts, writing_more, writing_ends, row_size}
use Rattle.award_layout.proofs.masks_by.Goals as goal

pub loop-i-init : goal.loop-i-init
loop-i-init c =
    let args = c.args in (
      omega arith,
      writing_starts args.n args.tender args.w args.bids.now args.windows.now args.out.now
          c.requires.1.0,
    )

pub overflow_mul-first : goal.overflow_mul-first
overflow_mul-first c =
    omega (arith, c.requires.0.lent)

pub overflow_add-first : goal.overflow_add-first
overflow_add-first c =
    omega (arith, c.requires.0.lent)

pub offset_bounds-bids-i : goal.offset_bounds-bids-i
offset_bounds-bids-i c =
    omega (arith, c.requires.0.lent)

pub bounds-bids-i : goal.bounds-bids-i
bounds-bids-i c =
    omega (arith, c.requires.0.lent)

pub overflow_mul-count : goal.overflow_mul-count
overflow_mul-count c =
    omega (arith, c.requires.0.lent)

pub overflow_add-count : goal.overflow_add-count
overflow_add-count c =
    omega (arith, c.requires.0.lent)

pub offset_bounds-bids-i-in-loop-i : goal.offset_bounds-bids-i-in-loop-i
offset_bounds-bids-i-in-loop-i c =
    omega (arith, c.requires.0.lent)

pub bounds-bids-i-in-loop-i : goal.bounds-bids-i-in-loop-i
bounds-bids-i-in-loop-i c =
    omega (arith, c.requires.0.lent)

pub overflow_mul-a : goal.overflow_mul-a
overflow_mul-a c =
    let args = c.args in
    omega (arith, c.requires.1.0, row_within args.w args.n c.loop-i.i c.loop-i-test.true)

pub overflow_add-e : goal.overflow_add-e
overflow_add-e c =
    let args = c.args in
    omega (arith, c.requires.1.0, row_within args.w args.n c.loop-i.i c.loop-i-test.true)

pub offset_bounds-out-a : goal.offset_bounds-out-a
offset_bounds-out-a c =
    let args = c.args in
    omega (arith, c.requires.1.0, row_within args.w args.n c.loop-i.i c.loop-i-test.true)

pub mask_row-requires : goal.mask_row-requires
unfolding own
mask_row-requires c =
    let args = c.args in
    let pre = c.requires in (
      row_room args.tender args.n args.bids.now args.windows.now pre.0 c.loop-i.i
          c.loop-i-test.true,
      (
        (pre.0.kept c.loop-i.i c.loop-i-test.true).windows_too,
        rw (part_row c.loop-i.out args.w c.loop-i.i) (
          omega (
            arith,
            row_size c.loop-i.out args.w args.n c.loop-i.i c.loop-i.invariant.1.size
                c.loop-i-test.true,
            pre.1.1.0,
          ),
          omega (
            arith,
            row_size c.loop-i.out args.w args.n c.loop-i.i c.loop-i.invariant.1.size
                c.loop-i-test.true,
            pre.1.1.1,
          ),
        ),
      ),
    )

pub loop-i-preserved : goal.loop-i-preserved
unfolding own
loop-i-preserved c =
    let args = c.args in (
      omega arith,
      writing_more args.n args.tender args.w args.bids.now args.windows.now c.loop-i.i
          c.loop-i.out c.mask_row.new.words c.loop-i.invariant.1 c.loop-i-test.true
          c.mask_row.ensures c.mask_row.auto.words,
    )

pub shape_of-out : goal.shape_of-out
shape_of-out c =
    c.loop-i.invariant.1.size ∙ sym c.requires.1.0

pub returns : goal.returns
returns c =
    let args = c.args in
    writing_ends args.n args.tender args.w args.bids.now args.windows.now c.loop-i.i
    c.loop-i.out c.loop-i.invariant.1 (omega arith)
