-- `award_fault::row_keeps` meets its contract: each way out rewrites with the tests that led there. Assumes nothing.
use native.Mathlib.Omega.{arith}
use borrow.Author.Tests.{le-leb, lt-leb, eq-eqb, ne_eqb}
use lib.ListN.{length}
use Prim.Native.Nat.{◌+◌, ◌/◌}
use Rattle.tender.specs.Tables.{own, window_width}
use Rattle.award_check.specs.Faults.{keeps}
use Rattle.award_fault.proofs.row_keeps.Goals as goal

pub returns-then-not-between : goal.returns-then-not-between
unfolding keeps own
returns-then-not-between c = rw (← c.between.ensures, c.if-not-between.true)

pub returns-then-price-gt100000000 : goal.returns-then-price-gt100000000
unfolding keeps own
returns-then-price-gt100000000 c = rw (
  ← c.between.ensures,
  c.if-not-between.false,
  lt-leb _ _ c.if-price-gt100000000.true,
)

pub returns-then-not-between-2 : goal.returns-then-not-between-2
unfolding keeps own
returns-then-not-between-2 c =
    rw (
      ← c.between.ensures,
      c.if-not-between.false,
      le-leb _ _ c.if-price-gt100000000.false,
      ← c.most_windows.ensures,
      ← c.between-2.ensures,
      c.if-not-between-2.true,
    )

pub returns-then-first-at : goal.returns-then-first-at
unfolding keeps own
returns-then-first-at c =
    rw (
      ← c.between.ensures,
      c.if-not-between.false,
      le-leb _ _ c.if-price-gt100000000.false,
      ← c.most_windows.ensures,
      ← c.between-2.ensures,
      c.if-not-between-2.false,
      ne_eqb _ _ c.if-first-at.true,
    )

pub returns-then-windows-at : goal.returns-then-windows-at
unfolding keeps own
returns-then-windows-at c =
    let args = c.args in
    rw (
      ← c.between.ensures,
      c.if-not-between.false,
      le-leb _ _ c.if-price-gt100000000.false,
      ← c.most_windows.ensures,
      ← c.between-2.ensures,
      c.if-not-between-2.false,
      eq-eqb _ _ c.if-first-at.false,
      lt-leb (args.at + args.count) (length args.windows.now / window_width) (omega arith),
    )

pub returns : goal.returns
unfolding keeps own
returns c =
    let args = c.args in
    rw (
      ← c.between.ensures,
      c.if-not-between.false,
      le-leb _ _ c.if-price-gt100000000.false,
      ← c.most_windows.ensures,
      ← c.between-2.ensures,
      c.if-not-between-2.false,
      eq-eqb _ _ c.if-first-at.false,
      le-leb (args.at + args.count) (length args.windows.now / window_width) (omega arith),
    )
    (rw c.if-first-at.false c.windows_lawful.ensures)
