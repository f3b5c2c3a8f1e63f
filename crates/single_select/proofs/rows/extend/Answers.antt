-- `single_select::rows::extend` meets its contract: the copied row has no bit of the bid, so its word has room. Assumes nothing.
use Rattle.single_select.specs.ExtendLaws.{word_room, row_extended}
use Prim.Native.Nat.{◌/◌}
use native.Mathlib.Omega.{arith}
use borrow.Author.Rules.{rules}
use Rattle.single_select.proofs.rows.extend.Goals as goal

pub overflow_add-sets : goal.overflow_add-sets
overflow_add-sets c =
    let args = c.args in
    omega (
      arith,
      c.mask.ensures,
      c.copy_row.ensures.written (args.i / 64) (omega arith),
      word_room args.sets.now args.from args.i (λ j. search rules) (omega arith) c.requires.i_value,
    )

pub returns : goal.returns
returns c =
    rw c.mask.ensures (row_extended _ _ _ _ (omega arith) (omega arith) c.copy_row.ensures)
