-- `single_select::rows::mark` meets its contract: each bit of the row is a flag. Assumes nothing.
use lib.ListN.{length-set}
use Rattle.cover.proofs.SettledLaws.{written_more}
use Rattle.single_select.specs.ExtendLaws.{bit_row}
use native.Mathlib.Omega.{arith}
use Rattle.single_select.proofs.rows.mark.Goals as goal

pub loop-i-preserved : goal.loop-i-preserved
loop-i-preserved c = (
  omega arith,
  simp length-set (omega arith),
  written_more _ _ _ _ _ (omega arith) (bit_row _ _ _ (λ j. omega (arith, c.type_inv.sets j)) (omega arith))
      c.loop-i.invariant.2,
)
