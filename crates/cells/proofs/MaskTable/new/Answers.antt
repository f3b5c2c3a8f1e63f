-- The code's table is the table of masks, computed over all its entries. Assumes nothing.
use Rattle.std.proofs.Common.{refl}
use Rattle.cells.specs.Masks.{masks}
use Rattle.cells.proofs.MaskTable.new.Goals as goal

pub invariant_of-result : goal.invariant_of-result
unfolding masks
invariant_of-result c = record { table = refl }
