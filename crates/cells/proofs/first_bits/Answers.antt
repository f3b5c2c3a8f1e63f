-- `cells::first_bits` meets its contract: the table's rule at entry k. Assumes nothing.
use Rattle.std.proofs.Common.{◌≡◌, ap, ◌∙◌, arith, length}
use Rattle.cells.proofs.MasksLaws.{masks_length, mask_rule}
use Rattle.cells.proofs.first_bits.Goals as goal

pub bounds-table-k : goal.bounds-table-k
bounds-table-k c =
    let e : length c.args.table.now.bits ≡ 65 = ap length c.args.table.now.table ∙ masks_length in omega arith

pub returns : goal.returns
returns c = rw c.args.table.now.table (let r = mask_rule c.args.k (omega arith) in record { value = r.0; span = r.1 })
