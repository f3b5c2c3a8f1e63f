-- `multi_index::enlist` meets its contract: before bid i each bid below i is in the chains of its words, or in `ever`. Assumes nothing.
use Rattle.std.proofs.Common.{◌∙◌, arith}
use Rattle.multi_index.proofs.Enlisting.{indexes_none}
use Rattle.multi_index.proofs.enlist.Goals as goal

pub loop-i-init : goal.loop-i-init
loop-i-init c =
    let heads = c.clear_heads in let P = c.requires in
    indexes_none (omega (arith, heads.auto.index, P.1.0)) (c.clear.auto.xs ∙ P.1.1) heads.ensures
