-- `award_thin_masks::first_below` meets its contract: the first of the cells that is not among those with two bidders. Assumes nothing.
use mathlib.Core.Path.{◌∙◌}
use Rattle.award_thin_masks.specs.MasksLaws.{first_is}
use Rattle.award_thin_masks.proofs.first_below.Goals as goal

pub returns : goal.returns
returns c =
    let args = c.args in
    let pre = c.requires in
    rw c.min.ensures
    (first_is args.masks.now args.w args.n args.cells c.unlock.new.held c.gather.new.enough
    c.next.result c.unlock.ensures c.gather.ensures c.next.ensures
    (c.unlock.auto.held ∙ pre.1.1.1.0) pre.1.1.0)
