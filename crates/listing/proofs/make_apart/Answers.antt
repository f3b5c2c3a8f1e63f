-- The list is made in a buffer of its own, measured, and copied where there is room. Assumes nothing.
use Rattle.std.proofs.Common.{sym, arith}
use Rattle.listing_made.proofs.MakingLaws.{made_few, made_size, listed_apart}
use Rattle.listing.proofs.make_apart.Goals as goal

pub slice_bounds-made-end : goal.slice_bounds-made-end
slice_bounds-made-end c = omega (arith, made_few c.make-n.ensures)

pub slice_bounds-deliver-end : goal.slice_bounds-deliver-end
slice_bounds-deliver-end c = sym (made_size c.make-n.ensures)

pub returns : goal.returns
returns c = listed_apart c.make-n.ensures c.deliver.ensures
