-- A text that leaves room in the first buffer has a list for which the second has room; a longer one is read on. Assumes nothing.
use mathlib.Core.Path.{sym}
use native.Mathlib.Omega.{arith}
use lib.Seq.{length-take-le}
use borrow.Author.Tests.{lt-ltb}
use Rattle.listing_made.proofs.MakingLaws.{made_some, made_size, made_inside}
use Rattle.list.proofs.main.Goals as goal

pub slice_bounds-make-end : goal.slice_bounds-make-end
slice_bounds-make-end c =
    sym (length-take-le c.in-Ok.n c.read_on.new.buf c.in-Ok.ensures)

pub make-k-requires : goal.make-k-requires
make-k-requires c =
    let inside = c.in-Ok.ensures in
    omega (arith, length-take-le c.in-Ok.n c.read_on.new.buf inside)

pub expect-requires : goal.expect-requires
expect-requires c = lt-ltb 0 c.make-k.result (made_some c.make-k.ensures)

pub slice_bounds-list-end : goal.slice_bounds-list-end
slice_bounds-list-end c = made_inside c.make-k.ensures

pub slice_bounds-write_list-end : goal.slice_bounds-write_list-end
slice_bounds-write_list-end c = sym (made_size c.make-k.ensures)
