-- What was read fits the buffer, which has room for any list. Assumes nothing.
use mathlib.Core.Path.{sym}
use borrow.Author.Tests.{lt-ltb}
use Rattle.listing_made.proofs.MakingLaws.{made_some, made_size, made_inside}
use borrow.Author.Rules.{rules}
use Rattle.list.proofs.list_long.Goals as goal

pub make_in-k-requires : goal.make_in-k-requires
make_in-k-requires g c =
    (c.in-Ok.ensures, search rules)

pub expect-requires : goal.expect-requires
expect-requires g c = lt-ltb 0 c.make_in-k.result (made_some c.make_in-k.ensures)

pub slice_bounds-buf-end-in-Ok : goal.slice_bounds-buf-end-in-Ok
slice_bounds-buf-end-in-Ok g c = made_inside c.make_in-k.ensures

pub slice_bounds-write_list-end : goal.slice_bounds-write_list-end
slice_bounds-write_list-end g c = sym (made_size c.make_in-k.ensures)
