-- `cells::next` meets its contract: the rest of the word where the search starts, then the words after it. Assumes nothing.
use Prim.Native.Nat.{◌/◌}
use native.Mathlib.Omega.{arith}
use Rattle.cells.proofs.LowestLaws.{first_at, none_at, search_on}
use Rattle.cells.proofs.next.Goals as goal

pub returns-then-m-ne0 : goal.returns-then-m-ne0
returns-then-m-ne0 c =
    let args = c.args in
    let x = args.from in first_at args.a.now args.b.now x (c.type_inv.a (x / 64)).fits
    (c.type_inv.b (x / 64)).fits c.if-m-ne0.true (omega arith)

pub returns-then-q-a : goal.returns-then-q-a
returns-then-q-a c =
    let args = c.args in
    let x = args.from in search_on (omega arith) (none_at args.a.now args.b.now x (c.type_inv.a (x / 64)).fits
    (c.type_inv.b (x / 64)).fits c.if-m-ne0.false) c.next_from.ensures
