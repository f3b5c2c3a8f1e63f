-- `cells::next_from` meets its contract: before word q no cell of a from the first word on is outside b. Assumes nothing.
use native.Mathlib.Omega.{arith}
use Rattle.cells.proofs.LowestLaws.{first_in_word, none_in_word, search_on}
use Rattle.cells.proofs.next_from.Goals as goal

pub returns-then-m-ne0 : goal.returns-then-m-ne0
returns-then-m-ne0 c =
    let args = c.args in
    search_on (omega arith) c.loop-q.invariant.1.1 (first_in_word args.a.now args.b.now c.loop-q.q
    (c.type_inv.a c.loop-q.q).fits (c.type_inv.b c.loop-q.q).fits
    c.if-m-ne0.true (omega arith))

pub loop-q-preserved : goal.loop-q-preserved
loop-q-preserved c =
    let args = c.args in (
      omega arith,
      (
        omega arith,
        none_in_word args.a.now args.b.now c.loop-q.q
            (c.type_inv.a c.loop-q.q).fits (c.type_inv.b c.loop-q.q).fits
            args.first c.if-m-ne0.false c.loop-q.invariant.1.1,
      ),
    )
