-- `cells::count_to` meets its contract: up to word q the sums are right, and the last of them is `sum`. Assumes nothing.
use native.Mathlib.Omega.{arith}
use Rattle.cells_count.specs.CountsLaws.{counting_on, cells_few}
use Rattle.cells_count.proofs.count_to.Goals as goal

pub overflow_add-sum : goal.overflow_add-sum
overflow_add-sum c =
    omega (
      arith,
      c.ones_of-sum.ensures.1,
      c.loop-q.invariant.1.last,
      cells_few c.args.words.now (λ p. (c.type_inv.words p).fits) c.loop-q.q,
    )

pub loop-q-preserved : goal.loop-q-preserved
loop-q-preserved c = (omega arith, rw c.ones_of-sum.ensures.0 (counting_on c.loop-q.invariant.1 (omega arith)))
