-- `multi_index::is_wide` meets its contract: from word q on the hops come to such a word if from word 0 on they do. Assumes nothing.
use Rattle.std.proofs.Common.{arith}
use Rattle.multi_index.proofs.Enlisting.{widens_more, says_wide, says_narrow, hop_on}
use Rattle.multi_index.proofs.is_wide.Goals as goal
use Rattle.multi_index.proofs.is_wide.Goals.{else-masks-a-via-then-masks-a+else-q-e, else-masks-a-via-else-masks-a}

pub returns-then-q-e : goal.returns-then-q-e
returns-then-q-e c =
    let P = c.requires in
    says_wide c.loop-q.invariant P.1.0 P.1.1.1.0 c.loop-q-test.true c.if-masks-a.true (rw c.from-e.ensures at c.if-q-e.true)

pub loop-q-smaller : goal.loop-q-smaller
loop-q-smaller c =
    let P = c.requires in
    omega (arith, c.from-e.ensures, hop_on c.loop-q.invariant P.1.0 P.1.1.1.0 c.loop-q-test.true)

pub loop-q-preserved : goal.loop-q-preserved
loop-q-preserved c =
    let P = c.requires in
    rw c.from-e.ensures (widens_more c.loop-q.invariant P.1.0 P.1.1.1.0 c.loop-q-test.true (λ a b.
    elim c.else-masks-a.branch [
      | else-masks-a-via-then-masks-a+else-q-e w ↦ omega (arith, b, c.from-e.ensures, w.if-q-e.false)
      | else-masks-a-via-else-masks-a w ↦ w.if-masks-a.false a
    ]))

pub returns : goal.returns
returns c = says_narrow c.loop-q.invariant c.requires.1.0 (omega arith)
