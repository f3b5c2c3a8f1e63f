-- `multi_index::is_wide` meets its contract: from word q on the hops come to such a word if from word 0 on they do. Assumes nothing.
use Prim.Native.Nat.{◌-◌}
use Rattle.multi_index.proofs.Enlisting.{Widening}
use Rattle.multi_index.proofs.is_wide.Given as goal

abbrev pub invariant-loop-q : goal.invariant-loop-q
invariant-loop-q l = Widening l.masks l.hop l.w l.i l.q

abbrev pub decreases-loop-q : goal.decreases-loop-q
decreases-loop-q l = l.w - l.q
