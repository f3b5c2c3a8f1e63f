-- `multi_index::enlist_row` meets its contract: before word q bid i is in the chains of the words below q. Assumes nothing.
use Prim.Native.Nat.{◌-◌}
use Rattle.multi_index.proofs.Enlisting.{Enlisting}
use Rattle.multi_index.proofs.enlist_row.Given as goal

abbrev pub invariant-loop-q : goal.invariant-loop-q
invariant-loop-q l = Enlisting l.masks l.w l.i l.initial.index l.at l.index l.t l.q

abbrev pub decreases-loop-q : goal.decreases-loop-q
decreases-loop-q l = l.w - l.q
