-- `multi_index::clear_heads` meets its contract: before word q the words below q have no chain. Assumes nothing.
use Rattle.multi_index.proofs.Enlisting.{Clearing}
use Rattle.multi_index.proofs.clear_heads.Given as goal

abbrev pub invariant-loop-q : goal.invariant-loop-q
invariant-loop-q l = Clearing l.initial.index l.index l.q
