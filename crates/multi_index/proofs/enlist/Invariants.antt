-- `multi_index::enlist` meets its contract: before bid i each bid below i is in the chains of its words, or in `ever`. Assumes nothing.
use Rattle.multi_index.proofs.Enlisting.{Indexing}
use Rattle.multi_index.proofs.enlist.Given as goal

abbrev pub invariant-loop-i : goal.invariant-loop-i
invariant-loop-i l = Indexing l.bids.masks.now l.bids.w l.initial.index l.index l.ever l.t l.i
