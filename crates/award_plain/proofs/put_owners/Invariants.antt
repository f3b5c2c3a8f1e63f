-- `award_plain::put_owners` meets its contract: each turn writes one place of either list. Assumes nothing.
use lib.ListN.{get_or}
use lib.Dec.{eqb}
use Rattle.cover.specs.Settled.{FilledTo}
use Rattle.cover.specs.Sets.{when}
use Rattle.award_plain.proofs.put_owners.Given as goal

abbrev pub invariant-loop-i : goal.invariant-loop-i
invariant-loop-i l = FilledTo (λ j. when (eqb (get_or l.flags j 0) 1) 1) l.initial.won l.won l.i
