-- `award_plain::paid` meets its contract: each turn adds one payment. Assumes nothing.
use lib.ListN.{get_or}
use Rattle.award_rule.proofs.SumsLaws.{Added}
use Rattle.award_plain.proofs.paid.Given as goal

abbrev pub invariant-loop-i : goal.invariant-loop-i
invariant-loop-i l = Added (λ j. get_or l.cents j 0) l.owners l.i l.s
