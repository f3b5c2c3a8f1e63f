-- `award_plain::cost` meets its contract: each turn adds what one entry asks. Assumes nothing.
use lib.ListN.{length}
use Rattle.award_rule.specs.Sums.{asked}
use Rattle.award_rule.proofs.SumsLaws.{Added}
use Rattle.award_plain.proofs.cost.Given as goal

abbrev pub invariant-loop-i : goal.invariant-loop-i
invariant-loop-i l = Added (asked l.prices l.won) (length l.prices) l.i l.s
