-- Each turn writes the last digit of what is left. Assumes nothing.
use Rattle.spelling.proofs.SpellingLaws.{Spelling}
use Rattle.spelling_put.proofs.spell.Given as goal

abbrev pub invariant-loop-v : goal.invariant-loop-v
invariant-loop-v l = Spelling l.n l.digits l.v l.i

abbrev pub decreases-loop-v : goal.decreases-loop-v
decreases-loop-v l = l.v
