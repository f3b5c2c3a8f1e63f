use Rattle.std.proofs.Common.{arith}
use Rattle.test_worked.proofs.texts.Text.put.Goals as goal

-- The check finds this alone; as an answer it names the values at which a wrong length is past the buffer.
pub invariant_of-self : goal.invariant_of-self
invariant_of-self c = record { within = omega arith }
