-- `award_fault::row_fault` meets its contract: the rows not yet passed have the first fault of all, and the words hold the bidder
-- numbers of those passed. Assumes nothing.
use Rattle.numbers.specs.Members.{members}
use Rattle.award_check.proofs.WalkLaws.{Going}
use Rattle.award_fault.proofs.row_fault.Given as goal

abbrev pub invariant-loop-j : goal.invariant-loop-j
invariant-loop-j l = Going l.tender l.count l.bids l.windows (members l.used) l.at l.j
