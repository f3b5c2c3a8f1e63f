-- `award_plain::totals` meets its contract: it makes the two sums and asks for the house. Assumes nothing.
use Rattle.award_rule.proofs.SumsLaws.{totals_in_lem}
use Rattle.award_plain.proofs.totals.Goals as goal

pub returns : goal.returns
returns c = totals_in_lem _ _ _ _ _ c.cost-cost.ensures c.paid-paid.ensures c.house-house.ensures
