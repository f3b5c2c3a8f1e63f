-- `highest::highest_price` meets its contract: tables with a fault are refused as an award refuses them, the others asked.
-- Assumes nothing.
use mathlib.Core.Path.{sym, ap, ◌∙◌}
use Rattle.award_fault.specs.Checks.{checked_fault}
use Rattle.highest_rule.proofs.AnswerLaws.{nine}
use Rattle.highest.proofs.highest_price.Goals as goal

pub returns-in-Some : goal.returns-in-Some
returns-in-Some c =
    let A = c.args in nine A.tender A.count A.bids.now A.windows.now A.bidder _
    (sym c.fault.ensures ∙ ap checked_fault c.in-Some.is)

pub invariant_of-tables : goal.invariant_of-tables
invariant_of-tables c = record { faultless = sym c.fault.ensures ∙ ap checked_fault c.in_default.is }
