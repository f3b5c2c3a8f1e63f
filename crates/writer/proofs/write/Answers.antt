-- Tables with a fault are refused as an award refuses them, and the others written. Assumes nothing.
use mathlib.Core.Path.{◌∙◌, sym, ap}
use Rattle.award_fault.specs.Checks.{checked_fault}
use Rattle.writer.specs.WritesLaws.{writes_nine}
use Rattle.writer.proofs.write.Goals as goal

pub invariant_of-tables : goal.invariant_of-tables
invariant_of-tables c = record { faultless = sym c.fault.ensures ∙ ap checked_fault c.in-None.is }

pub returns-in-Some : goal.returns-in-Some
returns-in-Some c =
    let args = c.args in
    writes_nine args.tender args.count args.bids.now args.windows.now args.text.now _
    (sym c.fault.ensures ∙ ap checked_fault c.in-Some.is)
