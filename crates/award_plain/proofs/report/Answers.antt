-- `award_plain::report` meets its contract: an award's flags and cents are put, a refusal leaves both lists. Assumes nothing.
use mathlib.Core.Path.{refl}
use Rattle.award_rule.specs.Plain.{told_in, won_after, cents_after}
use Rattle.award_rule.proofs.ReportLaws.{flags_written, cents_written}
use Rattle.award_plain.proofs.report.Goals as goal

pub returns-in-Ok : goal.returns-in-Ok
returns-in-Ok c =
    let A = c.args in let P = c.requires in rw c.in-Ok.is (
      flags_written A.n A.flags.now A.pays.now A.won.now _ _ P.1.1.0 c.put_owners.ensures.0,
      cents_written A.n A.flags.now A.pays.now A.cents.now _ _ P.1.1.1 c.put_owners.ensures.1,
    )

pub returns-in_default : goal.returns-in_default
unfolding told_in won_after cents_after
returns-in_default c = rw c.in_default.is (refl, refl)
