-- `award_settle::settle_sound` meets its contract: what is settled of all entries is reported of the owners'. Assumes nothing.
use Prim.Native.Nat.{ℕ}
use native.Mathlib.Omega.{arith}
use lib.ListN.{length-replicate}
use Rattle.tender.specs.Limits.{max_entries}
use Rattle.award_layout.specs.LayoutLaws.{orderly}
use Rattle.award_rule.proofs.ReportLaws.{reported}
use Rattle.award_settle.proofs.settle_sound.Goals as goal

pub report-requires : goal.report-requires
report-requires c =
    let T = c.args.tables.now in let K = c.settle_entries-answer.auto in
    let o = orderly T.tender.kind T.tender T.count T.bids.now T.windows.now T.faultless in (
      omega (arith, o.few, K.flags, length-replicate {A = ℕ} max_entries 1),
      (omega (arith, o.few, K.pays, length-replicate {A = ℕ} max_entries 1), c.requires),
    )

pub returns : goal.returns
returns c =
    let A = c.args in let T = A.tables.now in reported T.tender.kind T.tender T.count T.bids.now T.windows.now
    c.settle_entries-answer.new.flags c.settle_entries-answer.new.pays A.won.now A.cents.now _ _
    c.settle_entries-answer.result c.settle_entries-answer.ensures c.report.ensures.0 c.report.ensures.1
