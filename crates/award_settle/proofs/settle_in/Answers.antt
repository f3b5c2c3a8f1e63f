-- `award_settle::settle_in` meets its contract: each way out is one of the laws. Assumes nothing.
use Rattle.std.proofs.Common.{◌≡◌, sym, ap, subst, ◌∙◌, arith}
use Rattle.std.proofs.Math.Option.{none}
use Rattle.award_fault.specs.Checks.{checked_fault}
use Rattle.award_check.specs.Faults.{fault_of}
use Rattle.award_check.proofs.AlikeLaws.{own_kind}
use Rattle.award_layout.specs.LayoutLaws.{orderly}
use Rattle.award_rule.specs.Plain.{PlainPromise}
use Rattle.award_rule.proofs.PlainLaws.{nine, ten, lent_more}
use Rattle.award_settle.proofs.settle_in.Goals as goal

pub returns-in-Some : goal.returns-in-Some
returns-in-Some c =
    let A = c.args in
    nine A.kind A.tender A.count A.bids.now A.windows.now A.lent A.won.now A.cents.now
    _ (sym c.fault.ensures ∙ ap checked_fault c.in-Some.is)

pub returns-then-lent-count : goal.returns-then-lent-count
returns-then-lent-count c =
    let A = c.args in
    ten A.kind A.tender A.count A.bids.now A.windows.now A.lent A.won.now A.cents.now
    (sym c.fault.ensures ∙ ap checked_fault c.in_default.is) c.if-lent-count.true

pub invariant_of-tables : goal.invariant_of-tables
invariant_of-tables c =
    let A = c.args in
    let f = (sym c.fault.ensures ∙ ap checked_fault c.in_default.is) in record {
      faultless = subst (λ k. fault_of k A.tender A.count A.bids.now A.windows.now ≡ none)
          (sym (own_kind A.kind A.tender A.count A.bids.now A.windows.now f)) f;
    }

pub settle_sound-requires : goal.settle_sound-requires
settle_sound-requires c =
    let A = c.args in let P = c.requires in
    let f = (sym c.fault.ensures ∙ ap checked_fault c.in_default.is) in
    let o = orderly A.kind A.tender A.count A.bids.now A.windows.now f in
    (omega (arith, o.few, P, c.if-lent-count.false), omega (arith, o.few, P, c.if-lent-count.false))

pub returns : goal.returns
returns c =
    let A = c.args in
    let f = (sym c.fault.ensures ∙ ap checked_fault c.in_default.is) in
    let S = c.settle_sound in
    lent_more A.kind A.tender A.count A.bids.now A.windows.now A.lent A.won.now A.cents.now _ _ _
    c.if-lent-count.false
    (subst (λ k. PlainPromise k A.tender A.count A.bids.now A.windows.now A.count A.won.now A.cents.now
    S.new.won S.new.cents S.result) (own_kind A.kind A.tender A.count A.bids.now A.windows.now f) S.ensures)
