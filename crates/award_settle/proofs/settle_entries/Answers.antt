-- The award of the tables' kind. Assumes nothing.
use Rattle.std.proofs.Common.{◌≡◌, sym, subst}
use Rattle.award_rule.specs.Award.{award_of}
use Rattle.award_rule.specs.Plain.{told_in}
use Rattle.award_settle.proofs.settle_entries.Goals as goal

pub returns-in-Single : goal.returns-in-Single
returns-in-Single c =
    let T = c.args.tables.now in let S = c.settle_single in
    subst (λ k. told_in T.count S.new.flags S.new.pays S.result ≡ award_of k T.tender T.count T.bids.now T.windows.now T.count)
    (sym c.in-Single.is) S.ensures

pub returns-in-Multi : goal.returns-in-Multi
returns-in-Multi c =
    let T = c.args.tables.now in let S = c.settle_multi in
    subst (λ k. told_in T.count S.new.flags S.new.pays S.result ≡ award_of k T.tender T.count T.bids.now T.windows.now T.count)
    (sym c.in-Multi.is) S.ensures
