-- `take_line` meets its contract: the line is read, judged and put into the tables. Assumes nothing.
use Rattle.std.proofs.Common.{refl, sym, ap, ◌∙◌, arith, Err}
use Rattle.std.proofs.lemmas.Result.{err_from_is_err_and}
use Rattle.reader_text.proofs.RulesLaws.{passed}
use Rattle.reader_bids.specs.Steps.{took}
use Rattle.reader_bids.specs.TakesLaws.{is_sound, taken_broken, taken_tender, taken_reserve, taken_fault, taken_sound}
use Rattle.reader_bids.proofs.take_line.Goals as goal

pub returns-in_default : goal.returns-in_default
returns-in_default c =
    taken_broken _ _ _ _ _ _ _ _ _ _ _ _ _ c.in_default.ensures.answer refl

pub returns-in_err-judge-in-Bid : goal.returns-in_err-judge-in-Bid
returns-in_err-judge-in-Bid c =
    let told = rw c.in-Bid.is at c.in-Some.ensures.answer in
    let e = err_from_is_err_and c.from_residual.result c.from_residual.ensures.1 in
    taken_fault _ _ _ _ _ _ _ _ _ _ _ _ _ _ _ _ _ told _ c.in_err-judge-in-Bid.ensures (e.1 ∙ ap Err e.2)

pub put_row-requires : goal.put_row-requires
put_row-requires c =
    let p = passed _ _ _ _ _ _ _ _ (is_sound _ _ c.in_ok-judge-in-Bid.ensures) in
    omega (arith, p.few_bids, c.requires)

pub add-requires : goal.add-requires
add-requires c =
    let p = passed _ _ _ _ _ _ _ _ (is_sound _ _ c.in_ok-judge-in-Bid.ensures) in
    omega (arith, p.bidder_high, c.requires)

pub returns-in_ok-judge-in-Bid : goal.returns-in_ok-judge-in-Bid
returns-in_ok-judge-in-Bid c =
    let told = rw c.in-Bid.is at c.in-Some.ensures.answer in
    taken_sound _ _ _ _ _ _ _ _ _ _ _ _ _ _ _ _ _ told (is_sound _ _ c.in_ok-judge-in-Bid.ensures)
    (ap (took c.in-Bid.count) (sym c.in-Some.ensures.place.0)) c.put_row.ensures c.add.ensures

pub returns-in-Tender : goal.returns-in-Tender
returns-in-Tender c =
    let told = rw c.in-Tender.is at c.in-Some.ensures.answer in
    taken_tender _ _ _ _ _ _ _ _ _ _ _ _ _ _ told refl

pub returns-in-Reserve : goal.returns-in-Reserve
returns-in-Reserve c =
    let told = rw c.in-Reserve.is at c.in-Some.ensures.answer in
    taken_reserve _ _ _ _ _ _ _ _ _ _ _ _ _ _ told refl
