-- `next_reserve` meets its contract: the line at `at` is read as the definition does. Assumes nothing.
use Rattle.std.proofs.Common.{[]}
use Rattle.reader_forms.proofs.EndedLaws.{lines_on, lines_next}
use Rattle.reader_fill.proofs.NextLaws.{next_none, next_other, next_reserve}
use Rattle.reader_fill.proofs.next_reserve.Goals as goal

pub returns-then-text-at : goal.returns-then-text-at
returns-then-text-at c = next_none _ _ c.if-text-at.true

pub returns-in_err-read : goal.returns-in_err-read
returns-in_err-read c =
    rw c.from_residual.ensures (next_other 0 [] _ _ _ (lines_on c.args.text.now c.args.at c.requires.1 c.if-text-at.false) _
    (c.in_err-read.ensures.answer 0 []) tt)

pub returns-in-Reserve : goal.returns-in-Reserve
returns-in-Reserve c =
    let e = c.in_ok-read.ensures.place in (
      e.1,
      next_reserve 0 [] _ _ _ (lines_next c.args.text.now c.args.at c.requires.1 c.if-text-at.false _ e.0) _
          (rw c.in-Reserve.is at c.in_ok-read.ensures.answer 0 []),
    )

pub returns-in-Tender : goal.returns-in-Tender
returns-in-Tender c =
    next_other 0 [] _ _ _ (lines_on c.args.text.now c.args.at c.requires.1 c.if-text-at.false) _
    (rw c.in-Tender.is at c.in_ok-read.ensures.answer 0 []) tt

pub returns-in-Bid : goal.returns-in-Bid
returns-in-Bid c =
    next_other 0 [] _ _ _ (lines_on c.args.text.now c.args.at c.requires.1 c.if-text-at.false) _
    (rw c.in-Bid.is at c.in_ok-read.ensures.answer 0 []) tt
