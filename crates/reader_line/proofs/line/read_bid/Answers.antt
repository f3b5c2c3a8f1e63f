-- `read_bid` meets its contract: it follows `bid_front` from place to place. Assumes nothing.
use Rattle.std.proofs.Common.{sym, ap, ◌∙◌, drop}
use Rattle.reader_forms.specs.LineFront.{windows_front}
use Rattle.reader_line.specs.Answer.{noted_front}
use Rattle.reader_line.proofs.LinePlaceLaws.{bid_unnumbered, bid_unparted, bid_unpriced, bid_priced}
use Rattle.reader_line.proofs.AnswerLaws.{noted_wrong, bid_broken, bid_told}
use Rattle.reader_line.proofs.line.read_bid.Goals as goal

pub returns-in_err-bidder-clause-answer : goal.returns-in_err-bidder-clause-answer
returns-in_err-bidder-clause-answer c =
    rw c.from_residual.ensures (noted_wrong c.args.s.now _ (bid_unnumbered c.args.s.now c.args.at c.in_err-bidder.ensures) _ _)

pub returns-then-s-bidder-ne32-clause-answer : goal.returns-then-s-bidder-ne32-clause-answer
returns-then-s-bidder-ne32-clause-answer c =
    let s = c.args.s.now in
    noted_wrong s _ (bid_unparted s c.args.at _ _ c.in_ok-bidder.ensures c.if-s-bidder-ne32.true) _ _

pub returns-in_err-price-clause-answer : goal.returns-in_err-price-clause-answer
returns-in_err-price-clause-answer c =
    let s = c.args.s.now in
    rw c.from_residual-in_err-price.ensures
    (noted_wrong s _ (bid_unpriced s c.args.at _ _ c.in_ok-bidder.ensures c.if-s-bidder-ne32.false c.in_err-price.ensures) _ _)

pub returns-in_err-tally-clause-answer : goal.returns-in_err-tally-clause-answer
returns-in_err-tally-clause-answer c =
    let s = c.args.s.now in
    let m = c.args.m in
    let table = c.args.windows.now in
    let q = c.in_ok-price.price.next in
    let priced = bid_priced s c.args.at _ _ c.in_ok-bidder.ensures c.if-s-bidder-ne32.false _ q c.in_ok-price.ensures in
    rw c.from_residual-in_err-tally.ensures
    (bid_broken s m table c.read_windows.new.windows _ _ (windows_front (drop q s)) c.in_err-tally.ensures.answer
    ∙ ap (noted_front m table) (sym priced))

pub returns-clause-answer : goal.returns-clause-answer
returns-clause-answer c =
    let s = c.args.s.now in
    let m = c.args.m in
    let table = c.args.windows.now in
    let q = c.in_ok-price.price.next in
    let priced = bid_priced s c.args.at _ _ c.in_ok-bidder.ensures c.if-s-bidder-ne32.false _ q c.in_ok-price.ensures in
    bid_told s m table _ _ _ _ _ _ (windows_front (drop q s)) c.in_ok-tally.ensures.answer ∙ ap (noted_front m table) (sym priced)
