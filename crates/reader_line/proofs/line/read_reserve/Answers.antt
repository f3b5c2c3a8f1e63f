-- `read_reserve` meets its contract: it follows `reserve_front` from place to place. Assumes nothing.
use Rattle.std.proofs.Common.{arith}
use Rattle.reader_parts.proofs.PlaceLaws.{not_last}
use Rattle.reader_line.proofs.LinePlaceLaws.{reserve_unpriced, reserve_unclosed, reserve_unended, reserve_whole}
use Rattle.reader_line.proofs.AnswerLaws.{noted_wrong, noted_reserve}
use Rattle.reader_line.proofs.line.read_reserve.Goals as goal

pub returns-in_err-price-clause-answer : goal.returns-in_err-price-clause-answer
returns-in_err-price-clause-answer c =
    rw c.from_residual.ensures (noted_wrong c.args.s.now _ (reserve_unpriced c.args.s.now c.args.at c.in_err-price.ensures))

pub returns-then-s-price-ne41-clause-answer : goal.returns-then-s-price-ne41-clause-answer
returns-then-s-price-ne41-clause-answer c =
    let s = c.args.s.now in
    noted_wrong s _ (reserve_unclosed s c.args.at _ _ c.in_ok-price.ensures c.if-s-price-ne41.true)

pub returns-then-s-price-ne10-clause-answer : goal.returns-then-s-price-ne10-clause-answer
returns-then-s-price-ne10-clause-answer c =
    let s = c.args.s.now in
    let x = c.in_ok-price.ensures in
    let d = c.if-s-price-ne41.false in
    let k = not_last s _ c.requires.1 x.inside (λ e. omega (arith, e, d)) in
    noted_wrong s _ (reserve_unended s c.args.at _ _ x d k c.if-s-price-ne10.true)

pub returns-clause-answer : goal.returns-clause-answer
returns-clause-answer c =
    let s = c.args.s.now in
    let x = c.in_ok-price.ensures in
    let d = c.if-s-price-ne41.false in
    let k = not_last s _ c.requires.1 x.inside (λ e. omega (arith, e, d)) in
    noted_reserve s _ _ _ (reserve_whole s c.args.at _ _ x d k c.if-s-price-ne10.false)
