-- `read_kind` meets its contract: it follows `kind_front` from place to place. Assumes nothing.
use Rattle.reader_line.proofs.LinePlaceLaws.{kind_unspanned, kind_unended, kind_whole}
use Rattle.reader_line.proofs.AnswerLaws.{noted_wrong, noted_tender}
use Rattle.reader_line.proofs.line.read_kind.Goals as goal

pub returns-in_err-span-clause-answer : goal.returns-in_err-span-clause-answer
returns-in_err-span-clause-answer c =
    rw c.from_residual.ensures (noted_wrong c.args.s.now _ (kind_unspanned c.args.kind c.args.s.now c.args.at c.in_err-span.ensures))

pub returns-then-s-span-ne10-clause-answer : goal.returns-then-s-span-ne10-clause-answer
returns-then-s-span-ne10-clause-answer c =
    let s = c.args.s.now in
    noted_wrong s _ (kind_unended c.args.kind s c.args.at _ _ c.in_ok-span.ensures c.if-s-span-ne10.true)

pub returns-clause-answer : goal.returns-clause-answer
returns-clause-answer c =
    let s = c.args.s.now in
    noted_tender s c.args.kind _ _ _ (kind_whole c.args.kind s c.args.at _ _ c.in_ok-span.ensures c.if-s-span-ne10.false)
