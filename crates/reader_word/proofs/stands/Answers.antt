-- `stands` meets its contract: what is left of the keyword compares as all of it does. Assumes nothing.
use Rattle.std.proofs.Common.{◌≡◌, ◌+◌, length, sym, ◌∙◌, arith}
use Rattle.reader_parts.proofs.PlaceLaws.{not_last}
use Rattle.reader_parts.proofs.StartsLaws.{letters}
use Rattle.reader_word.proofs.LetterLaws.{letter_same, letter_other, space_next}
use Rattle.reader_word.proofs.stands.Goals as goal

pub returns-then-b-word-clause-answer : goal.returns-then-b-word-clause-answer
returns-then-b-word-clause-answer c =
    let l = c.loop-i in
    let j = c.args.at + l.i in
    sym (letter_other _ _ l.i j l.invariant.1 c.loop-i-test.true c.if-b-word.true) ∙ l.invariant.0

pub returns-in_default-clause-answer : goal.returns-in_default-clause-answer
returns-in_default-clause-answer c =
    let l = c.loop-i in
    let j = c.args.at + l.i in
    let k = letters _ l.i c.requires.2 c.loop-i-test.true in
    sym (letter_other _ _ l.i j l.invariant.1 c.loop-i-test.true (λ x. omega (arith, x, k.0))) ∙ l.invariant.0

pub returns-in_default-2-clause-answer : goal.returns-in_default-2-clause-answer
returns-in_default-2-clause-answer c =
    let l = c.loop-i in
    let j = c.args.at + l.i in
    let k = letters _ l.i c.requires.2 c.loop-i-test.true in
    sym (letter_other _ _ l.i j l.invariant.1 c.loop-i-test.true (λ x. omega (arith, x, k.1))) ∙ l.invariant.0

pub loop-i-preserved : goal.loop-i-preserved
loop-i-preserved c =
    let l = c.loop-i in
    let s = c.args.s.now in
    let j = c.args.at + l.i in
    let e : j + 1 ≡ c.args.at + (l.i + 1) = omega arith in (
      rw (← e) (sym (letter_same _ s l.i j l.invariant.1 c.loop-i-test.true c.if-b-word.false) ∙ l.invariant.0),
      rw (← e) (not_last s j c.requires.1 l.invariant.1 (λ x. omega (arith, x))),
      omega arith,
    )

pub returns-clause-answer : goal.returns-clause-answer
returns-clause-answer c =
    let l = c.loop-i in
    let e : length c.args.word.now ≡ l.i = omega (arith, l.invariant.2, c.loop-i-test.false) in
    rw e (sym (space_next _ c.args.s.now l.i (c.args.at + l.i) l.invariant.1 (omega (arith, e))) ∙ l.invariant.0)
