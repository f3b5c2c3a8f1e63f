-- `digits` meets its contract: what the digits from here on add is what they add from the start. Assumes nothing.
use Rattle.std.proofs.Common.{refl, sym, ◌∙◌, arith}
use Rattle.reader_parts.proofs.PlaceLaws.{not_last, digits_more, digits_below, digits_above, digits_full}
use Rattle.reader_word.proofs.digits.Goals as goal

pub loop-value-init : goal.loop-value-init
loop-value-init c = (refl, omega arith, c.requires.0)

pub loop-value-preserved : goal.loop-value-preserved
loop-value-preserved c =
    let l = c.loop-value in
    let s = c.args.s.now in (
      rw c.from.ensures
          (sym (digits_more s l.value l.next l.invariant.2 c.loop-value-test.true (omega arith) (omega arith)) ∙ l.invariant.0),
      omega arith,
      not_last s l.next c.requires.1 l.invariant.2 (λ e. omega (arith, e)),
    )

pub returns-in_default : goal.returns-in_default
returns-in_default c =
    let l = c.loop-value in
    record {
      is = sym l.invariant.0 ∙ digits_below _ l.value l.next l.invariant.2 c.loop-value-test.true (omega arith);
      after = l.invariant.1;
      inside = l.invariant.2;
    }

pub returns-in_default-2 : goal.returns-in_default-2
returns-in_default-2 c =
    let l = c.loop-value in
    record {
      is = sym l.invariant.0 ∙ digits_above _ l.value l.next l.invariant.2 c.loop-value-test.true (omega arith);
      after = l.invariant.1;
      inside = l.invariant.2;
    }

pub returns : goal.returns
returns c =
    let l = c.loop-value in
    record {
      is = sym l.invariant.0 ∙ digits_full _ l.value l.next l.invariant.2 c.loop-value-test.false;
      after = l.invariant.1;
      inside = l.invariant.2;
    }
