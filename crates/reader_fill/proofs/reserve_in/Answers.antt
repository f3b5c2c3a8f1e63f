-- `reserve_in` meets its contract: the next line and its price settle the head. Assumes nothing.
use Rattle.std.proofs.Common.{ap, ◌∙◌}
use Rattle.reader_text.specs.Read.{reserve_in}
use Rattle.reader_text.proofs.HeadLaws.{reserve_absent, reserve_taken, reserve_high}
use Rattle.reader_fill.proofs.reserve_in.Goals as goal

pub returns-in_default : goal.returns-in_default
returns-in_default c =
    record { inside = c.requires.0; lines = reserve_absent _ c.args.line _ c.in_default.ensures }

pub returns-then-price-gt-MAX_PRICE : goal.returns-then-price-gt-MAX_PRICE
returns-then-price-gt-MAX_PRICE c =
    let args = c.args in
    ap (reserve_in (record { kind = args.kind; window = args.window }) args.line) c.in-Some.ensures.1
    ∙ reserve_high _ args.line _ _ c.if-price-gt-MAX_PRICE.true

pub returns : goal.returns
returns c =
    let args = c.args in
    record {
      inside = c.in-Some.ensures.0;
      lines = ap (reserve_in (record { kind = args.kind; window = args.window }) args.line) c.in-Some.ensures.1
          ∙ reserve_taken _ args.line _ _ c.if-price-gt-MAX_PRICE.false;
    }
