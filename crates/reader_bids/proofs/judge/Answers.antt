-- `judge` meets its contract: its tests are those of the definition, in their order. Assumes nothing.
use Rattle.std.proofs.Common.{refl, sym, ap, ◌∙◌, arith}
use Rattle.reader_parts.specs.Flaws.{is_empty, is_late}
use Rattle.reader_bids.specs.Steps.{verdict}
use Rattle.reader_bids.specs.JudgeLaws.{many, beyond, several_windows, window_empty, window_late, repeated, sound}
use Rattle.reader_bids.specs.JudgeLaws.{bidder_in}
use Rattle.reader_bids.proofs.judge.Goals as goal

pub returns-then-too_many : goal.returns-then-too_many
returns-then-too_many c = ap (verdict _) (sym (many _ _ _ _ _ _ _ _ (sym c.too_many.ensures ∙ c.if-too_many.true)))

pub returns-then-outside : goal.returns-then-outside
returns-then-outside c = ap (verdict _)
    (sym (beyond _ _ _ _ _ _ _ _ (sym c.too_many.ensures ∙ c.if-too_many.false)
    (sym c.outside.ensures ∙ c.if-outside.true)))

pub returns-then-several : goal.returns-then-several
returns-then-several c =
    ap (verdict _) (sym (several_windows _ _ _ _ _ _ _ _ (sym c.too_many.ensures ∙ c.if-too_many.false)
    (sym c.outside.ensures ∙ c.if-outside.false)
    (sym c.several.ensures ∙ c.if-several.true)))

pub returns-in-Empty : goal.returns-in-Empty
returns-in-Empty c =
    ap (verdict _) (sym (window_empty _ _ _ _ _ _ _ _ (sym c.too_many.ensures ∙ c.if-too_many.false)
    (sym c.outside.ensures ∙ c.if-outside.false) (sym c.several.ensures ∙ c.if-several.false)
    (rw (c.in-Some.is, c.in-Empty.is) refl)))

pub returns-in-Late : goal.returns-in-Late
returns-in-Late c =
    ap (verdict _) (sym (window_late _ _ _ _ _ _ _ _ (sym c.too_many.ensures ∙ c.if-too_many.false)
    (sym c.outside.ensures ∙ c.if-outside.false) (sym c.several.ensures ∙ c.if-several.false)
    (rw (c.in-Some.is, c.in-Late.is) refl)
    (rw (c.in-Some.is, c.in-Late.is) refl)))

pub holds-requires : goal.holds-requires
holds-requires c =
    omega (arith, bidder_in c.args.bidder c.args.price (sym c.outside.ensures ∙ c.if-outside.false), c.requires)

pub returns-then-holds : goal.returns-then-holds
returns-then-holds c =
    ap (verdict _) (sym (repeated _ _ _ _ _ _ _ _ (sym c.too_many.ensures ∙ c.if-too_many.false)
    (sym c.outside.ensures ∙ c.if-outside.false) (sym c.several.ensures ∙ c.if-several.false)
    (ap is_empty c.in_default.is)
    (ap is_late c.in_default.is) (sym c.holds.ensures ∙ c.if-holds.true)))

pub returns : goal.returns
returns c =
    ap (verdict _) (sym (sound _ _ _ _ _ _ _ _ (sym c.too_many.ensures ∙ c.if-too_many.false)
    (sym c.outside.ensures ∙ c.if-outside.false) (sym c.several.ensures ∙ c.if-several.false)
    (ap is_empty c.in_default.is)
    (ap is_late c.in_default.is) (sym c.holds.ensures ∙ c.if-holds.false)))
