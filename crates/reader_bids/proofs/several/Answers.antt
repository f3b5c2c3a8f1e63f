-- `several` meets its contract: a kind is single or not. Assumes nothing.
use Rattle.std.proofs.Common.{◌≡◌, refl, sym, ◌∙◌}
use denote.Enum.Bare.{sameb}
use Rattle.tender.specs.declared.Kind.{Kind}
use Rattle.tender.specs.declared.Kind.TheVariants.{Single, Multi}
use Rattle.tender.specs.contracts.Kind.{the_type}
use Rattle.tender.specs.Limits.{is_single}
use Rattle.reader_bids.proofs.several.Goals as goal

kind_is : (k : Kind) → sameb the_type k Single ≡ is_single k
unfolding is_single
kind_is Single = refl
kind_is Multi = refl

pub returns-then-eq : goal.returns-then-eq
returns-then-eq c = rw (sym (kind_is _) ∙ sym c.if-eq.ensures) refl

pub returns-else-eq : goal.returns-else-eq
returns-else-eq c = rw (c.if-eq.false, sym (kind_is _) ∙ sym c.if-eq.ensures) refl
