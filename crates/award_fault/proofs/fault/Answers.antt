-- `award_fault::fault` meets its contract: each way out rewrites with the tests that led there. Assumes nothing.
use Prim.Native.Nat.{◌/◌}
use mathlib.Core.Path.{◌≡◌, refl, ◌∙◌, sym}
use denote.Enum.Bare.{sameb}
use native.Mathlib.Omega.{arith}
use lib.ListN.{length}
use borrow.Author.Tests.{le-leb, lt-leb, not-true, not-false}
use Rattle.tender.specs.declared.Kind.{Kind}
use Rattle.tender.specs.declared.Kind.TheVariants.{Single, Multi}
use Rattle.tender.specs.contracts.Kind.{the_type}
use Rattle.tender.specs.Tables.{bid_width}
use Rattle.award_check.specs.Faults.{is_same_kind, fault_of}
use Rattle.award_fault.proofs.fault.Goals as goal

-- kinds are equal where their numbers are
kinds : (a b : Kind) → is_same_kind a b ≡ sameb the_type a b
kinds Single Single = refl
kinds Single Multi = refl
kinds Multi Single = refl
kinds Multi Multi = refl

pub returns-then-ne : goal.returns-then-ne
unfolding fault_of
returns-then-ne c = rw (kinds c.args.kind c.args.tender.kind, not-true _ (sym c.ne.ensures ∙ c.if-ne.true))

pub returns-then-not-tender_sound : goal.returns-then-not-tender_sound
unfolding fault_of
returns-then-not-tender_sound c = rw (
  kinds c.args.kind c.args.tender.kind,
  not-false _ (sym c.ne.ensures ∙ c.if-ne.false),
  ← c.tender_sound.ensures,
  c.if-not-tender_sound.true,
)

pub returns-then-bids-count : goal.returns-then-bids-count
unfolding fault_of
returns-then-bids-count c =
    let args = c.args in
    rw (
      kinds c.args.kind c.args.tender.kind,
      not-false _ (sym c.ne.ensures ∙ c.if-ne.false),
      ← c.tender_sound.ensures,
      c.if-not-tender_sound.false,
      lt-leb args.count (length args.bids.now / bid_width) (omega arith),
    )

pub returns : goal.returns
unfolding fault_of
returns c =
    let args = c.args in
    rw (
      kinds c.args.kind c.args.tender.kind,
      not-false _ (sym c.ne.ensures ∙ c.if-ne.false),
      ← c.tender_sound.ensures,
      c.if-not-tender_sound.false,
      le-leb args.count (length args.bids.now / bid_width) (omega arith),
    )
    c.row_fault.ensures
