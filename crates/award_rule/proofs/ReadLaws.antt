-- The award on what was read does not turn on what stands past the rows in the tables, nor on more award rows than bids, and is never
-- declined with 9 or 10. Assumes nothing.
use Rattle.std.specs.Prelude.{◌≡◌, ◌⊎◌, List, [], ◌++◌, ℕ, ◌≤◌, length}
use Rattle.std.proofs.Math.Path.{refl}
use Rattle.std.proofs.Common.{sym, ap, ◌∙◌, inl, inr, append-nil, arith}
use Rattle.std.proofs.Math.Option.{none}
use borrow.Author.Tests.{le-ltb}
use Rattle.tender.specs.declared.Window.{Window}
use Rattle.tender.specs.declared.Tender.{Tender}
use Rattle.tender.specs.declared.Refusal.TheVariants.{MinuteUncovered, OneBidder}
use Rattle.tender.specs.Refusals.{number_of}
use Rattle.tender.specs.Tables.{Row, flat_rows, flat_windows}
use Rattle.cover.specs.Sets.{Found, nothing, found}
use Rattle.reader_text.specs.Rules.{Rules}
use Rattle.award_check.specs.Auction.{Auction, auction_of, thin_cell}
use Rattle.award_check.proofs.AuctionLaws.{auction_read}
use Rattle.award_check.specs.Faults.{fault_of}
use Rattle.award_check.proofs.TextLaws.{never_nine}
use Rattle.award_rule.specs.Award.{rule, Outcome, uncovered, lone, thinned, settled, award_of, outcome_number, outcome_place}
use Rattle.award_rule.proofs.AwardLaws.{settled_is, award_none}

module _ (T : Tender) (R : List Row) (W : List Window) (rules : Rules T R W) where
  pub sound_alone : fault_of T.kind T (length R) (flat_rows R) (flat_windows W) ≡ none
  sound_alone = rw (append-nil (flat_rows R), append-nil (flat_windows W)) at (never_nine T R W [] [] rules)

  pub award_read : (v w : List ℕ) (lent : ℕ) → length R ≤ lent
      → award_of T.kind T (length R) (flat_rows R ++ v) (flat_windows W ++ w) lent
      ≡ award_of T.kind T (length R) (flat_rows R) (flat_windows W) (length R)
  award_read v w lent l =
      award_none T.kind T (length R) (flat_rows R ++ v) (flat_windows W ++ w) lent (never_nine T R W v w rules)
      ∙ rw (le-ltb lent (length R) l, auction_read T R W rules v w)
      (sym (award_none T.kind T (length R) (flat_rows R) (flat_windows W) (length R) sound_alone
      ∙ rw (le-ltb (length R) (length R) (omega arith))))

  -- the award on what was read is made, or declined with 11 or 12: never with 9 or 10
  pub award_number : let o = award_of T.kind T (length R) (flat_rows R) (flat_windows W) (length R) in (outcome_number o ≡ 0)
      ⊎ ((outcome_number o ≡ number_of (MinuteUncovered (outcome_place o)))
      ⊎ (outcome_number o ≡ number_of (OneBidder (outcome_place o))))
  unfolding outcome_number thinned uncovered lone
  award_number = rw (
    award_none T.kind T (length R) (flat_rows R) (flat_windows W) (length R) sound_alone,
    le-ltb (length R) (length R) (omega arith),
  )
      (go (thin_cell A 0) (thin_cell A 1) refl refl)
    where
      A : Auction
      A = auction_of T (length R) (flat_rows R) (flat_windows W)

      o : Outcome
      o = settled (rule T.kind) A (uncovered T) (lone T)

      go : (x y : Found) → thin_cell A 0 ≡ x → thin_cell A 1 ≡ y → (outcome_number o ≡ 0)
          ⊎ ((outcome_number o ≡ number_of (MinuteUncovered (outcome_place o)))
          ⊎ (outcome_number o ≡ number_of (OneBidder (outcome_place o))))
      go (found x) y e f = inr (inl (ap outcome_number (settled_is (rule T.kind) A (uncovered T) (lone T) (found x) y e f)))
      go nothing (found x) e f = inr (inr (ap outcome_number
          (settled_is (rule T.kind) A (uncovered T) (lone T) nothing (found x) e f)))
      go nothing nothing e f = inl (ap outcome_number (settled_is (rule T.kind) A (uncovered T) (lone T) nothing nothing e f))
