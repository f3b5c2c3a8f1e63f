-- On tables that are not refused with 9: naming the true cost and offering all minutes is best, and the rows of an award. Assumes nothing.
use Rattle.std.specs.Prelude.{◌≡◌, List, Bool, cond, ℕ, ◌+◌, ◌*◌, ◌≤◌, ◌<◌, get_or, ltb}
use Rattle.std.proofs.Common.{ap, ◌∙◌}
use Rattle.std.proofs.Math.Bool.{true, false}
use Rattle.std.proofs.Math.Option.{none}
use native.Mathlib.Omega.{arith}
use Rattle.tender.specs.declared.Kind.{Kind}
use Rattle.tender.specs.declared.Tender.{Tender}
use Rattle.tender.specs.declared.AwardRow.{AwardRow}
use Rattle.tender.specs.declared.Totals.{Totals}
use Rattle.tender.specs.declared.Refusal.TheVariants.{RowsTooFew}
use Rattle.tender.specs.Tables.{bid_width}
use Rattle.cover.specs.Sets.{when}
use Rattle.award_check.specs.Faults.{fault_of}
use Rattle.award_check.specs.Auction.{Auction, auction_of}
use Rattle.award_check.proofs.AuctionLaws.{owners_are, entries, owner_spared, price_named, at_own_price}
use Rattle.award_check.proofs.AuctionLaws.{auction_withheld, has_others, has_part}
use Rattle.award_check.specs.Alike.{Withheld}
use Rattle.award_rule.specs.Award.{rule, won, cents, awarded, refused, uncovered, lone, settled, award_of}
use Rattle.award_rule.proofs.AwardLaws.{award_none, AwardOn, spared}
use Rattle.award_outcome.specs.Gain.{row_for, gain, AtMost}
use Rattle.award_outcome.proofs.SettleLaws.{settled_withheld, row_filled, row_in, fair}

module _ (k : Kind) (t : Tender) (n i : ℕ) (bids windows : List ℕ) (inside : i < n) (f : fault_of k t n bids windows ≡ none) where
  abbrev A : Auction
  A = auction_of t n bids windows

  -- naming another price and offering part of the minutes is no better
  pub award_withheld : (bids' windows' : List ℕ) (lent lent' : ℕ) → fault_of k t n bids' windows' ≡ none
      → Withheld n i bids windows bids' windows' → ltb lent n ≡ ltb lent' n →
      AtMost (gain (get_or bids (bid_width * i + 1) 0) (row_for (award_of k t n bids' windows' lent') i))
      (gain (get_or bids (bid_width * i + 1) 0) (row_for (award_of k t n bids windows lent) i))
  unfolding row_for gain
  award_withheld bids' windows' lent lent' f' w e = rw
      (award_none k t n bids windows lent f, award_none k t n bids' windows' lent' f', ← e)
      (go (ltb lent n))
    where
      go : (b : Bool) → AtMost (gain (get_or bids (bid_width * i + 1) 0)
          (row_for (cond b (refused RowsTooFew) (settled (rule k) (auction_of t n bids' windows') (uncovered t) (lone t))) i))
          (gain (get_or bids (bid_width * i + 1) 0) (row_for (cond b (refused RowsTooFew) (settled (rule k) A (uncovered t) (lone t))) i))
      go true = omega arith
      go false = rw (auction_withheld t n i bids windows bids' windows' inside w, ← price_named t n bids windows i inside)
          (settled_withheld (rule k) A i (get_or bids' (bid_width * i + 1) 0) (auction_of t n bids' windows').has (uncovered t) (lone t)
          (rw (owners_are t n bids windows) inside) (omega (arith, entries t n bids windows))
          (has_others t n i bids windows bids' windows' inside w) (has_part t n i bids windows bids' windows' inside w)
          (λ d e. owner_spared t n bids windows d e i inside))

module _ (k : Kind) (t : Tender) (n : ℕ) (bids windows : List ℕ) (lent : ℕ) (rows : List AwardRow) (totals : Totals)
    (w : AwardOn k t n bids windows lent rows totals) where
  pub row_is : (i : ℕ) → i < n → row_for (awarded rows totals) i ≡ row_in (rule k) (auction_of t n bids windows) i
  row_is i l = ap (λ rs. row_for (awarded rs totals) i) w.settles.rows_are
      ∙ row_filled (rule k) (auction_of t n bids windows) i totals (rw (owners_are t n bids windows) l)

  pub row_fair : (i : ℕ) → i < n → (row_for (awarded rows totals) i).won ≡ true
      → get_or bids (bid_width * i + 1) 0 ≤ (row_for (awarded rows totals) i).cents
  row_fair i l e =
      let h = fair (auction_of t n bids windows) i (omega (arith, entries t n bids windows))
      (spared k t n bids windows lent rows totals w i l) (rule k) (get_or (auction_of t n bids windows).prices i 0) in
      rw (row_is i l, ← price_named t n bids windows i l)
      (go (rw (row_is i l) at e) (rw (at_own_price i (auction_of t n bids windows)) at h))
    where
      go : won (rule k) (auction_of t n bids windows) i ≡ true → when (won (rule k) (auction_of t n bids windows) i)
          (get_or (auction_of t n bids windows).prices i 0) ≤ cents (rule k) (auction_of t n bids windows) i →
          get_or (auction_of t n bids windows).prices i 0 ≤ cents (rule k) (auction_of t n bids windows) i
      go f h = rw f at h
