-- What is said of who asks with which price a bid would win (paper 02, request 8).
use Rattle.std.specs.Prelude.{◌≡◌, ◌⊎◌, Bool, false, List, ℕ, ◌+◌, ◌*◌, ◌≤◌, ◌<◌, length, get_or, leb}
use Rattle.std.specs.Prelude.{Some, None, Ok, Err}
use Rattle.tender.specs.declared.AwardRow.{AwardRow}
use Rattle.tender.specs.declared.Totals.{Totals}
use Rattle.tender.specs.declared.Refusal.{Refusal}
use Rattle.tender.specs.declared.Refusal.TheVariants.{NoSuchBidder}
use Rattle.tender.specs.Tables.{bid_width}
use Rattle.cover.specs.Sets.{when}
use Rattle.award_check.specs.Auction.{Auction, auction_of, at_price}
use Rattle.award_check.specs.Alike.{Alike}
use Rattle.award_rule.specs.Award.{rule, won, Outcome, awarded, refused, award_of, outcome_number}
use Rattle.theorems_calls.specs.Calls.{AwardCall, told_by, HighestCall}
use Rattle.theorems.specs.Between.{SameTables, price_at}

-- the auction that its tables say
abbrev pub auction_asked : HighestCall → Auction
auction_asked h = auction_of h.tender h.count h.bids h.windows

-- what the award of the tender's own kind is on its tables, with an award row for every bid
abbrev pub award_asked : HighestCall → Outcome
award_asked h = award_of h.tender.kind h.tender h.count h.bids h.windows h.count

-- the tender is awarded
pub record IsAwarded (h : HighestCall) : Type 0 where
  pub rows : List AwardRow
  pub totals : Totals
  pub is : award_asked h ≡ awarded rows totals

-- row i of the table of bids has the bidder number
pub record RowAsked (h : HighestCall) (i : ℕ) : Type 0 where
  pub inside : i < h.count
  pub number : get_or h.bids (bid_width * i) 0 ≡ h.bidder

-- the bid of row i wins where it names q and all else stands, whatever the limit of prices
abbrev pub wins_naming : HighestCall → ℕ → ℕ → Bool
wins_naming h i q = won (rule h.tender.kind) (at_price i q (auction_asked h)) i

-- one answer: the award's refusal; 17 where no row has the number; the price up to which, of all whole prices, the row's bid wins; or that
-- it wins with none
pub data OneHighest (h : HighestCall) : Type 0 where
  as_the_award : (r : Refusal) → award_asked h ≡ refused r → h.answer ≡ Err r → OneHighest h
  no_such_bidder : IsAwarded h → ((i : ℕ) → RowAsked h i → ⊥) → h.answer ≡ Err NoSuchBidder → OneHighest h
  up_to_price : IsAwarded h → (i p : ℕ) → RowAsked h i → ((q : ℕ) → wins_naming h i q ≡ leb q p) → h.answer ≡ Ok (Some p)
      → OneHighest h
  with_no_price : IsAwarded h → (i : ℕ) → RowAsked h i → ((q : ℕ) → wins_naming h i q ≡ false) → h.answer ≡ Ok None
      → OneHighest h

-- an award on the same tables, made: its row i is that of the bid asked for
pub record Beside (h : HighestCall) (c : AwardCall) (i : ℕ) (rows : List AwardRow) (totals : Totals) : Type 0 where
  pub tables : SameTables h.tender h.count h.bids h.windows c
  pub told : told_by c ≡ awarded rows totals
  pub row : RowAsked h i

-- a winner's price by least cost: its payment where it would win by naming just that, and else one cent less
pub record PaidOrLess (h : HighestCall) (i cents : ℕ) : Type 0 where
  pub price : ℕ
  pub is : h.answer ≡ Ok (Some price)
  pub tied : price + 1 ≡ cents + when (wins_naming h i cents) 1

-- a loser's: none, or a price below the one that it named
abbrev pub BelowNamed : HighestCall → AwardCall → ℕ → Type 0
BelowNamed h c i = (h.answer ≡ Ok None) ⊎ ((p : ℕ) × ((h.answer ≡ Ok (Some p)) × (p < price_at c i)))

-- the award of the same kind on tables alike in all but the price of row i, with an award row for every bid and not refused with 9
pub record Renamed (h : HighestCall) (c : AwardCall) (i : ℕ) : Type 0 where
  pub kinds : c.kind ≡ h.tender.kind
  pub tenders : c.tender ≡ h.tender
  pub counts : c.count ≡ h.count
  pub alike : Alike h.count i h.bids h.windows c.bids c.windows
  pub room : c.count ≤ length c.rows_before
  pub lawful : outcome_number (told_by c) ≡ 9 → ⊥
