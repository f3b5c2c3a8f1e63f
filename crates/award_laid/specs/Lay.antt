-- What laying out a faultless tender leaves: the prices of its auction, who has which cell, and whether a cell is thin.
use Rattle.std.specs.Prelude.{◌≡◌, List, ℕ, ◌≤◌, length, get_or, Ok, Err}
use Rattle.tender.specs.declared.Tender.{Tender}
use Rattle.tender.specs.declared.Refusal.{Refusal}
use Rattle.tender.specs.declared.Refusal.TheVariants.{MinuteUncovered, OneBidder}
use Rattle.cover.specs.Sets.{nothing, found}
use Rattle.cover.specs.Settled.{spans}
use Rattle.cover.specs.Intervals.{Order}
use Rattle.multi_market.specs.Market.{has}
use Rattle.award_thin.specs.declared.Thin.{Thin}
use Rattle.award_thin.specs.declared.Thin.TheVariants.{Nobody, Alone}
use Rattle.award_thin.specs.Thin.{Asked}
use Rattle.award_check.specs.Cells.{cells_of, minute_of}
use Rattle.award_check.specs.Auction.{Auction, auction_of, thin_cell}

-- the earliest cell in no bid, else the earliest in one bid alone, else neither
abbrev pub Tells : Auction → Asked → Type 0
Tells A (Err (Nobody x)) = thin_cell A 0 ≡ found x
Tells A (Err (Alone x)) = (thin_cell A 0 ≡ nothing) × (thin_cell A 1 ≡ found x)
Tells A (Ok u) = (thin_cell A 0 ≡ nothing) × (thin_cell A 1 ≡ nothing)

-- the cell that is named
abbrev pub named : Thin → ℕ
named (Nobody x) = x
named (Alone x) = x

-- 11 for a minute in no bid, 12 for a minute in one bid
abbrev pub thin_refusal : Tender → Thin → Refusal
thin_refusal t (Nobody x) = MinuteUncovered (minute_of t x)
thin_refusal t (Alone x) = OneBidder (minute_of t x)

-- as prices, starts and ends, with the entries in order of start
pub record LaidSpans (t : Tender) (n : ℕ) (bids windows ps starts ends order : List ℕ) (thin : Asked) : Type 0 where
  pub prices_are : ps ≡ (auction_of t n bids windows).prices
  pub has_is : spans starts ends ≡ (auction_of t n bids windows).has
  pub ordered : (i : ℕ) → get_or starts i 0 ≤ get_or ends i 0
  pub inside : (i : ℕ) → get_or ends i 0 ≤ cells_of t
  pub in_order : Order (length ps) (λ i. get_or starts i 0) (λ q. get_or order q 0)
  pub thin_is : Tells (auction_of t n bids windows) thin

-- as prices and words, w words an entry
pub record LaidMasks (t : Tender) (n w : ℕ) (bids windows ps ms : List ℕ) (thin : Asked) : Type 0 where
  pub prices_are : ps ≡ (auction_of t n bids windows).prices
  pub has_is : has ms w ≡ (auction_of t n bids windows).has
  pub thin_is : Tells (auction_of t n bids windows) thin
