-- Two tenders that are alike in all but one bidder's price (paper 01, "Time, price and place"), or in all but one bidder's price and
-- windows, of which the second hold no minute more (paper 02, request 7).
use Rattle.std.specs.Prelude.{◌≡◌, List, [], ◌∷◌, true, ℕ, ◌+◌, ◌*◌, ◌<◌, get_or}
use Rattle.tender.specs.declared.Window.{Window}
use Rattle.tender.specs.Tables.{Row, rows_of, bid_width, window_width}
use Rattle.award_check.specs.Cells.{holds, bid_row_at}
use Rattle.award_check.specs.Auction.{Offer, offered}

-- the price that bid i names in the table of bids
unfoldable pub named : List ℕ → ℕ → ℕ
named bids i = get_or bids (bid_width * i + 1) 0

-- how many windows the rows have
unfoldable pub window_count : List Row → ℕ
window_count [] = 0
window_count (r ∷ rs) = r.count + window_count rs

-- the rows that hold the n bids and their windows are the same in all but the price of bid i
pub record Alike (n i : ℕ) (bids windows bids' windows' : List ℕ) : Type 0 where
  pub rows : (j : ℕ) → j < bid_width * n → (j ≡ bid_width * i + 1 → ⊥) → get_or bids j 0 ≡ get_or bids' j 0
  pub windows_too : (j : ℕ) → j < window_width * window_count (rows_of n bids) → get_or windows j 0 ≡ get_or windows' j 0

-- the windows vs hold part of the minutes that the windows ws hold, or all of them, however either are written
abbrev pub PartOf : List Window → List Window → Type 0
PartOf vs ws = (minute : ℕ) → holds vs minute ≡ true → holds ws minute ≡ true

-- what row i of the tables offers
abbrev pub offer_at : List ℕ → List ℕ → ℕ → Offer
offer_at bids windows i = offered windows (bid_row_at bids i)

-- of the n bids each offers the same but bid i, which may name another price and offers part of its minutes
pub record Withheld (n i : ℕ) (bids windows bids' windows' : List ℕ) : Type 0 where
  pub others : (j : ℕ) → j < n → (j ≡ i → ⊥) → offer_at bids' windows' j ≡ offer_at bids windows j
  pub part : PartOf (offer_at bids' windows' i).windows (offer_at bids windows i).windows
