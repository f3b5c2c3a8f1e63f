-- From tables to cells: the cells of a tender are its minutes, and windows hold some of them (paper 01, "Time, price and place").
use Rattle.std.specs.Prelude.{List, [], ◌∷◌, Bool, false, ◌&&◌, ◌||◌, ℕ, ◌+◌, ◌-◌, ◌*◌, get_or, leb, ltb}
use Rattle.tender.specs.declared.Window.{Window}
use Rattle.tender.specs.declared.Tender.{Tender}
use Rattle.tender.specs.Tables.{Row, bid_width}

-- one of the windows holds the minute
unfoldable pub holds : List Window → ℕ → Bool
holds [] minute = false
holds (w ∷ ws) minute = leb w.start minute && ltb minute w.end || holds ws minute

-- how many cells a tender has
unfoldable pub cells_of : Tender → ℕ
cells_of t = t.window.end - t.window.start

-- the minute of a cell
unfoldable pub minute_of : Tender → ℕ → ℕ
minute_of t x = t.window.start + x

-- row i of the bid table
abbrev pub bid_row_at : List ℕ → ℕ → Row
bid_row_at bids i = record {
  bidder = get_or bids (bid_width * i) 0;
  price = get_or bids (bid_width * i + 1) 0;
  first = get_or bids (bid_width * i + 2) 0;
  count = get_or bids (bid_width * i + 3) 0;
}

-- what stands past the last row: it has no window
unfoldable pub no_row : Row
no_row = record { bidder = 0; price = 0; first = 0; count = 0 }
