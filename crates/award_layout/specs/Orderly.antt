-- What faultless tables say of each row, and what laying them out as bids over cells leaves.
use Rattle.std.specs.Prelude.{◌≡◌, List, ◌&&◌, ℕ, ◌-◌, ◌/◌, ◌≤◌, ◌<◌, min, length, get_or, ltb, eqb}
use Rattle.tender.specs.declared.Window.{Window}
use Rattle.tender.specs.declared.Tender.{Tender}
use Rattle.tender.specs.Tables.{own, window_at, bid_width}
use Rattle.cells.specs.Cells.{cell}
use Rattle.multi_market.specs.Market.{word_row}
use Rattle.award_check.specs.Cells.{holds, cells_of, minute_of, bid_row_at}
use Rattle.award_check.specs.Faults.{Kept}

-- n rows that keep the row rules
pub record Orderly (t : Tender) (n : ℕ) (bids windows : List ℕ) : Type 0 where
  pub few : n ≤ 1000
  pub lent : n ≤ length bids / bid_width
  pub kept : (i : ℕ) → i < n → Kept t windows (bid_row_at bids i).first (bid_row_at bids i)

-- the cell of a minute, within the tender
abbrev pub clipped : Tender → ℕ → ℕ
clipped t minute = min (minute - t.window.start) (cells_of t)

-- the prices of n bids
pub record PricesLaid (n : ℕ) (bids prices : List ℕ) : Type 0 where
  pub count : length prices ≡ n
  pub prices_are : (i : ℕ) → i < n → get_or prices i 0 ≡ (bid_row_at bids i).price

-- starts and ends of the one window of each bid, as cells
pub record SpansLaid (n : ℕ) (t : Tender) (bids windows starts ends : List ℕ) : Type 0 where
  pub starts_are : (i : ℕ) → i < n → get_or starts i 0 ≡ clipped t (window_at windows (bid_row_at bids i).first).start
  pub ends_are : (i : ℕ) → i < n → get_or ends i 0 ≡ clipped t (window_at windows (bid_row_at bids i).first).end

-- the words have the cells of the windows, and no other
pub record Masked (t : Tender) (ws : List Window) (words : List ℕ) : Type 0 where
  pub sets : (x : ℕ) → eqb (cell words x) 1 ≡ (ltb x (cells_of t) && holds ws (minute_of t x))

-- the words of each of n bids, w words a bid
pub record AllMasked (n : ℕ) (t : Tender) (w : ℕ) (bids windows ms : List ℕ) : Type 0 where
  pub each : (i : ℕ) → i < n → Masked t (own windows (bid_row_at bids i)) (word_row ms w i)
