-- The layout of the two lent tables of numbers (paper 01, "The bid text"): four numbers a row of the bid table (bidder, price,
-- place of its first window, number of windows), two numbers a row of the window table (start, end).
use Rattle.std.specs.Prelude.{ℕ, zero, suc, ◌+◌, ◌*◌, List, [], ◌∷◌, get_or, drop}
use Rattle.tender.specs.declared.Window.{Window}

-- the numbers of a row of the bid table
abbrev pub bid_width : ℕ
bid_width = 4

-- the numbers of a row of the window table
abbrev pub window_width : ℕ
window_width = 2

-- the numbers of a bid table and of a window table that have room for every readable text
abbrev pub bid_table : ℕ
bid_table = 4000

abbrev pub window_table : ℕ
window_table = 22000

-- a row of the bid table
pub record Row : Type 0 where
  pub bidder : ℕ
  pub price : ℕ
  pub first : ℕ
  pub count : ℕ

-- the numbers of the rows, one after the other
unfoldable pub flat_rows : List Row → List ℕ
flat_rows [] = []
flat_rows (r ∷ rs) = r.bidder ∷ r.price ∷ r.first ∷ r.count ∷ flat_rows rs

unfoldable pub flat_windows : List Window → List ℕ
flat_windows [] = []
flat_windows (w ∷ ws) = w.start ∷ w.end ∷ flat_windows ws

-- the first n rows of a table
unfoldable pub rows_of : ℕ → List ℕ → List Row
rows_of zero table = []
rows_of (suc n) table = record { bidder = get_or table 0 0; price = get_or table 1 0; first = get_or table 2 0; count = get_or table 3 0 }
    ∷ rows_of n (drop bid_width table)

-- row j of a window table
abbrev pub window_at : List ℕ → ℕ → Window
window_at table j = record { start = get_or table (window_width * j) 0; end = get_or table (window_width * j + 1) 0 }

unfoldable pub windows_of : ℕ → List ℕ → List Window
windows_of zero table = []
windows_of (suc n) table = window_at table 0 ∷ windows_of n (drop window_width table)

-- the windows of a row
unfoldable pub own : List ℕ → Row → List Window
unfolding windows_of
own windows r = windows_of r.count (drop (window_width * r.first) windows)
