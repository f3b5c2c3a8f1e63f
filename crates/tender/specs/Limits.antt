-- The limits of paper 01, "Time, price and place", and the rules of a window and of a tender.
use Rattle.std.specs.Prelude.{ℕ, Bool, true, false, ◌&&◌, List, [], ◌∷◌, leb, ltb, Some, None}
use Rattle.tender.specs.declared.Kind.{Kind}
use Rattle.tender.specs.declared.Kind.TheVariants.{Single, Multi}
use Rattle.tender.specs.declared.Span.{Span}
use Rattle.tender.specs.declared.Window.{Window}
use Rattle.tender.specs.Types.{Reserve}
use Rattle.tender.specs.declared.Tender.{Tender}

-- a ≤ n ≤ z
unfoldable pub within : ℕ → ℕ → ℕ → Bool
within a z n = leb a n && leb n z

-- minutes of a week: no window ends later
abbrev pub week : ℕ
week = 10080

-- prices are cents, 0 to 100,000,000
abbrev pub max_price : ℕ
max_price = 100000000

-- bidder numbers run from 1 to 999,999
abbrev pub max_bidder : ℕ
max_bidder = 999999

abbrev pub max_bids : ℕ
max_bids = 1000

-- an award can weigh the bids and one entry more
abbrev pub max_entries : ℕ
max_entries = 1001

abbrev pub max_windows : ℕ
max_windows = 32

abbrev pub max_text : ℕ
max_text = 65536

-- how many windows a bid may have
unfoldable pub most_windows : Kind → ℕ
most_windows Single = 1
most_windows Multi = max_windows

unfoldable pub is_single : Kind → Bool
is_single Single = true
is_single Multi = false

-- the window that holds the minutes of a span
abbrev pub as_window : Span → Window
as_window s = record { start = s.start; end = s.end }

-- a window (S E) has 0 ≤ S < E
abbrev pub ordered : Window → Bool
ordered w = ltb w.start w.end

-- and E ≤ 10,080
abbrev pub early : Window → Bool
early w = leb w.end week

unfoldable pub lawful : Window → Bool
lawful w = ordered w && early w

-- a reserve is a price within its limits
unfoldable pub lawful_reserve : Reserve → Bool
lawful_reserve None = true
lawful_reserve (Some p) = leb p max_price

-- the rules of a tender: its own window and its reserve are lawful
unfoldable pub sound_tender : Tender → Bool
unfolding lawful lawful_reserve
sound_tender t = lawful (as_window t.window) && lawful_reserve t.reserve

-- each of the windows passes the test
unfoldable pub every : (Window → Bool) → List Window → Bool
every test [] = true
every test (w ∷ ws) = test w && every test ws
