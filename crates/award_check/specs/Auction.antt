-- The auction of a tender: its cells, and what each entry offers, in entry order (paper 01, "Time, price and place"), the house after
-- all others (paper 02, request 5).
use Rattle.std.specs.Prelude.{List, [], ◌∷◌, ◌++◌, map, Bool, cond, ◌&&◌, ℕ, length, get_or, set, ltb, Some, None}
use Rattle.tender.specs.declared.Window.{Window}
use Rattle.tender.specs.Types.{Reserve}
use Rattle.tender.specs.declared.Tender.{Tender}
use Rattle.tender.specs.Limits.{as_window}
use Rattle.tender.specs.Tables.{Row, rows_of, own}
use Rattle.cover.specs.Sets.{Found, nothing}
use Rattle.cover.specs.Earliest.{cell_with}
use Rattle.award_check.specs.Cells.{holds, cells_of, minute_of}

-- what an entry offers: its price, and the windows that it holds
pub record Offer : Type 0 where
  pub price : ℕ
  pub windows : List Window

-- what stands past the last offer
unfoldable pub no_offer : Offer
no_offer = record { price = 0; windows = [] }

unfoldable pub offered : List ℕ → Row → Offer
unfolding own
offered windows r = record { price = r.price; windows = own windows r }

-- how many entries a reserve adds
abbrev pub houses : Reserve → ℕ
houses None = 0
houses (Some p) = 1

-- the house covers the whole tender for its price
unfoldable pub house_of : Tender → Reserve → List Offer
house_of t None = []
house_of t (Some p) = record { price = p; windows = as_window t.window ∷ [] } ∷ []

-- the n bids of the tables, in entry order, and after all others the house
unfoldable pub offers_of : Tender → ℕ → List ℕ → List ℕ → List Offer
unfolding rows_of offered house_of
offers_of t n bids windows = map (offered windows) (rows_of n bids) ++ house_of t t.reserve

-- how many cells, who has which, the prices in entry order, and how many of the entries are owners' bids
pub record Auction : Type 0 where
  pub cells : ℕ
  pub has : ℕ → ℕ → Bool
  pub prices : List ℕ
  pub owners : ℕ

-- entry i has the cell x; its minutes outside the tender count for nothing
unfoldable pub has_of : Tender → List Offer → ℕ → ℕ → Bool
unfolding cells_of minute_of holds no_offer
has_of t os i x = ltb x (cells_of t) && holds (get_or os i no_offer).windows (minute_of t x)

unfoldable pub auction_of : Tender → ℕ → List ℕ → List ℕ → Auction
unfolding offers_of has_of cells_of
auction_of t n bids windows = let os = offers_of t n bids windows in
    record { cells = cells_of t; has = has_of t os; prices = map (λ o. o.price) os; owners = n }

-- the auction with the price of entry i set to q
unfoldable pub at_price : ℕ → ℕ → Auction → Auction
at_price i q A = record { cells = A.cells; has = A.has; prices = set A.prices i q; owners = A.owners }

-- an entry stands after the owners': the house
unfoldable pub reserved : Auction → Bool
reserved A = ltb A.owners (length A.prices)

-- the earliest cell that is in exactly m of the owners' bids; with a reserve none is looked for
unfoldable pub thin_cell : Auction → ℕ → Found
unfolding reserved cell_with
thin_cell A m = cond (reserved A) nothing (cell_with A.has A.owners A.cells m)
