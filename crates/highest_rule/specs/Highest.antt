-- With which price a bid would win, and what is answered to who asks (paper 02, request 8).
use Rattle.std.specs.Prelude.{List, ℕ, ◌*◌, get_or, set, eqb, Some, None, Ok, Err}
use Rattle.tender.specs.declared.Tender.{Tender}
use Rattle.tender.specs.Types.{Highest}
use Rattle.tender.specs.declared.Refusal.TheVariants.{NoSuchBidder}
use Rattle.tender.specs.Tables.{bid_width}
use Rattle.cover.specs.Sets.{Found, nothing, found, cells}
use Rattle.cover.specs.CriticalPrice.{largest, ceiling}
use Rattle.award_check.specs.Auction.{Auction, auction_of, at_price}
use Rattle.award_rule.specs.Award.{Rule, rule, won, Outcome, awarded, refused, award_of}

-- the largest whole price with which entry i would win if all else stood; nothing where not even 0 would. The search ends at a price from
-- which on none wins, and the limit of prices is set aside
unfoldable pub highest : Rule → Auction → ℕ → Found
unfolding won at_price largest ceiling cells
highest r A i = largest (λ q. won r (at_price i q A) i) (ceiling (set A.prices i 0) (cells A.cells))

-- the row with this bidder number, of the first n: tables without a fault have one at most
unfoldable pub row_with : List ℕ → ℕ → ℕ → Found
unfolding largest
row_with bids n bidder = largest (λ i. eqb (get_or bids (bid_width * i) 0) bidder) n

-- the price found, as it is answered
unfoldable pub price_for : Found → Highest
price_for nothing = Ok None
price_for (found p) = Ok (Some p)

-- what is answered where a row is found, and where none is
unfoldable pub on_row : Found → Highest → (ℕ → Highest) → Highest
on_row nothing a f = a
on_row (found i) a f = f i

-- what the award declines is declined
unfoldable pub unless_refused : Outcome → Highest → Highest
unless_refused (awarded rows totals) h = h
unless_refused (refused r) h = Err r

-- refused as by the award of the tender's own kind with an award row for every bid, so never with 10; then with 17 where no row has the
-- number; else the price for the row's bid
unfoldable pub highest_of : Tender → ℕ → List ℕ → List ℕ → ℕ → Highest
unfolding unless_refused award_of on_row row_with price_for highest auction_of
highest_of t n bids windows bidder =
    unless_refused (award_of t.kind t n bids windows n) (on_row (row_with bids n bidder) (Err NoSuchBidder)
    (λ i. price_for (highest (rule t.kind) (auction_of t n bids windows) i)))
