-- How the answer to who asks for the highest price comes about: from a fault, a cell in no bid or in one, a number that no bid has, or the
-- price below which the bid would win. Assumes nothing.
use Rattle.std.specs.Prelude.{◌≡◌, refl, List, ◌++◌, ℕ, ◌<◌, length, Some, None, Ok, Err}
use Rattle.std.proofs.Math.Path.{sym, ap}
use Rattle.std.proofs.Common.{◌∙◌, arith, le-ltb}
use Rattle.std.proofs.Math.Option.{none, some}
use Rattle.tender.specs.declared.Window.{Window}
use Rattle.tender.specs.declared.Tender.{Tender}
use Rattle.tender.specs.Types.{Highest}
use Rattle.tender.specs.declared.AwardRow.{AwardRow}
use Rattle.tender.specs.declared.Totals.{Totals}
use Rattle.tender.specs.declared.Refusal.{Refusal}
use Rattle.tender.specs.declared.Refusal.TheVariants.{BadTables, MinuteUncovered, OneBidder, NoSuchBidder}
use Rattle.tender.specs.Tables.{Row, flat_rows, flat_windows}
use Rattle.cover.specs.Sets.{Found, nothing, found}
use Rattle.cover.specs.Spare.{Spare}
use Rattle.cover.specs.Winning.{Below, one_less}
use Rattle.reader_text.specs.Rules.{Rules}
use Rattle.award_check.specs.Faults.{fault_of}
use Rattle.award_check.specs.Cells.{minute_of}
use Rattle.award_check.specs.Auction.{Auction, auction_of, at_price, thin_cell}
use Rattle.award_check.proofs.AuctionLaws.{entries, cells_are, owner_spared, auction_read}
use Rattle.award_layout.specs.LayoutLaws.{cells_within}
use Rattle.award_rule.specs.Award.{Rule, rule, won, Outcome, awarded, refused, award_rows, totals_of, thinned, uncovered, lone, award_of}
use Rattle.award_rule.proofs.AwardLaws.{award_nine, award_settles, AwardOn, award_awarded}
use Rattle.award_rule.proofs.ReadLaws.{award_read}
use Rattle.highest_rule.specs.Highest.{highest, row_with, price_for, on_row, unless_refused, highest_of}
use Rattle.highest_rule.proofs.HighestLaws.{highest_below}
use Rattle.highest_rule.proofs.RowLaws.{row_inside, row_read}

-- a price as it is answered
pub price_found : (f : Found) (p : ℕ) → f ≡ found p → price_for f ≡ Ok (Some p)
unfolding price_for
price_found f p e = rw e

pub price_none : (f : Found) → f ≡ nothing → price_for f ≡ Ok None
unfolding price_for
price_none f e = rw e

module _ (t : Tender) (n : ℕ) (bids windows : List ℕ) (bidder : ℕ) where
  abbrev A : Auction
  A = auction_of t n bids windows

  abbrev answer : Highest
  answer = highest_of t n bids windows bidder

  -- 9
  pub nine : (p : ℕ) → fault_of t.kind t n bids windows ≡ some p → Err (BadTables p) ≡ answer
  unfolding highest_of unless_refused
  nine p e = rw (award_nine t.kind t n bids windows n p e)

  module _ (f : fault_of t.kind t n bids windows ≡ none) where
    settles : (x y : Found) → thin_cell A 0 ≡ x → thin_cell A 1 ≡ y → award_of t.kind t n bids windows n
        ≡ thinned (uncovered t) (lone t) x y (awarded (award_rows (rule t.kind) A) (totals_of (rule t.kind) A))
    settles = award_settles t.kind t n bids windows n f (le-ltb n n (omega arith))

    -- 11
    pub eleven : (x : ℕ) → thin_cell A 0 ≡ found x → Err (MinuteUncovered (minute_of t x)) ≡ answer
    unfolding highest_of unless_refused thinned uncovered
    eleven x e = rw (settles (found x) (thin_cell A 1) e refl)

    -- 12
    pub twelve : (x : ℕ) → thin_cell A 0 ≡ nothing → thin_cell A 1 ≡ found x → Err (OneBidder (minute_of t x)) ≡ answer
    unfolding highest_of unless_refused thinned lone
    twelve x d e = rw (settles nothing (found x) d e)

    -- the tender is awarded
    module _ (covered : thin_cell A 0 ≡ nothing) (doubled : thin_cell A 1 ≡ nothing) where
      pub asked : answer ≡ on_row (row_with bids n bidder) (Err NoSuchBidder) (λ i. price_for (highest (rule t.kind) A i))
      unfolding highest_of unless_refused thinned
      asked = rw (settles nothing nothing covered doubled)

      -- 17
      pub seventeen : row_with bids n bidder ≡ nothing → Err NoSuchBidder ≡ answer
      unfolding on_row
      seventeen e = sym (asked ∙ ap (λ f. on_row f (Err NoSuchBidder) (λ i. price_for (highest (rule t.kind) A i))) e)

      -- the other entries have every cell, of which there is one
      pub row_spared : (i : ℕ) → row_with bids n bidder ≡ found i → Spare A.has (length A.prices) A.cells i
      row_spared i e = owner_spared t n bids windows covered doubled i (row_inside bids n bidder i e).0

      pub row_entry : (i : ℕ) → row_with bids n bidder ≡ found i → i < length A.prices
      row_entry i e = omega (arith, (row_inside bids n bidder i e).0, entries t n bids windows)

      pub some_cell : 0 < A.cells
      some_cell = omega (arith, cells_are t n bids windows, (cells_within t.kind t n bids windows f).0)

      pub row_asked : (i : ℕ) → row_with bids n bidder ≡ found i → answer ≡ price_for (highest (rule t.kind) A i)
      unfolding on_row
      row_asked i e = asked ∙ ap (λ f. on_row f (Err NoSuchBidder) (λ i. price_for (highest (rule t.kind) A i))) e

      -- the price
      pub price : (i m : ℕ) → row_with bids n bidder ≡ found i → Below (λ q. won (rule t.kind) (at_price i q A) i) m
          → price_for (one_less m) ≡ answer
      price i m e b = sym (row_asked i e ∙ ap price_for
          (highest_below A i (row_entry i e) (row_spared i e) some_cell (rule t.kind) m b))

-- what an answer says: the award's refusal, a number that no row has, or the price for the row's bid
pub data Answered (t : Tender) (n : ℕ) (bids windows : List ℕ) (bidder : ℕ) (a : Highest) : Type 0 where
  declined : (r : Refusal) → award_of t.kind t n bids windows n ≡ refused r → a ≡ Err r → Answered t n bids windows bidder a
  unknown : (rows : List AwardRow) (totals : Totals) → AwardOn t.kind t n bids windows n rows totals
      → award_of t.kind t n bids windows n ≡ awarded rows totals → row_with bids n bidder ≡ nothing
      → a ≡ Err NoSuchBidder → Answered t n bids windows bidder a
  priced : (rows : List AwardRow) (totals : Totals) → AwardOn t.kind t n bids windows n rows totals
      → award_of t.kind t n bids windows n ≡ awarded rows totals → (i : ℕ) → row_with bids n bidder ≡ found i
      → a ≡ price_for (highest (rule t.kind) (auction_of t n bids windows) i)
      → Answered t n bids windows bidder a

pub answered : (t : Tender) (n : ℕ) (bids windows : List ℕ) (bidder : ℕ) (a : Highest) → a ≡ highest_of t n bids windows bidder
    → Answered t n bids windows bidder a
unfolding highest_of unless_refused on_row
answered t n bids windows bidder a e = go (award_of t.kind t n bids windows n) refl e
  where
    price : Rule → ℕ → Highest
    price r i = price_for (highest r (auction_of t n bids windows) i)

    row : (rows : List AwardRow) (totals : Totals) → AwardOn t.kind t n bids windows n rows totals
        → award_of t.kind t n bids windows n ≡ awarded rows totals → (f : Found)
        → row_with bids n bidder ≡ f → a ≡ on_row f (Err NoSuchBidder) (price (rule t.kind))
        → Answered t n bids windows bidder a
    row rows totals w m nothing d h = unknown rows totals w m d h
    row rows totals w m (found i) d h = priced rows totals w m i d h

    go : (o : Outcome) → award_of t.kind t n bids windows n ≡ o
        → a ≡ unless_refused o (on_row (row_with bids n bidder) (Err NoSuchBidder) (price (rule t.kind)))
        → Answered t n bids windows bidder a
    go (refused r) d h = declined r d h
    go (awarded rows totals) d h = row rows totals (award_awarded t.kind t n bids windows n rows totals (sym d)) d
        (row_with bids n bidder) refl h

-- what stands past the rows that were read says nothing
pub highest_read : (T : Tender) (R : List Row) (W : List Window) → Rules T R W → (v w : List ℕ) (bidder : ℕ)
    → highest_of T (length R) (flat_rows R ++ v) (flat_windows W ++ w) bidder
    ≡ highest_of T (length R) (flat_rows R) (flat_windows W) bidder
unfolding highest_of
highest_read T R W rules v w bidder =
    ap (λ o. unless_refused o (on_row (row_with (flat_rows R ++ v) (length R) bidder) (Err NoSuchBidder)
    (price (auction_of T (length R) (flat_rows R ++ v) (flat_windows W ++ w))))) (award_read T R W rules v w (length R) (omega arith))
    ∙ ap (λ B. unless_refused alone (on_row (row_with (flat_rows R ++ v) (length R) bidder) (Err NoSuchBidder) (price B)))
    (auction_read T R W rules v w)
    ∙ ap (λ f. unless_refused alone (on_row f (Err NoSuchBidder) (price (auction_of T (length R) (flat_rows R) (flat_windows W)))))
    (row_read R v bidder)
  where
    price : Auction → ℕ → Highest
    price B i = price_for (highest (rule T.kind) B i)

    alone : Outcome
    alone = award_of T.kind T (length R) (flat_rows R) (flat_windows W) (length R)
