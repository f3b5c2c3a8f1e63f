-- What the demands say of a call, of two calls one after the other, and of two calls compared (paper 01, "Time, price and place").
use Rattle.std.specs.Prelude.{◌≡◌, ◌⊎◌, true, false, List, ◌++◌, map, ℕ, ◌+◌, ◌-◌, ◌*◌, ◌≤◌, ◌<◌}
use Rattle.std.specs.Prelude.{length, get_or, drop, ltb}
use Rattle.std.specs.Prelude.{Ok}
use Rattle.std.proofs.Math.Option.{some}
use Rattle.tender.specs.declared.Window.{Window}
use Rattle.tender.specs.declared.Tender.{Tender}
use Rattle.tender.specs.Limits.{max_price, max_text, most_windows, lawful, every}
use Rattle.tender.specs.Tables.{Row, rows_of, own, flat_windows, bid_width}
use Rattle.cover.specs.Sets.{bidders}
use Rattle.cover.specs.Earliest.{cell_with}
use Rattle.reader_text.specs.Words.{numeral_of, price_of}
use Rattle.reader_text.specs.Read.{accepted, read_text}
use Rattle.reader_fill.specs.Answer.{filled}
use Rattle.reader_text.specs.Differ.{DifferInPrice, DifferInBid, windows_by}
use Rattle.award_check.specs.Cells.{no_row}
use Rattle.award_check.specs.Auction.{offered, offers_of, thin_cell}
use Rattle.award_rule.specs.Award.{Rule, totals_of, outcome_number}
use Rattle.award_outcome.specs.Right.{Callable}
use Rattle.award_outcome.specs.Gain.{row_for, gain, AtMost}
use Rattle.spelling.specs.Decimal.{decimal}
use Rattle.spelling.specs.Lines.{pair_line, refused_word}
use Rattle.spelling.specs.Text.{bid_in}
use Rattle.spelling.specs.Spelt.{Spelt}
use Rattle.listing_text.specs.List.{list_of}
use Rattle.theorems_calls.specs.Calls.{ReadRun, ReadCall, AwardCall, auction_by, told_by, ListCall, shown}
use Rattle.theorems_calls.specs.OneReading.{Fills, OfText}
use Rattle.theorems_shown.specs.ListRead.{row_shown}

-- its tables break no rule, and each bid has an award row
abbrev pub CallableWith : AwardCall → Type 0
CallableWith c = Callable c.kind c.tender c.count c.bids c.windows (length c.rows_before)

-- it is the award of the tender's own kind, called on these tables
pub record SameTables (t : Tender) (n : ℕ) (bids windows : List ℕ) (c : AwardCall) : Type 0 where
  pub kinds : c.kind ≡ t.kind
  pub tenders : c.tender ≡ t
  pub counts : c.count ≡ n
  pub bids_too : c.bids ≡ bids
  pub windows_too : c.windows ≡ windows

-- some minute of the tender is in fewer than m bids
pub record FewerThan (m : ℕ) (c : AwardCall) : Type 0 where
  pub minute : ℕ
  pub from : c.tender.window.start ≤ minute
  pub to : minute < c.tender.window.end
  pub few : bidders (auction_by c).has (auction_by c).owners (minute - c.tender.window.start) < m

-- the award is refused for cover
abbrev pub ForCover : AwardCall → Type 0
ForCover c = (outcome_number (told_by c) ≡ 11) ⊎ (outcome_number (told_by c) ≡ 12)

abbrev pub Exactly : Type 0 → Type 0 → Type 0
Exactly A B = (A → B) × (B → A)

-- the award as it is without a house: the bids alone are weighed, a thin cell is looked for, and no house is told
pub record BidsAlone (c : AwardCall) : Type 0 where
  pub offers : offers_of c.tender c.count c.bids c.windows ≡ map (offered c.windows) (rows_of c.count c.bids)
  pub thin : (m : ℕ) → thin_cell (auction_by c) m ≡ cell_with (auction_by c).has (auction_by c).owners (auction_by c).cells m
  pub no_house : (r : Rule) → (totals_of r (auction_by c)).house ≡ false

-- the price of row i of its table of bids
abbrev pub price_at : AwardCall → ℕ → ℕ
price_at c i = get_or c.bids (bid_width * i + 1) 0

-- what an accepted text left in the tables, whatever their size; it is spelt again from it and from a word for each price
pub record WasRead (r : ReadRun) (t : Tender) : Type 0 where
  pub rows : List Row
  pub spans : List Window
  pub spelt : Spelt r.text t (map (bid_in (flat_windows spans)) rows)
  pub fills : Fills t rows spans r

-- a text that differs from an accepted one in the price of row i alone, written p there and q here; with a price within the limits it
-- is accepted too, if it is not too long
pub record Variant (text : List ℕ) (t : Tender) (R : List Row) (W : List Window) (i : ℕ) (q : List ℕ) : Type 0 where
  pub other : List ℕ
  pub p : List ℕ
  pub is : price_of p ≡ some (get_or R i no_row).price
  pub differ : DifferInPrice text other (decimal (get_or R i no_row).bidder) p q
  pub accepted_too : (v : ℕ) → price_of q ≡ some v → v ≤ max_price → length other ≤ max_text
      → (S : List Row) × (read_text other ≡ accepted t S W)

-- a text that differs from an accepted one in the bid of row i alone, whose price and windows are written p and ws there, q and vs here;
-- with a price and windows within the limits it is accepted too, if it is not too long
pub record BidVariant (text : List ℕ) (t : Tender) (R : List Row) (W : List Window) (i : ℕ) (q vs : List ℕ) : Type 0 where
  pub other : List ℕ
  pub p : List ℕ
  pub ws : List ℕ
  pub price_is : price_of p ≡ some (get_or R i no_row).price
  pub windows_are : windows_by ws ≡ own (flat_windows W) (get_or R i no_row)
  pub differ : DifferInBid text other (decimal (get_or R i no_row).bidder) p q ws vs
  pub accepted_too : (v : ℕ) → price_of q ≡ some v → v ≤ max_price → 1 ≤ length (windows_by vs)
      → length (windows_by vs) ≤ most_windows t.kind → every lawful (windows_by vs) ≡ true → length other ≤ max_text
      → (S : List Row) × (X : List Window) × (read_text other ≡ accepted t S X)

-- two calls of `read` gave the same answer and left the same in the tables
pub record SameReading (r r' : ReadCall) : Type 0 where
  pub answers : r.run.answer ≡ r'.run.answer
  pub bids : r.run.after_bids ≡ r'.run.after_bids
  pub windows : r.run.after_windows ≡ r'.run.after_windows

-- the award is called on what the accepted text left
pub record Follows (r : ReadCall) (c : AwardCall) : Type 0 where
  pub window_rows : ℕ
  pub accepts : r.run.answer ≡ Ok (filled c.tender c.count window_rows)
  pub bids_are : c.bids ≡ r.run.after_bids
  pub windows_are : c.windows ≡ r.run.after_windows

-- the same award, each time with an award row for every bid or each time with fewer
pub record SameAward (c c' : AwardCall) : Type 0 where
  pub kinds : c.kind ≡ c'.kind
  pub room : ltb (length c.rows_before) c.count ≡ ltb (length c'.rows_before) c'.count

-- bid i, whose true cost the first call names, gains no more in the second
abbrev pub NoGainAt : AwardCall → AwardCall → ℕ → Type 0
NoGainAt c c' i = AtMost (gain (price_at c i) (row_for (told_by c') i)) (gain (price_at c i) (row_for (told_by c) i))

-- row i is in both calls this bidder's, with the price p in the first and q in the second: where p is the true cost, the second gains no
-- more
pub record NoGainBetween (c c' : AwardCall) (bidder p q : List ℕ) : Type 0 where
  pub i : ℕ
  pub inside : i < c.count
  pub count_same : c'.count ≡ c.count
  pub bidder_is : numeral_of bidder ≡ some (get_or c.bids (bid_width * i) 0)
  pub bidder_too : numeral_of bidder ≡ some (get_or c'.bids (bid_width * i) 0)
  pub true_cost : price_of p ≡ some (price_at c i)
  pub other_price : price_of q ≡ some (price_at c' i)
  pub most : NoGainAt c c' i

-- the list of the text that it was given
abbrev pub list_by : ListCall → List ℕ
list_by l = list_of (read_text l.text)

-- one list: at the start of the buffer, with the bytes past it as they were; or 13, told by 0, where it is longer than the buffer
pub data OneList (l : ListCall) : Type 0 where
  list_written : length (list_by l) ≤ length l.buffer → l.answer ≡ length (list_by l)
      → l.after_buffer ≡ list_by l ++ drop (length (list_by l)) l.buffer → OneList l
  list_too_long : length l.buffer < length (list_by l) → l.answer ≡ 0 → l.after_buffer ≡ l.buffer → OneList l

-- the list was written, and it shows no refusal of reading: the text is a readable list
pub record ListGiven (l : ListCall) : Type 0 where
  pub written : 0 < l.answer
  pub read : (n at : ℕ) → OfText n → shown l ≡ pair_line refused_word n at → ⊥

-- of the bidder's lines in the two lists: where p is the true cost, the other list gains no more
pub record NoGainShown (l l' : ListCall) (bidder p : List ℕ) : Type 0 where
  pub number : ℕ
  pub cost : ℕ
  pub bidder_is : numeral_of bidder ≡ some number
  pub true_cost : price_of p ≡ some cost
  pub most : AtMost (gain cost (row_shown number (shown l'))) (gain cost (row_shown number (shown l)))

-- the number of a refusal that a list may show
abbrev pub Showable : ℕ → Type 0
Showable n = OfText n ⊎ ((n ≡ 11) ⊎ (n ≡ 12))
