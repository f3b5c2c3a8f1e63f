-- What the demands say of an outcome: one answer, least cover, formula 8, no gain by a false price or by minutes held back.
use Rattle.std.specs.Prelude.{◌≡◌, List, ◌++◌, true, ◌&&◌, ℕ, ◌+◌, ◌-◌, ◌^◌, ◌≤◌, ◌<◌, length, get_or}
use Rattle.std.specs.Prelude.{drop}
use Rattle.std.specs.Prelude.{None}
use Rattle.std.proofs.Math.Option.{none, some}
use Rattle.tender.specs.declared.Kind.{Kind}
use Rattle.tender.specs.declared.Tender.{Tender}
use Rattle.tender.specs.declared.Totals.{Totals}
use Rattle.tender.specs.declared.Refusal.{Refusal}
use Rattle.tender.specs.declared.Refusal.TheVariants.{BadTables, RowsTooFew, MinuteUncovered, OneBidder}
use Rattle.tender.specs.Tables.{Row}
use Rattle.cover.specs.Sets.{bit, bidders}
use Rattle.cover.specs.Sets as sets
use Rattle.cover.specs.LeastCover.{Wins, Stands, without}
use Rattle.reader_text.specs.Words.{numeral_of, price_of}
use Rattle.award_check.specs.Faults.{fault_of}
use Rattle.award_check.specs.Cells.{no_row}
use Rattle.award_check.specs.Auction.{Auction, auction_of, reserved}
use Rattle.award_check.specs.Alike.{named}
use Rattle.tender.specs.declared.AwardRow.{AwardRow}
use Rattle.award_rule.specs.Award.{Rule, rule, covers_in, Outcome, awarded, refused, award_rows, totals_of}
use Rattle.award_outcome.specs.Gain.{row_for, gain, AtMost}

-- no rule is broken, and there is an award row for every bid
pub record Callable (k : Kind) (t : Tender) (n : ℕ) (bids windows : List ℕ) (lent : ℕ) : Type 0 where
  pub sound : fault_of k t n bids windows ≡ none
  pub rows : n ≤ lent

-- each minute of the tender, cell x, is in m bids at least
abbrev pub Bidders : Auction → ℕ → Type 0
Bidders A m = (x : ℕ) → x < A.cells → m ≤ bidders A.has A.owners x

-- the minute is in the tender and in exactly b bids, and no earlier minute of the tender is
pub record EarliestIn (t : Tender) (A : Auction) (minute b : ℕ) : Type 0 where
  pub from : t.window.start ≤ minute
  pub to : minute < t.window.end
  pub bids_with_it : bidders A.has A.owners (minute - t.window.start) ≡ b
  pub earliest : (m : ℕ) → t.window.start ≤ m → m < minute → bidders A.has A.owners (m - t.window.start) ≡ b → ⊥

-- the outcome is the award of the definitions, and it alone changed the lent rows
pub record IsAward (r : Rule) (A : Auction) (old new : List AwardRow) (o : Outcome) : Type 0 where
  pub outcome : o ≡ awarded (award_rows r A) (totals_of r A)
  pub lent : new ≡ award_rows r A ++ drop A.owners old

-- a refusal leaves the lent rows as they were
pub record IsRefusal (r : Refusal) (old new : List AwardRow) (o : Outcome) : Type 0 where
  pub outcome : o ≡ refused r
  pub lent : new ≡ old

-- one award or one refusal: 9, else 10, else, without a reserve, 11, else 12
pub data OneAnswer (k : Kind) (t : Tender) (n : ℕ) (bids windows : List ℕ) (old new : List AwardRow) (o : Outcome) : Type 0 where
  tables_break_a_rule : (p : ℕ) → fault_of k t n bids windows ≡ some p → IsRefusal (BadTables p) old new o
      → OneAnswer k t n bids windows old new o
  rows_too_few : fault_of k t n bids windows ≡ none → length old < n → IsRefusal RowsTooFew old new o
      → OneAnswer k t n bids windows old new o
  minute_uncovered : (m : ℕ) → Callable k t n bids windows (length old) → t.reserve ≡ None
      → EarliestIn t (auction_of t n bids windows) m 0
      → IsRefusal (MinuteUncovered m) old new o → OneAnswer k t n bids windows old new o
  one_bidder : (m : ℕ) → Callable k t n bids windows (length old) → t.reserve ≡ None → Bidders (auction_of t n bids windows) 1
      → EarliestIn t (auction_of t n bids windows) m 1 → IsRefusal (OneBidder m) old new o → OneAnswer k t n bids windows old new o
  award : Callable k t n bids windows (length old) → (t.reserve ≡ None → Bidders (auction_of t n bids windows) 2)
      → IsAward (rule k) (auction_of t n bids windows) old new o → OneAnswer k t n bids windows old new o

-- the winners by least cost: bid i is bit i of the set, and the house the bit after the bids'
pub record LeastCover (A : Auction) (rows : List AwardRow) (totals : Totals) : Type 0 where
  pub set : ℕ
  pub below : set < 2 ^ length A.prices
  pub members : (i : ℕ) → i < A.owners → (row_for (awarded rows totals) i).won ≡ bit set i
  pub house_is : totals.house ≡ (reserved A && bit set A.owners)
  pub all_covered : covers_in A set ≡ true
  pub cost_is : totals.cost ≡ sets.cost A.prices set
  pub least : (s : ℕ) → s < 2 ^ length A.prices → covers_in A s ≡ true → totals.cost ≤ sets.cost A.prices s
  pub ties : (s : ℕ) → s < 2 ^ length A.prices → covers_in A s ≡ true → sets.cost A.prices s ≡ totals.cost
      → (s ≡ set → ⊥) → Stands set s

-- the winners by either rule cover: each minute of the tender, cell x, is in a winner's windows, or the house is a winner and has it
pub data WinnerAt (A : Auction) (rows : List AwardRow) (totals : Totals) (x : ℕ) : Type 0 where
  by_owner : (who : ℕ) → who < A.owners → (row_for (awarded rows totals) who).won ≡ true → A.has who x ≡ true
      → WinnerAt A rows totals x
  by_house : totals.house ≡ true → A.has A.owners x ≡ true → WinnerAt A rows totals x

-- document 000, formula 8: a winner's payment is the least cost without this bid, less the winners' cost, plus the winner's own price
pub record PaidByEight (A : Auction) (i cents cost : ℕ) : Type 0 where
  pub other : ℕ
  pub least_without : Wins (without i (covers_in A)) (sets.cost A.prices) (2 ^ length A.prices) other
  pub formula : cents + cost ≡ sets.cost A.prices other + get_or A.prices i 0

-- bid i is the one whose price the texts write p and q: where p names the true cost, the second gains no more
pub record NoGain (R S : List Row) (bids bids' : List ℕ) (a a' : Outcome) (bidder p q : List ℕ) : Type 0 where
  pub i : ℕ
  pub inside : i < length R
  pub count : length S ≡ length R
  pub bidder_is : numeral_of bidder ≡ some (get_or R i no_row).bidder
  pub bidder_too : numeral_of bidder ≡ some (get_or S i no_row).bidder
  pub true_cost : price_of p ≡ some (named bids i)
  pub other_price : price_of q ≡ some (named bids' i)
  pub most : AtMost (gain (named bids i) (row_for a' i)) (gain (named bids i) (row_for a i))
