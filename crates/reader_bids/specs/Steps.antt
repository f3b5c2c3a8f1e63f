-- What this crate's functions answer, as the definitions' values.
use Rattle.std.specs.Prelude.{◌≡◌, List, [], ◌∷◌, ◌++◌, ℕ, ◌+◌, ◌*◌, ◌≤◌, ◌<◌, length, take, drop, eqb}
use Rattle.std.specs.Prelude.{Result, Ok, Err}
use Rattle.std.proofs.Math.Option.{Option, none, some}
use Rattle.tender.specs.declared.Tender.{Tender}
use Rattle.tender.specs.declared.Refusal.{Refusal}
use Rattle.tender.specs.declared.Refusal.TheVariants.{BadForm, ReserveMisplaced}
use Rattle.tender.specs.Tables.{Row, flat_rows, flat_windows, bid_width, window_width}
use Rattle.cells.specs.Cells as cells
use Rattle.reader_forms.specs.Line.{BidLine, Line, tender, bid, reserve}
use Rattle.reader_forms.specs.Tally.{put_windows}
use Rattle.reader_text.specs.Read.{ReadOutcome, refused, rows_from, all_windows, bids_of, bid_fault_after, checked}
use Rattle.reader_parts.specs.declared.Read.{Read}
use Rattle.reader_bids.specs.declared.Counts.{Counts}

abbrev pub row_numbers : Row → List ℕ
row_numbers r = r.bidder ∷ r.price ∷ r.first ∷ r.count ∷ []

-- what judging the line of this number answers
abbrev pub verdict : ℕ → Option (ℕ → Refusal) → Result (Unit {0}) Refusal
verdict line none = Ok tt
verdict line (some r) = Err (r line)

-- what taking a line answers: how many windows its bid has and where the next line begins, or the line's fault
abbrev pub Step : Type 0
Step = Result (Read ℕ) Refusal

abbrev pub took : ℕ → ℕ → Step
took count next = Ok (record { value = count; next = next })

-- a bid goes into the tables after k bids with m windows, and the next line begins at `next`
pub record BidTaken (b : BidLine) (next k m : ℕ) (used rows windows : List ℕ) (r : Step)
    (used' rows' windows' : List ℕ) : Type 0
  where
    pub answer : r ≡ took (length b.windows) next
    pub row : rows' ≡ take (bid_width * k) rows ++ row_numbers
        (record { bidder = b.bidder; price = b.price; first = m; count = length b.windows })
        ++ drop (bid_width * k + bid_width) rows
    pub own : windows' ≡ put_windows windows m b.windows
    pub mark : cells.RangeAdded b.bidder (b.bidder + 1) used used'

abbrev pub Judged : Option (ℕ → Refusal) → BidLine → (next line k m : ℕ) → (used rows windows : List ℕ) → Step
    → (used' rows' windows' : List ℕ) → Type 0
Judged none b next line k m used rows windows r used' rows' windows' =
    BidTaken b next k m used rows windows r used' rows' windows'
Judged (some f) b next line k m used rows windows r used' rows' windows' = r ≡ Err (f line)

-- what comes of a line, which has the number `line` in its text and goes on to place `next`
abbrev pub Taken : Option Line → ℕ → Tender → (line k m : ℕ) → (used rows windows : List ℕ) → Step
    → (used' rows' windows' : List ℕ) → Type 0
Taken none next t line k m used rows windows r used' rows' windows' = r ≡ Err (BadForm line)
Taken (some (tender u)) next t line k m used rows windows r used' rows' windows' = r ≡ Err (BadForm line)
Taken (some (reserve p)) next t line k m used rows windows r used' rows' windows' = r ≡ Err (ReserveMisplaced line)
Taken (some (bid b)) next t line k m used rows windows r used' rows' windows' =
    Judged (bid_fault_after t k b (eqb (cells.cell used b.bidder) 1)) b next line k m used rows windows r used' rows' windows'

-- the tables hold the bids of these lines, from line `from` on, none of which is faulty
pub record TablesHold (t : Tender) (from : ℕ) (ls : List (Option Line)) (k m : ℕ) (rows windows : List ℕ) : Type 0 where
  pub faultless : (out : ReadOutcome) → checked t from [] ls out ≡ out
  pub bids : length (bids_of ls) ≡ k
  pub places : length (all_windows (bids_of ls)) ≡ m
  pub few_bids : k ≤ 1000
  pub few_windows : m < 11000
  pub rows_are : take (bid_width * k) rows ≡ flat_rows (rows_from 0 (bids_of ls))
  pub windows_are : take (window_width * m) windows ≡ flat_windows (all_windows (bids_of ls))

-- what comes of the lines after the head, from line `from` on
abbrev pub LinesFilled : Tender → ℕ → List (Option Line) → Result Counts Refusal → (rows windows : List ℕ) → Type 0
LinesFilled t from ls (Ok n) rows windows = TablesHold t from ls n.bids n.windows rows windows
LinesFilled t from ls (Err r) rows windows =
    (out : ReadOutcome) → checked t from [] ls out ≡ refused r
