-- What reading a bid text answers (paper 01, "The bid text" and "What each operation declines").
use Rattle.std.specs.Prelude.{ℕ, ◌+◌, List, [], ◌∷◌, ◌++◌, Bool, false, cond, not, ◌&&◌, ◌||◌, length, leb, ltb}
use Rattle.std.specs.Prelude.{Some, None}
use Rattle.std.proofs.Math.Option.{Option, none, some}
use Rattle.tender.specs.declared.Window.{Window}
use Rattle.tender.specs.Types.{Reserve}
use Rattle.tender.specs.declared.Tender.{Tender}
use Rattle.tender.specs.declared.Refusal.{Refusal}
use Rattle.tender.specs.declared.Refusal.TheVariants.{TextTooLong, BadForm, OutsideLimits, TooMany, EmptyWindow, BidderRepeated}
use Rattle.tender.specs.declared.Refusal.TheVariants.{SeveralWindows, TableTooShort, LateWindow, ReserveMisplaced}
use Rattle.tender.specs.Limits.{as_window, within, max_price, max_bidder, max_bids, max_windows, max_text, is_single, ordered, early, every}
use Rattle.tender.specs.Tables.{Row}
use Rattle.reader_parts.specs.Words.{cut, among}
use Rattle.reader_forms.specs.Line.{TenderLine, BidLine, Line, tender, bid, reserve, lines_of}

pub data ReadOutcome : Type 0 where
  accepted : Tender → List Row → List Window → ReadOutcome
  refused : Refusal → ReadOutcome

-- the rows of the bids, whose windows stand from `at` on
unfoldable pub rows_from : ℕ → List BidLine → List Row
rows_from at [] = []
rows_from at (b ∷ bs) = record { bidder = b.bidder; price = b.price; first = at; count = length b.windows }
    ∷ rows_from (at + length b.windows) bs

unfoldable pub all_windows : List BidLine → List Window
all_windows [] = []
all_windows (b ∷ bs) = b.windows ++ all_windows bs

unfoldable pub bids_of : List (Option Line) → List BidLine
bids_of [] = []
bids_of (none ∷ ls) = bids_of ls
bids_of (some (tender t) ∷ ls) = bids_of ls
bids_of (some (bid b) ∷ ls) = b ∷ bids_of ls
bids_of (some (reserve p) ∷ ls) = bids_of ls

-- the page's order: of the faults of a line, the first that stands there. The refusal wants the number of the line
unfoldable pub line_fault : (many outside several empty late used : Bool) → Option (ℕ → Refusal)
line_fault many outside several empty late used =
    cond many (some TooMany)
    (cond outside (some OutsideLimits)
    (cond several (some SeveralWindows)
    (cond empty (some EmptyWindow)
    (cond late (some LateWindow)
    (cond used (some BidderRepeated) none)))))

unfoldable pub tender_fault : TenderLine → Option (ℕ → Refusal)
unfolding line_fault
tender_fault t = line_fault false false false (not (ordered (as_window t.window))) (not (early (as_window t.window))) false

-- the fault of a bid after so many others: its numbers, how many windows it has, whether one of them is empty, whether one is late,
-- and whether its bidder number was used before
unfoldable pub bid_fault_in : Tender → ℕ → ℕ → ℕ → ℕ → Bool → Bool → Bool → Option (ℕ → Refusal)
unfolding line_fault within is_single
bid_fault_in t bids bidder price count empty late used =
    line_fault (leb max_bids bids || ltb max_windows count) (not (within 1 max_bidder bidder) || ltb max_price price)
    (is_single t.kind && ltb 1 count) empty late used

unfoldable pub bid_fault_after : Tender → ℕ → BidLine → Bool → Option (ℕ → Refusal)
unfolding bid_fault_in every
bid_fault_after t bids b used = bid_fault_in t bids b.bidder b.price (length b.windows) (not (every ordered b.windows))
    (not (every early b.windows)) used

-- after bids with the bidder numbers `used`
unfoldable pub bid_fault : Tender → List ℕ → BidLine → Option (ℕ → Refusal)
unfolding bid_fault_after among
bid_fault t used b = bid_fault_after t (length used) b (among b.bidder used)

-- the refusal of line `at` where it has a fault, or what comes of the lines after it
unfoldable pub judged_by : {A : Type 0} → (Refusal → A) → Option (ℕ → Refusal) → ℕ → A → A
judged_by refuse none at rest = rest
judged_by refuse (some r) at rest = refuse (r at)

-- the first faulty line from line `at` on, or `out` where there is none
unfoldable pub checked : Tender → ℕ → List ℕ → List (Option Line) → ReadOutcome → ReadOutcome
unfolding bid_fault judged_by
checked t at used [] out = out
checked t at used (none ∷ ls) out = refused (BadForm at)
checked t at used (some (tender u) ∷ ls) out = refused (BadForm at)
checked t at used (some (reserve p) ∷ ls) out = refused (ReserveMisplaced at)
checked t at used (some (bid b) ∷ ls) out = let rest = checked t (at + 1) (used ++ b.bidder ∷ []) ls out in
    judged_by refused (bid_fault t used b) at rest

unfoldable pub tables : Tender → List BidLine → ReadOutcome
unfolding rows_from all_windows
tables t bs = accepted t (rows_from 0 bs) (all_windows bs)

-- the lines before the bids
pub data Head : Type 0 where
  -- the tender, the number of the first line after the head, the lines from there on
  begun : Tender → ℕ → List (Option Line) → Head
  halted : Refusal → Head

-- the tender that the lines of a head give
abbrev pub tender_with : TenderLine → Reserve → Tender
tender_with t r = record { kind = t.kind; window = t.window; reserve = r }

-- the reserve's line may stand next, which is line `at`
unfoldable pub reserve_in : TenderLine → ℕ → List (Option Line) → Head
reserve_in t at (some (reserve p) ∷ ls) =
    cond (leb p max_price) (begun (tender_with t (Some p)) (at + 1) ls) (halted (OutsideLimits at))
reserve_in t at [] = begun (tender_with t None) at []
reserve_in t at (none ∷ ls) = begun (tender_with t None) at (none ∷ ls)
reserve_in t at (some (tender u) ∷ ls) = begun (tender_with t None) at (some (tender u) ∷ ls)
reserve_in t at (some (bid b) ∷ ls) = begun (tender_with t None) at (some (bid b) ∷ ls)

-- the next line is not the reserve's
abbrev pub Unreserved : List (Option Line) → Type 0
Unreserved [] = Unit {0}
Unreserved (none ∷ ls) = Unit {0}
Unreserved (some (tender t) ∷ ls) = Unit {0}
Unreserved (some (bid b) ∷ ls) = Unit {0}
Unreserved (some (reserve p) ∷ ls) = ⊥

-- the first line is the tender's
unfoldable pub head_of : List (Option Line) → Head
unfolding tender_fault judged_by reserve_in
head_of [] = halted (BadForm 1)
head_of (none ∷ ls) = halted (BadForm 1)
head_of (some (bid b) ∷ ls) = halted (BadForm 1)
head_of (some (reserve p) ∷ ls) = halted (BadForm 1)
head_of (some (tender t) ∷ ls) = judged_by halted (tender_fault t) 1 (reserve_in t 2 ls)

-- the lines after the head are the bids'
unfoldable pub after_head : Head → ReadOutcome
unfolding bids_of checked tables
after_head (halted r) = refused r
after_head (begun t from rest) = checked t from [] rest (tables t (bids_of rest))

unfoldable pub read_lines : List (Option Line) → ReadOutcome
unfolding head_of after_head
read_lines ls = after_head (head_of ls)

unfoldable pub read_text : List ℕ → ReadOutcome
unfolding cut lines_of read_lines
read_text text = cond (ltb max_text (length text)) (refused TextTooLong) (read_lines (lines_of (cut 10 text)))

-- a lent table with fewer rows than the text needs is told last
unfoldable pub fitted : ℕ → ℕ → ReadOutcome → ReadOutcome
fitted bid_rows window_rows (refused r) = refused r
fitted bid_rows window_rows (accepted t rows windows) =
    cond (leb (length rows) bid_rows && leb (length windows) window_rows) (accepted t rows windows) (refused TableTooShort)

-- what reading answers, with lent tables of so many rows
unfoldable pub read_into : List ℕ → ℕ → ℕ → ReadOutcome
unfolding fitted read_text
read_into text bid_rows window_rows = fitted bid_rows window_rows (read_text text)
