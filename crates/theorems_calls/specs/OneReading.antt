-- Demand 1 of a text: a call of `read` answers one reading, the tables filled or one refusal, the first that is due in the page's
-- order (paper 01, "What each operation declines").
use Rattle.std.specs.Prelude.{◌≡◌, ◌⊎◌, List, [], ◌∷◌, ◌++◌, map, ℕ, ◌+◌, ◌*◌, ◌/◌, ◌≤◌, ◌<◌}
use Rattle.std.specs.Prelude.{length, drop}
use Rattle.std.specs.Prelude.{Ok, Err}
use Rattle.std.specs.Prelude.{Some, None}
use Rattle.std.proofs.Math.Option.{Option, none, some}
use Rattle.tender.specs.declared.Kind.TheVariants.{Single}
use Rattle.tender.specs.declared.Window.{Window}
use Rattle.tender.specs.Types.{Reserve}
use Rattle.tender.specs.declared.Tender.{Tender}
use Rattle.tender.specs.declared.Refusal.{Refusal}
use Rattle.tender.specs.declared.Refusal.TheVariants.{TextTooLong, BadForm, OutsideLimits, TooMany, EmptyWindow, BidderRepeated}
use Rattle.tender.specs.declared.Refusal.TheVariants.{SeveralWindows, TableTooShort, LateWindow, ReserveMisplaced}
use Rattle.tender.specs.Limits.{week, max_price, max_bidder, max_bids, max_windows, max_text}
use Rattle.tender.specs.Tables.{Row, flat_rows, flat_windows, bid_width, window_width}
use Rattle.reader_parts.specs.Words.{cut}
use Rattle.reader_forms.specs.Line.{TenderLine, BidLine, Line, tender, bid, reserve, tender_line, head_lines, lines_of}
use Rattle.reader_text.specs.Read.{rows_from, all_windows, tender_with}
use Rattle.reader_fill.specs.Answer.{filled}
use Rattle.theorems_calls.specs.Calls.{ReadRun}

-- a text without a line has a first line that is not of the form
abbrev pub or_broken : List (Option Line) → List (Option Line)
or_broken [] = none ∷ []
or_broken (x ∷ ls) = x ∷ ls

-- the lines of a text, each the tender's, the reserve's, a bid's, or not of the form
abbrev pub lines_in : List ℕ → List (Option Line)
lines_in text = or_broken (lines_of (cut 10 text))

-- what stands before a line: nothing, or the tender's line, the reserve's where the tender has one, and those of bids
pub data Above : Type 0 where
  at_start : Above
  after : Tender → List BidLine → Above

abbrev pub lines_above : Above → List (Option Line)
lines_above at_start = []
lines_above (after t bs) = map (λ l. some l) (head_lines t) ++ map (λ b. some (bid b)) bs

-- the faults of a line: its form (2), its place (16), how many bids and windows there are (4), the limits of its numbers (3),
-- several windows in a single tender (7), a window without a minute (5), a window past the week (15), its bidder number (6)
pub data LineFault : Type 0 where
  of_form : LineFault
  of_place : LineFault
  of_count : LineFault
  of_limits : LineFault
  of_the_kind : LineFault
  of_minutes : LineFault
  of_week : LineFault
  of_bidder : LineFault

-- the order in which they are looked for
abbrev pub page_order : List LineFault
page_order = of_form ∷ of_place ∷ of_count ∷ of_limits ∷ of_the_kind ∷ of_minutes ∷ of_week ∷ of_bidder ∷ []

-- one of the list is so
abbrev pub SomeOf : {A : Type 0} → (A → Type 0) → List A → Type 0
SomeOf P [] = ⊥
SomeOf P (x ∷ xs) = P x ⊎ SomeOf P xs

-- what has to hold for each of them to stand, in the page's order
abbrev pub stands_by : (form place count limits kind minutes week bidder : Type 0) → LineFault → Type 0
stands_by form place count limits kind minutes week bidder of_form = form
stands_by form place count limits kind minutes week bidder of_place = place
stands_by form place count limits kind minutes week bidder of_count = count
stands_by form place count limits kind minutes week bidder of_limits = limits
stands_by form place count limits kind minutes week bidder of_the_kind = kind
stands_by form place count limits kind minutes week bidder of_minutes = minutes
stands_by form place count limits kind minutes week bidder of_week = week
stands_by form place count limits kind minutes week bidder of_bidder = bidder

-- the fault stands on a bid's line, after the tender's and those of the bids `done`
abbrev pub OnBid : LineFault → Tender → List BidLine → BidLine → Type 0
OnBid f t done b = stands_by ⊥ ⊥ ((max_bids ≤ length done) ⊎ (max_windows < length b.windows))
    (((b.bidder < 1) ⊎ (max_bidder < b.bidder)) ⊎ (max_price < b.price)) ((t.kind ≡ Single) × (1 < length b.windows))
    (SomeOf (λ (w : Window). w.end ≤ w.start) b.windows) (SomeOf (λ (w : Window). week < w.end) b.windows)
    (SomeOf (λ (c : BidLine). c.bidder ≡ b.bidder) done) f

-- on the tender's line
abbrev pub OnTender : LineFault → TenderLine → Type 0
OnTender f t = stands_by ⊥ ⊥ ⊥ ⊥ ⊥ (t.window.end ≤ t.window.start) (week < t.window.end) ⊥ f

-- on the reserve's line: its place is wrong where there is a reserve already, or a bid
abbrev pub OnReserve : LineFault → Tender → List BidLine → ℕ → Type 0
OnReserve f t done p = stands_by ⊥ ((t.reserve ≡ None → ⊥) ⊎ (0 < length done)) ⊥ (max_price < p) ⊥ ⊥ ⊥ ⊥ f

-- on any line: the first has to be a tender's, the others a bid's or the reserve's
abbrev pub OnLine : LineFault → Above → Option Line → Type 0
OnLine f at_start none = f ≡ of_form
OnLine f at_start (some (tender t)) = OnTender f t
OnLine f at_start (some (bid b)) = f ≡ of_form
OnLine f at_start (some (reserve p)) = f ≡ of_form
OnLine f (after t done) none = f ≡ of_form
OnLine f (after t done) (some (tender u)) = f ≡ of_form
OnLine f (after t done) (some (bid b)) = OnBid f t done b
OnLine f (after t done) (some (reserve p)) = OnReserve f t done p

-- it is the first of these faults to stand there
abbrev pub FirstAmong : List LineFault → LineFault → Above → Option Line → Type 0
FirstAmong [] f d x = ⊥
FirstAmong (g ∷ gs) f d x = ((f ≡ g) × OnLine g d x) ⊎ ((OnLine g d x → ⊥) × FirstAmong gs f d x)

-- no fault stands there
abbrev pub NoFault : Above → Option Line → Type 0
NoFault d x = (f : LineFault) → OnLine f d x → ⊥

-- no fault stands on the lines of these bids, which follow the bids `done`
abbrev pub SoundBids : Tender → List BidLine → List BidLine → Type 0
SoundBids t done [] = Unit {0}
SoundBids t done (b ∷ bs) = NoFault (after t done) (some (bid b)) × SoundBids t (done ++ b ∷ []) bs

-- nor on the reserve's line, where there is one, after the tender's
abbrev pub SoundReserve : TenderLine → Reserve → Type 0
SoundReserve t None = Unit {0}
SoundReserve t (Some p) = NoFault (after (tender_with t None) []) (some (reserve p))

-- nor on any of these lines
abbrev pub SoundLines : Above → Type 0
SoundLines at_start = Unit {0}
SoundLines (after t bs) = NoFault at_start (some (tender (tender_line t))) × (SoundReserve (tender_line t) t.reserve
    × SoundBids t [] bs)

-- a line of a text that is not too long, after faultless lines
pub record LineOf (text : List ℕ) : Type 0 where
  pub above : Above
  pub line : Option Line
  pub rest : List (Option Line)
  pub short : length text ≤ max_text
  pub lines : lines_in text ≡ lines_above above ++ line ∷ rest
  pub sound : SoundLines above

-- lines are counted from 1
abbrev pub place_in : {text : List ℕ} → LineOf text → ℕ
place_in l = length (lines_above l.above) + 1

-- the line's first fault in the page's order
abbrev pub FirstOn : {text : List ℕ} → LineFault → LineOf text → Type 0
FirstOn f l = FirstAmong page_order f l.above l.line

-- a text that is not too long and whose lines are faultless: those of the tender, and of bids with these rows and windows
pub record Readable (text : List ℕ) (t : Tender) (R : List Row) (W : List Window) : Type 0 where
  pub bids : List BidLine
  pub short : length text ≤ max_text
  pub lines : lines_in text ≡ lines_above (after t bids)
  pub sound : SoundLines (after t bids)
  pub rows : R ≡ rows_from 0 bids
  pub windows : W ≡ all_windows bids

-- a refusal leaves both tables as they were
pub record Declines (x : Refusal) (r : ReadRun) : Type 0 where
  pub answer : r.answer ≡ Err x
  pub bids_stay : r.after_bids ≡ r.bids
  pub windows_stay : r.after_windows ≡ r.windows

-- an accepted text fills the first rows, and the places past them stay
pub record Fills (t : Tender) (R : List Row) (W : List Window) (r : ReadRun) : Type 0 where
  pub answer : r.answer ≡ Ok (filled t (length R) (length W))
  pub bids_are : r.after_bids ≡ flat_rows R ++ drop (bid_width * length R) r.bids
  pub windows_are : r.after_windows ≡ flat_windows W ++ drop (window_width * length W) r.windows

-- one reading: 1; of the first line with a fault its first fault in the page's order; 8; or the tables
pub data OneReading (r : ReadRun) : Type 0 where
  text_too_long : max_text < length r.text → Declines TextTooLong r → OneReading r
  bad_form : (l : LineOf r.text) → FirstOn of_form l → Declines (BadForm (place_in l)) r → OneReading r
  reserve_misplaced : (l : LineOf r.text) → FirstOn of_place l → Declines (ReserveMisplaced (place_in l)) r → OneReading r
  too_many : (l : LineOf r.text) → FirstOn of_count l → Declines (TooMany (place_in l)) r → OneReading r
  outside_limits : (l : LineOf r.text) → FirstOn of_limits l → Declines (OutsideLimits (place_in l)) r → OneReading r
  several_windows : (l : LineOf r.text) → FirstOn of_the_kind l → Declines (SeveralWindows (place_in l)) r → OneReading r
  empty_window : (l : LineOf r.text) → FirstOn of_minutes l → Declines (EmptyWindow (place_in l)) r → OneReading r
  late_window : (l : LineOf r.text) → FirstOn of_week l → Declines (LateWindow (place_in l)) r → OneReading r
  bidder_repeated : (l : LineOf r.text) → FirstOn of_bidder l → Declines (BidderRepeated (place_in l)) r → OneReading r
  table_too_short : (t : Tender) (R : List Row) (W : List Window) → Readable r.text t R W
      → (length r.bids / bid_width < length R) ⊎ (length r.windows / window_width < length W) → Declines TableTooShort r
      → OneReading r
  tables_filled : (t : Tender) (R : List Row) (W : List Window) → Readable r.text t R W
      → (length R ≤ length r.bids / bid_width) × (length W ≤ length r.windows / window_width) → Fills t R W r → OneReading r

-- the numbers that reading a text may be declined with, whatever the lent tables
abbrev pub OfText : ℕ → Type 0
OfText n = ((1 ≤ n) × (n ≤ 7)) ⊎ ((15 ≤ n) × (n ≤ 16))
