-- One line of a bid text, read by itself: the tender's line, the reserve's, a bid's, or no line of the form.
use Rattle.std.specs.Prelude.{ℕ, List, [], ◌∷◌, cond, Some, None}
use Rattle.std.proofs.Math.Option.{Option, none, some}
use Rattle.tender.specs.declared.Kind.{Kind}
use Rattle.tender.specs.declared.Kind.TheVariants.{Single, Multi}
use Rattle.tender.specs.declared.Span.{Span}
use Rattle.tender.specs.declared.Window.{Window}
use Rattle.tender.specs.Types.{Reserve}
use Rattle.tender.specs.declared.Tender.{Tender}
use Rattle.tender.specs.Keywords.{bid_word, multi_word, reserve_word, single_word, tender_word}
use Rattle.reader_parts.specs.Words.{and_then, cut, equal_bytes, closed, numeral_of, price_of}
use Rattle.reader_parts.specs.Windows.{span_of, window_of}

pub record TenderLine : Type 0 where
  pub kind : Kind
  pub window : Span

pub record BidLine : Type 0 where
  pub bidder : ℕ
  pub price : ℕ
  pub windows : List Window

pub data Line : Type 0 where
  tender : TenderLine → Line
  bid : BidLine → Line
  reserve : ℕ → Line

-- the line of a tender
abbrev pub tender_line : Tender → TenderLine
tender_line t = record { kind = t.kind; window = t.window }

unfoldable pub reserve_lines : Reserve → List Line
reserve_lines None = []
reserve_lines (Some p) = reserve p ∷ []

-- the lines before the bids, as the tender says them: its own, and the reserve's where it has one
unfoldable pub head_lines : Tender → List Line
unfolding reserve_lines
head_lines t = tender (tender_line t) ∷ reserve_lines t.reserve

unfoldable pub kind_of : List ℕ → Option Kind
unfolding equal_bytes single_word multi_word
kind_of w = cond (equal_bytes w single_word) (some Single) (cond (equal_bytes w multi_word) (some Multi) none)

-- one or more windows; the bracket that closes the line stands after the last
unfoldable pub windows_in : List (List ℕ) → Option (List Window)
unfolding and_then closed window_of
windows_in [] = none
windows_in (s ∷ []) = none
windows_in (s ∷ e ∷ []) = and_then (closed e) (λ z. and_then (window_of s z) (λ w. some (w ∷ [])))
windows_in (s ∷ e ∷ x ∷ ws) = and_then (window_of s e) (λ w. and_then (windows_in (x ∷ ws)) (λ r. some (w ∷ r)))

-- after "(tender": kind, start, end and a closing bracket
unfoldable pub tender_of : List (List ℕ) → Option Line
unfolding and_then kind_of closed span_of
tender_of [] = none
tender_of (k ∷ []) = none
tender_of (k ∷ s ∷ []) = none
tender_of (k ∷ s ∷ e ∷ []) =
    and_then (kind_of k) (λ y. and_then (closed e) (λ z. and_then (span_of s z) (λ w. some (tender (record { kind = y; window = w })))))
tender_of (k ∷ s ∷ e ∷ x ∷ ws) = none

-- after "(bid": bidder, price and the windows
unfoldable pub bid_of : List (List ℕ) → Option Line
unfolding and_then numeral_of price_of windows_in
bid_of [] = none
bid_of (n ∷ []) = none
bid_of (n ∷ p ∷ ws) =
    and_then (numeral_of n) (λ y. and_then (price_of p)
    (λ v. and_then (windows_in ws) (λ l. some (bid (record { bidder = y; price = v; windows = l })))))

-- after "(reserve": a price and a closing bracket
unfoldable pub reserve_of : List (List ℕ) → Option Line
unfolding and_then closed price_of
reserve_of [] = none
reserve_of (p ∷ []) = and_then (closed p) (λ z. and_then (price_of z) (λ v. some (reserve v)))
reserve_of (p ∷ x ∷ ws) = none

unfoldable pub line_of_words : List (List ℕ) → Option Line
unfolding equal_bytes tender_word bid_word reserve_word tender_of bid_of reserve_of
line_of_words [] = none
line_of_words (w ∷ ws) =
    cond (equal_bytes w (40 ∷ tender_word)) (tender_of ws)
    (cond (equal_bytes w (40 ∷ bid_word)) (bid_of ws)
    (cond (equal_bytes w (40 ∷ reserve_word)) (reserve_of ws) none))

-- the line with these bytes, the byte 10 left out; one space stands between two words, and none elsewhere
unfoldable pub line_of : List ℕ → Option Line
unfolding cut line_of_words
line_of line = line_of_words (cut 32 line)

-- the lines of the pieces between bytes 10; a last piece, which no byte 10 ends, is none
unfoldable pub lines_of : List (List ℕ) → List (Option Line)
unfolding line_of
lines_of [] = []
lines_of ([] ∷ []) = []
lines_of ((b ∷ p) ∷ []) = none ∷ []
lines_of (p ∷ q ∷ ps) = line_of p ∷ lines_of (q ∷ ps)
