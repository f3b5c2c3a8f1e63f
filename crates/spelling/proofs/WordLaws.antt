-- A line of the bid text is its words with a space between two; cutting gives them back, and the words read back. Assumes nothing.
use Rattle.std.specs.Prelude.{◌≡◌, false, List, [], ◌∷◌, ◌++◌, ℕ, ◌<◌}
use Rattle.std.proofs.Common.{sym, ap, ◌∙◌, append_assoc, arith}
use Rattle.std.proofs.Math.Option.{some}
use Rattle.tender.specs.declared.Span.{Span}
use Rattle.tender.specs.declared.Window.{Window}
use Rattle.tender.specs.Limits.{as_window}
use Rattle.tender.specs.declared.Tender.{Tender}
use Rattle.tender.specs.Keywords.{bytes, tender_word, bid_word}
use Rattle.reader_parts.specs.Words.{and_then, among, opened}
use Rattle.reader_parts.specs.Windows.{span_of, window_of}
use Rattle.reader_forms.specs.Line.{windows_in}
use Rattle.reader_parts.proofs.GivenLaws.{closed_back}
use Rattle.reader_parts.proofs.RejoinedLaws.{rejoined, Without, among_append}
use Rattle.spelling.specs.Decimal.{decimal}
use Rattle.spelling.specs.Lines.{closing, numbers, one_line_as, kind_word}
use Rattle.spelling.specs.Text.{window_text, windows_text, bid_text_as, tender_text}
use Rattle.spelling.proofs.DecimalLaws.{decimal_plain, numeral_decimal}

-- words, with a space between two
abbrev pub spaced : List (List ℕ) → List ℕ
spaced ws = rejoined 32 ws

-- (tender KIND START END)
unfoldable pub tender_words : Tender → List (List ℕ)
unfolding tender_word kind_word decimal
tender_words t = (40 ∷ tender_word) ∷ kind_word t.kind ∷ decimal t.window.start ∷ (decimal t.window.end ++ 41 ∷ []) ∷ []

-- (word p)
unfoldable pub one_words : List ℕ → List ℕ → List (List ℕ)
one_words word p = (40 ∷ word) ∷ (p ++ 41 ∷ []) ∷ []

-- (START END) for each window, and the bracket that closes the line after the last
unfoldable pub window_words : List Window → List (List ℕ)
unfolding decimal
window_words [] = []
window_words (w ∷ []) = (40 ∷ decimal w.start) ∷ ((decimal w.end ++ 41 ∷ []) ++ 41 ∷ []) ∷ []
window_words (w ∷ x ∷ ws) = (40 ∷ decimal w.start) ∷ (decimal w.end ++ 41 ∷ []) ∷ window_words (x ∷ ws)

-- (bid BIDDER PRICE WINDOW ..), the price written as the word p
unfoldable pub bid_words : ℕ → List ℕ → List Window → List (List ℕ)
unfolding bid_word decimal window_words
bid_words bidder p ws = (40 ∷ bid_word) ∷ decimal bidder ∷ p ∷ window_words ws

windows_without : (d : ℕ) (w : Window) (ws : List Window) → d < 40 → among d (40 ∷ []) ≡ false → among d (41 ∷ []) ≡ false
    → Without d (window_words (w ∷ ws))
unfolding window_words
windows_without d w [] l a b = (
  among_append d (40 ∷ []) (decimal w.start) a (decimal_plain d w.start (omega arith)),
  (
    among_append d (decimal w.end ++ 41 ∷ []) (41 ∷ [])
        (among_append d (decimal w.end) (41 ∷ []) (decimal_plain d w.end (omega arith)) b) b,
    tt,
  ),
)
windows_without d w (v ∷ ws) l a b = (
  among_append d (40 ∷ []) (decimal w.start) a (decimal_plain d w.start (omega arith)),
  (among_append d (decimal w.end) (41 ∷ []) (decimal_plain d w.end (omega arith)) b, windows_without d v ws l a b),
)

-- a window's bytes before others, and after the words that are spaced
window_first : (a b c d e : List ℕ) → a ++ (((32 ∷ 40 ∷ (b ++ 32 ∷ (c ++ 41 ∷ []))) ++ d) ++ e)
    ≡ a ++ 32 ∷ 40 ∷ (b ++ 32 ∷ ((c ++ 41 ∷ []) ++ (d ++ e)))
window_first a b c d e = simp append_assoc

window_then_lem : (a b c e : List ℕ) → a ++ 32 ∷ 40 ∷ (b ++ 32 ∷ (c ++ e)) ≡ (a ++ 32 ∷ ((40 ∷ b) ++ 32 ∷ c)) ++ e
window_then_lem a b c e = simp append_assoc

-- a bid's line is its words, spaced, and byte 10
windows_line : (before : List ℕ) (w : Window) (ws : List Window)
    → before ++ (windows_text (w ∷ ws) ++ closing) ≡ spaced (before ∷ window_words (w ∷ ws)) ++ 10 ∷ []
unfolding windows_text window_text window_words rejoined closing bytes
windows_line before w [] =
    window_first before (decimal w.start) (decimal w.end) [] (41 ∷ 10 ∷ [])
    ∙ ap (λ s. before ++ 32 ∷ 40 ∷ (decimal w.start ++ 32 ∷ s))
    (sym (append_assoc (decimal w.end ++ 41 ∷ []) (41 ∷ []) (10 ∷ [])))
    ∙ window_then_lem before (decimal w.start) ((decimal w.end ++ 41 ∷ []) ++ 41 ∷ []) (10 ∷ [])
windows_line before w (v ∷ ws) =
    window_first before (decimal w.start) (decimal w.end) (windows_text (v ∷ ws)) closing
    ∙ ap (λ s. before ++ 32 ∷ 40 ∷ (decimal w.start ++ 32 ∷ s)) (windows_line (decimal w.end ++ 41 ∷ []) v ws)
    ∙ window_then_lem before (decimal w.start) (spaced ((decimal w.end ++ 41 ∷ []) ∷ window_words (v ∷ ws))) (10 ∷ [])

pub bid_line_lem : (p : List ℕ) (n v : ℕ) (w : Window) (ws : List Window)
    → bid_text_as p (record { bidder = n; price = v; windows = w ∷ ws }) ≡ spaced (bid_words n p (w ∷ ws)) ++ 10 ∷ []
unfolding bid_text_as bid_word bytes bid_words rejoined
bid_line_lem p n v w ws =
    ap (λ s. (40 ∷ bid_word) ++ 32 ∷ (decimal n ++ 32 ∷ s)) (windows_line p w ws)
    ∙ ap (λ s. (40 ∷ bid_word) ++ 32 ∷ s) (sym (append_assoc (decimal n) (32 ∷ spaced (p ∷ window_words (w ∷ ws))) (10 ∷ [])))

pub tender_line_lem : (t : Tender) → tender_text t ≡ spaced (tender_words t) ++ 10 ∷ []
unfolding tender_text tender_words tender_word bytes numbers closing rejoined
tender_line_lem t = simp append_assoc

pub one_line_lem : (word p : List ℕ) → one_line_as word p ≡ spaced (one_words word p) ++ 10 ∷ []
unfolding one_words bytes closing rejoined
one_line_lem word p = simp append_assoc

pub bid_without : (d n p : ℕ) (w : Window) (ws : List Window) → d < 40 → among d (40 ∷ bid_word) ≡ false
    → among d (40 ∷ []) ≡ false → among d (41 ∷ []) ≡ false → Without d (bid_words n (decimal p) (w ∷ ws))
unfolding bid_words
bid_without d n p w ws l k a b = (k, (decimal_plain d n (omega arith), (decimal_plain d p (omega arith), windows_without d w ws l a b)))

-- the words read back

-- a window of numbers that a text may name
abbrev pub Named : Window → Type 0
Named w = (w.start < 1000000000) × (w.end < 1000000000)

abbrev pub AllNamed : List Window → Type 0
AllNamed [] = Unit {0}
AllNamed (w ∷ ws) = Named w × AllNamed ws

pub span_back : (w : Span) → Named (as_window w) → span_of (decimal w.start) (decimal w.end) ≡ some w
unfolding span_of and_then
span_back w h = rw (numeral_decimal w.start h.0, numeral_decimal w.end h.1)

window_back : (w : Window) → Named w → window_of (40 ∷ decimal w.start) (decimal w.end ++ 41 ∷ []) ≡ some w
unfolding window_of opened and_then
window_back w h = rw (closed_back (decimal w.end), span_back (record { start = w.start; end = w.end }) h)

pub windows_back : (w : Window) (ws : List Window) → AllNamed (w ∷ ws) → windows_in (window_words (w ∷ ws)) ≡ some (w ∷ ws)
unfolding windows_in window_words and_then
windows_back w [] h = rw (closed_back (decimal w.end ++ 41 ∷ []), window_back w h.0)
windows_back w (v ∷ []) h = rw (window_back w h.0, windows_back v [] h.1)
windows_back w (v ∷ u ∷ ws) h = rw (window_back w h.0, windows_back v (u ∷ ws) h.1)
