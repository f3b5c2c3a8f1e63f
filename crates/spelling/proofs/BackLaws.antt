-- The lines of a text as it is spelt read back. Assumes nothing.
use Rattle.std.specs.Prelude.{◌≡◌, refl, false, List, [], ◌∷◌, ◌++◌, map, ℕ, ◌<◌, Some, None}
use Rattle.std.proofs.Common.{ap, ◌∙◌, append_assoc, arith}
use Rattle.std.proofs.Math.Option.{Option, some}
use Rattle.tender.specs.declared.Kind.{Kind}
use Rattle.tender.specs.declared.Kind.TheVariants.{Single, Multi}
use Rattle.tender.specs.declared.Window.{Window}
use Rattle.tender.specs.Types.{Reserve}
use Rattle.tender.specs.declared.Tender.{Tender}
use Rattle.tender.specs.Limits.{as_window}
use Rattle.tender.specs.Keywords.{bytes, tender_word, reserve_word, bid_word, single_word, multi_word}
use Rattle.reader_parts.specs.Words.{and_then, among, cut, equal_bytes}
use Rattle.reader_forms.specs.Line.{BidLine, Line, tender, bid, reserve, tender_line, reserve_lines, head_lines, kind_of, tender_of}
use Rattle.reader_forms.specs.Line.{bid_of, reserve_of, line_of_words, line_of, lines_of}
use Rattle.reader_parts.proofs.GivenLaws.{closed_back}
use Rattle.reader_parts.proofs.CutLaws.{cut_some, cut_end}
use Rattle.reader_parts.proofs.RejoinedLaws.{Without, among_append, cut_rejoined, rejoined_among}
use Rattle.spelling.specs.Decimal.{decimal}
use Rattle.spelling.specs.Lines.{one_line, kind_word}
use Rattle.spelling.specs.Text.{bid_text, tender_text, reserve_text, head_text, bids_text, text_of}
use Rattle.spelling.proofs.DecimalLaws.{decimal_plain, numeral_decimal}
use Rattle.spelling.proofs.PriceLaws.{price_decimal}
use Rattle.spelling.proofs.WordLaws.{spaced, tender_words, one_words, window_words, bid_words, bid_line_lem, tender_line_lem, one_line_lem}
use Rattle.spelling.proofs.WordLaws.{bid_without, Named, AllNamed, span_back, windows_back}

-- a line of words before more
line_then : (w : List ℕ) (ws : List (List ℕ)) (rest : List ℕ) → Without 10 (w ∷ ws)
    → cut 10 ((spaced (w ∷ ws) ++ 10 ∷ []) ++ rest) ≡ spaced (w ∷ ws) ∷ cut 10 rest
line_then w ws rest h = ap (cut 10) (append_assoc (spaced (w ∷ ws)) (10 ∷ []) rest)
    ∙ cut_end 10 (spaced (w ∷ ws)) rest (rejoined_among 10 32 w ws refl h)

-- a bid whose numbers a text may name, with some window
abbrev pub Nameable : BidLine → Type 0
Nameable b = (b.bidder < 1000000000) × ((b.price < 1000000000) ×
    ((w : Window) × (ws : List Window) × (b.windows ≡ w ∷ ws) × AllNamed (w ∷ ws)))

abbrev pub AllNameable : List BidLine → Type 0
AllNameable [] = Unit {0}
AllNameable (b ∷ bs) = Nameable b × AllNameable bs

bid_words_back : (n p : ℕ) (w : Window) (ws : List Window) → n < 1000000000 → p < 1000000000 → AllNamed (w ∷ ws) →
    line_of (spaced (bid_words n (decimal p) (w ∷ ws))) ≡ some (bid (record { bidder = n; price = p; windows = w ∷ ws }))
unfolding line_of line_of_words equal_bytes tender_word bid_word bytes bid_words bid_of and_then among
bid_words_back n p w ws a b h =
    rw (cut_rejoined 32 (40 ∷ bid_word) (decimal n ∷ decimal p ∷ window_words (w ∷ ws))
    (bid_without 32 n p w ws (omega arith) refl refl refl))
    (rw (numeral_decimal n a, price_decimal p b, windows_back w ws h))

-- a bid's line before more lines
pub record Read (line : List ℕ) (x : Line) : Type 0 where
  pub words : List ℕ
  pub cuts : (rest : List ℕ) → cut 10 (line ++ rest) ≡ words ∷ cut 10 rest
  pub is : line_of words ≡ some x

pub bid_back : (b : BidLine) → Nameable b → Read (bid_text b) (bid b)
unfolding bid_text among bid_word bytes bid_words
bid_back b h = go h.1.1.0 h.1.1.1 h.1.1.2 h.1.1.3
  where
    go : (w : Window) (ws : List Window) → b.windows ≡ w ∷ ws → AllNamed (w ∷ ws) → Read (bid_text b) (bid b)
    go w ws e a =
        let q : ◌≡◌ {A = BidLine} b (record { bidder = b.bidder; price = b.price; windows = w ∷ ws }) =
        ap (λ (l : List Window). record { bidder = b.bidder; price = b.price; windows = l }) e in
        rw q record {
          words = spaced (bid_words b.bidder (decimal b.price) (w ∷ ws));
          cuts = λ rest. ap (λ s. cut 10 (s ++ rest)) (bid_line_lem (decimal b.price) b.bidder b.price w ws)
              ∙ line_then (40 ∷ bid_word) (decimal b.bidder ∷ decimal b.price ∷ window_words (w ∷ ws)) rest
              (bid_without 10 b.bidder b.price w ws (omega arith) refl refl refl);
          is = bid_words_back b.bidder b.price w ws h.0 h.1.0 a;
        }

-- the tender's line

kind_back : (k : Kind) → kind_of (kind_word k) ≡ some k
unfolding kind_of kind_word equal_bytes single_word multi_word bytes
kind_back Single = refl
kind_back Multi = refl

kind_space : (k : Kind) → among 32 (kind_word k) ≡ false
unfolding kind_word single_word multi_word bytes among
kind_space Single = refl
kind_space Multi = refl

kind_end : (k : Kind) → among 10 (kind_word k) ≡ false
unfolding kind_word single_word multi_word bytes among
kind_end Single = refl
kind_end Multi = refl

tender_without : (d : ℕ) (t : Tender) → d < 40 → among d (40 ∷ tender_word) ≡ false → among d (kind_word t.kind) ≡ false
    → among d (41 ∷ []) ≡ false → Without d (tender_words t)
unfolding tender_words
tender_without d t l a k b = (
  a,
  (
    k,
    (
      decimal_plain d t.window.start (omega arith),
      (among_append d (decimal t.window.end) (41 ∷ []) (decimal_plain d t.window.end (omega arith)) b, tt),
    ),
  ),
)

tender_words_back : (t : Tender) → Named (as_window t.window) → line_of (spaced (tender_words t)) ≡ some (tender (tender_line t))
unfolding line_of line_of_words equal_bytes tender_word bytes tender_words tender_of and_then among
tender_words_back t h =
    rw (cut_rejoined 32 (40 ∷ tender_word) (kind_word t.kind ∷ decimal t.window.start ∷ (decimal t.window.end ++ 41 ∷ [])
    ∷ []) (tender_without 32 t (omega arith) refl (kind_space t.kind) refl))
    (rw (kind_back t.kind, closed_back (decimal t.window.end), span_back t.window h))

pub tender_back : (t : Tender) → Named (as_window t.window) → Read (tender_text t) (tender (tender_line t))
unfolding among tender_word bytes tender_words
tender_back t h = record {
  words = spaced (tender_words t);
  cuts = λ rest. ap (λ s. cut 10 (s ++ rest)) (tender_line_lem t)
      ∙ line_then (40 ∷ tender_word) (kind_word t.kind ∷ decimal t.window.start ∷ (decimal t.window.end ++ 41 ∷ [])
      ∷ []) rest (tender_without 10 t (omega arith) refl (kind_end t.kind) refl);
  is = tender_words_back t h;
}

-- a line (word a)

one_without : (d : ℕ) (word : List ℕ) (a : ℕ) → d < 48 → among d (40 ∷ word) ≡ false → among d (41 ∷ []) ≡ false
    → Without d (one_words word (decimal a))
unfolding one_words
one_without d word a l k b = (k, (among_append d (decimal a) (41 ∷ []) (decimal_plain d a l) b, tt))

pub one_cuts : (word : List ℕ) (a : ℕ) (rest : List ℕ) → among 10 word ≡ false
    → cut 10 (one_line word a ++ rest) ≡ spaced (one_words word (decimal a)) ∷ cut 10 rest
unfolding one_line one_words among
one_cuts word a rest h = ap (λ s. cut 10 (s ++ rest)) (one_line_lem word (decimal a))
    ∙ line_then (40 ∷ word) ((decimal a ++ 41 ∷ []) ∷ []) rest (one_without 10 word a (omega arith) h refl)

pub one_words_lem : (word : List ℕ) (a : ℕ) → among 32 word ≡ false
    → cut 32 (spaced (one_words word (decimal a))) ≡ one_words word (decimal a)
unfolding one_words among
one_words_lem word a h = cut_rejoined 32 (40 ∷ word) ((decimal a ++ 41 ∷ []) ∷ []) (one_without 32 word a (omega arith) h refl)

-- the reserve's line

reserve_words_back : (p : ℕ) → p < 1000000000 → line_of (spaced (one_words reserve_word (decimal p))) ≡ some (reserve p)
unfolding line_of line_of_words equal_bytes tender_word bid_word reserve_word bytes one_words reserve_of and_then among
reserve_words_back p l = rw (one_words_lem reserve_word p refl) (rw (closed_back (decimal p), price_decimal p l))

reserve_back : (p : ℕ) → p < 1000000000 → Read (reserve_text (Some p)) (reserve p)
unfolding reserve_text reserve_word bytes among
reserve_back p l = record {
  words = spaced (one_words reserve_word (decimal p));
  cuts = λ rest. one_cuts reserve_word p rest refl;
  is = reserve_words_back p l;
}

-- a line that reads back, before pieces of which there is a first
first_line_lem : (line rest : List ℕ) (x : Line) → Read line x
    → lines_of (cut 10 (line ++ rest)) ≡ some x ∷ lines_of (cut 10 rest)
unfolding lines_of
first_line_lem line rest x r = rw (r.cuts rest, (cut_some 10 rest).are, r.is)

-- what is on the lines of some bids
unfoldable pub as_lines : List BidLine → List (Option Line)
as_lines [] = []
as_lines (b ∷ bs) = some (bid b) ∷ as_lines bs

pub bids_back : (bs : List BidLine) → AllNameable bs → lines_of (cut 10 (bids_text bs)) ≡ as_lines bs
unfolding bids_text as_lines lines_of cut
bids_back [] h = refl
bids_back (b ∷ bs) h =
    first_line_lem (bid_text b) (bids_text bs) (bid b) (bid_back b h.0)
    ∙ ap {B = List (Option Line)} (λ l. some (bid b) ∷ l) (bids_back bs h.1)

-- a reserve that a text may name
abbrev pub NamedReserve : Reserve → Type 0
NamedReserve None = Unit {0}
NamedReserve (Some p) = p < 1000000000

reserve_first : (r : Reserve) (rest : List ℕ) → NamedReserve r
    → lines_of (cut 10 (reserve_text r ++ rest)) ≡ map (λ x. some x) (reserve_lines r) ++ lines_of (cut 10 rest)
unfolding reserve_text reserve_lines
reserve_first None rest h = refl
reserve_first (Some p) rest h = first_line_lem (reserve_text (Some p)) rest (reserve p) (reserve_back p h)

-- the whole text's lines, whatever its length
pub text_back : (t : Tender) (bs : List BidLine) → Named (as_window t.window) → NamedReserve t.reserve → AllNameable bs
    → lines_of (cut 10 (text_of t bs)) ≡ map (λ x. some x) (head_lines t) ++ as_lines bs
unfolding text_of head_text head_lines
text_back t bs n r h =
    ap (λ s. lines_of (cut 10 s)) (append_assoc (tender_text t) (reserve_text t.reserve) (bids_text bs))
    ∙ first_line_lem (tender_text t) (reserve_text t.reserve ++ bids_text bs) (tender (tender_line t)) (tender_back t n)
    ∙ ap {B = List (Option Line)} (λ l. some (tender (tender_line t)) ∷ l) (reserve_first t.reserve (bids_text bs) r
    ∙ ap (λ l. map (λ x. some x) (reserve_lines t.reserve) ++ l) (bids_back bs h))
