-- The lines of the bids put one after the other, and what they come to: the text, or too long a one. Assumes nothing.
use Rattle.std.specs.Prelude.{◌≡◌, List, [], ◌∷◌, ◌++◌, map, ℕ, zero, suc, ◌+◌, ◌*◌, ◌≤◌, ◌<◌, length}
use Rattle.std.specs.Prelude.{get_or, take, drop}
use Rattle.std.proofs.Common.{sym, ap, subst, ◌∙◌, inl, inr, append_assoc, append-nil, add-one, arith, length-append}
use Rattle.tender.specs.declared.Tender.{Tender}
use Rattle.tender.specs.Tables.{Row, rows_of, windows_of, own, bid_width, window_width}
use Rattle.reader_forms.specs.Line.{BidLine}
use Rattle.spelling.specs.Text.{bid_text, bids_text, head_text, text_of, bid_in}
use Rattle.spelling.specs.Written.{Written}
use Rattle.spelling.proofs.WritingLaws.{then}
use Rattle.spelling.proofs.SpellingLaws.{nothing_written}
use Rattle.award_check.specs.Cells.{no_row}
use Rattle.award_check.proofs.AlikeLaws.{rows_length, row_named}
use Rattle.writer_line.specs.Respelt.{respelt}
use Rattle.writer_text.specs.Canonical.{respelt_in, canonical}
use Rattle.writer_text.specs.Filling.{SomeBids, SomeText}

-- ---- the lines of the first rows

-- one line more
lines_step : (f : Row → BidLine) (rows : List Row) (j : ℕ) → j < length rows
    → bids_text (map f (take (suc j) rows)) ≡ bids_text (map f (take j rows)) ++ bid_text (f (get_or rows j no_row))
unfolding bids_text
lines_step f [] j l = absurd (omega arith)
lines_step f (r ∷ rs) zero l = append-nil (bid_text (f r))
lines_step f (r ∷ rs) (suc j) l = ap (λ s. bid_text (f r) ++ s) (lines_step f rs j (omega arith))
    ∙ sym (append_assoc (bid_text (f r)) (bids_text (map f (take j rs))) (bid_text (f (get_or rs j no_row))))

pub bids_step : (windows : List ℕ) (rows : List Row) (j : ℕ) → j < length rows
    → bids_text (respelt_in windows (take (suc j) rows))
    ≡ bids_text (respelt_in windows (take j rows)) ++ bid_text (respelt (bid_in windows (get_or rows j no_row)))
unfolding respelt_in
bids_step windows rows j l = lines_step (λ r. respelt (bid_in windows r)) rows j l

-- the first lines are no longer than all of them
lines_part : (f : Row → BidLine) (rows : List Row) (j : ℕ)
    → length (bids_text (map f (take j rows))) ≤ length (bids_text (map f rows))
unfolding bids_text
lines_part f rows zero = omega arith
lines_part f [] (suc j) = omega arith
lines_part f (r ∷ rs) (suc j) = omega (
  arith,
  length-append (bid_text (f r)) (bids_text (map f (take j rs))),
  length-append (bid_text (f r)) (bids_text (map f rs)),
  lines_part f rs j,
)

text_length : (t : Tender) (bs : List BidLine) → length (text_of t bs) ≡ length (head_text t) + length (bids_text bs)
unfolding text_of
text_length t bs = length-append (head_text t) (bids_text bs)

pub text_part : (t : Tender) (rows : List Row) (windows : List ℕ) (j : ℕ)
    → length (canonical t (take j rows) windows) ≤ length (canonical t rows windows)
unfolding canonical
text_part t rows windows j =
    let f : Row → BidLine = λ r. respelt (bid_in windows r) in
    omega (arith, text_length t (map f (take j rows)), text_length t (map f rows), lines_part f rows j)

-- ---- the lines put one after the other

-- the lines of the first j of n rows stand from `at` on, and end before `end`
pub record BidsPut (windows : List ℕ) (rows : List Row) (old : List ℕ) (at n j : ℕ) (buf : List ℕ) (end : ℕ) : Type 0 where
  pub inside : j ≤ n
  pub written : Written old at (bids_text (respelt_in windows (take j rows))) buf end

pub bids_begin : (windows : List ℕ) (rows : List Row) (old : List ℕ) (at n : ℕ) → BidsPut windows rows old at n 0 old at
unfolding bids_text respelt_in
bids_begin windows rows old at n = record { inside = omega arith; written = nothing_written old at }

-- the line of the table's row j
row_line : (n : ℕ) (bids windows : List ℕ) (j : ℕ) → j < n → respelt (bid_in windows (get_or (rows_of n bids) j no_row))
    ≡ respelt (record {
      bidder = get_or bids (bid_width * j) 0;
      price = get_or bids (bid_width * j + 1) 0;
      windows = windows_of (get_or bids (bid_width * j + 3) 0) (drop (window_width * get_or bids (bid_width * j + 2) 0) windows);
    })
unfolding bid_in own
row_line n bids windows j l = ap (λ r. respelt (bid_in windows r)) (row_named n j bids l)

module _ (n : ℕ) (bids windows old : List ℕ) (at : ℕ) where
  pub bids_go : {mid new : List ℕ} {e f j : ℕ} → BidsPut windows (rows_of n bids) old at n j mid e → j < n
      → Written mid e (bid_text (respelt (record {
        bidder = get_or bids (bid_width * j) 0;
        price = get_or bids (bid_width * j + 1) 0;
        windows = windows_of (get_or bids (bid_width * j + 3) 0) (drop (window_width * get_or bids (bid_width * j + 2) 0) windows);
      }))) new f → BidsPut windows (rows_of n bids) old at n (j + 1) new f
  bids_go {mid} {new} {e} {f} {j} h l w =
      let s = ap (λ b. bids_text (respelt_in windows (take j (rows_of n bids))) ++ bid_text b) (sym (row_line n bids windows j l))
      ∙ sym (bids_step windows (rows_of n bids) j (omega (arith, rows_length n bids)))
      ∙ ap (λ (m : ℕ). bids_text (respelt_in windows (take m (rows_of n bids)))) (sym (add-one j)) in
      record { inside = omega arith; written = subst (λ s. Written old at s new f) s (then h.written w) }

module _ {windows : List ℕ} {rows : List Row} {old : List ℕ} {at n j : ℕ} {new : List ℕ} {end : ℕ}
    (h : BidsPut windows rows old at n j new end) where
  -- all lines are put
  pub bids_end : n ≤ j → SomeBids windows rows old at n new end
  bids_end l = record { lines = j; few = h.inside; written = h.written; all = inr (omega (arith, h.inside)) }

  -- the text is too long already
  pub bids_long : 65536 < end → SomeBids windows rows old at n new end
  bids_long l = record { lines = j; few = h.inside; written = h.written; all = inl l }

-- the head before them
pub some_text : {t : Tender} {windows : List ℕ} {rows : List Row} {old mid : List ℕ} {n : ℕ} {new : List ℕ} {e end : ℕ}
    → Written old 0 (head_text t) mid e → SomeBids windows rows mid e n new end → SomeText t windows rows old n new end
unfolding canonical text_of
some_text w b = record { lines = b.lines; few = b.few; written = then w b.written; all = b.all }

-- what the page leaves in its buffer
pub text_left : {t : Tender} {windows : List ℕ} {rows : List Row} {old : List ℕ} {n : ℕ} {mid new : List ℕ} {end : ℕ}
    → SomeText t windows rows old n mid end → new ≡ mid → SomeText t windows rows old n new end
text_left h e = rw e h

-- as many bytes as it answers
pub some_length : {t : Tender} {windows : List ℕ} {rows : List Row} {old : List ℕ} {n : ℕ} {new : List ℕ} {end : ℕ}
    → SomeText t windows rows old n new end → length (take end new) ≡ end
some_length h = omega (arith, ap length h.written.text, h.written.next)
