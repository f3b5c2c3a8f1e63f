-- What filling tables answers, from the lines, and what it leaves in them. Assumes nothing.
use Rattle.std.specs.Prelude.{ℕ, ◌*◌, ◌≤◌, ◌<◌, ◌≡◌, refl, List, ◌++◌, length, take, ltb, Result, Ok, Err}
use Rattle.std.proofs.Common.{sym, ap, ◌∙◌, arith, lt-ltb, le-ltb}
use Rattle.tender.specs.declared.Window.{Window}
use Rattle.tender.specs.declared.Tender.{Tender}
use Rattle.tender.specs.declared.Refusal.{Refusal}
use Rattle.tender.specs.declared.Refusal.TheVariants.{TextTooLong, BadForm}
use Rattle.tender.specs.Tables.{Row, flat_rows, flat_windows, bid_width, window_width}
use Rattle.reader_parts.specs.Words.{cut}
use Rattle.reader_forms.specs.Line.{lines_of}
use Rattle.reader_text.specs.Read.{ReadOutcome, accepted, refused, read_lines, read_text}
use Rattle.reader_text.proofs.CountLaws.{counts_law}
use Rattle.reader_text.proofs.SizeLaws.{size_law}
use Rattle.reader_fill.specs.Answer.{fill_answer, Holds}
use Rattle.reader_fill.specs.Rest.{LinesEnd, rest_line}
use Rattle.reader_fill.proofs.RestLaws.{lines_parted, lines_unended}
use Rattle.reader_fill.specs.declared.Filled as code

-- a text by its lines

module _ (text : List ℕ) where
  pub too_long : 65536 < length text → read_text text ≡ refused TextTooLong
  unfolding read_text
  too_long h = rw (lt-ltb 65536 (length text) h)

  module _ (l : length text ≤ 65536) (e : ℕ) (x : LinesEnd text e) where
    short : read_text text ≡ read_lines (lines_of (cut 10 text))
    unfolding read_text
    short = rw (le-ltb 65536 (length text) l)

    pub no_lines : e ≡ 0 → read_text text ≡ refused (BadForm 1)
    no_lines z = short ∙ lines_unended text e x z

    pub by_lines : 0 < e → read_lines (lines_of (cut 10 (take e text)) ++ rest_line (ltb e (length text))) ≡ read_text text
    by_lines h = sym (short ∙ ap read_lines (lines_parted text e x h))

-- what an accepted text left in tables that have room for any text
pub record Filled (text : List ℕ) (t : Tender) (k m : ℕ) (rows spans : List ℕ) : Type 0 where
  pub R : List Row
  pub W : List Window
  pub is : read_text text ≡ accepted t R W
  pub rows_count : length R ≡ k
  pub windows_count : length W ≡ m
  pub rows_are : take (bid_width * k) rows ≡ flat_rows R
  pub windows_are : take (window_width * m) spans ≡ flat_windows W

-- what is answered of an accepted text, part by part

tender_in : Tender → Result code.Filled Refusal → Tender
tender_in t (Ok f) = f.tender
tender_in t (Err r) = t

bids_in : Result code.Filled Refusal → ℕ
bids_in (Ok f) = f.bids
bids_in (Err r) = 0

windows_in : Result code.Filled Refusal → ℕ
windows_in (Ok f) = f.windows
windows_in (Err r) = 0

module _ (text : List ℕ) where
  pub filled_is : {rows spans : List ℕ} {r : Result code.Filled Refusal} (t : Tender) (k m : ℕ) → r ≡ fill_answer (read_text text)
      → Holds (read_text text) rows spans → r ≡ Ok (record { tender = t; bids = k; windows = m }) → Filled text t k m rows spans
  unfolding tender_in bids_in windows_in
  filled_is {rows} {spans} {r} t k m a h e = go (read_text text) refl (sym e ∙ a) h
    where
      go : (o : ReadOutcome) → read_text text ≡ o → Ok (record { tender = t; bids = k; windows = m }) ≡ fill_answer o
          → Holds o rows spans
          → Filled text t k m rows spans
      go (refused q) i x y = let f : ◌≡◌ {A = ℕ} 0 1 = cc in absurd (omega arith)
      go (accepted u R W) i x y =
          let n : length R ≡ k = sym (ap bids_in x) in
          let p : length W ≡ m = sym (ap windows_in x) in
          record {
            R = R;
            W = W;
            is = i ∙ ap (λ v. accepted v R W) (sym (ap (tender_in u) x));
            rows_count = n;
            windows_count = p;
            rows_are = rw n at y.0;
            windows_are = rw p at y.1;
          }

  pub refused_is : {r : Result code.Filled Refusal} (q : Refusal) → r ≡ fill_answer (read_text text) → r ≡ Err q
      → read_text text ≡ refused q
  refused_is {r} q a e = go (read_text text) (sym e ∙ a)
    where
      go : (o : ReadOutcome) → Err q ≡ fill_answer o → o ≡ refused q
      go (refused k) x = cc
      go (accepted u R W) x = let f : ◌≡◌ {A = ℕ} 0 1 = cc in absurd (omega arith)

pub few_rows : {text rows spans : List ℕ} {t : Tender} {k m : ℕ} → Filled text t k m rows spans → k ≤ 1000
few_rows {text} {rows} {spans} {t} {k} {m} h = omega (arith, (counts_law t h.R h.W text h.is).0, h.rows_count)

pub few_windows : {text rows spans : List ℕ} {t : Tender} {k m : ℕ} → Filled text t k m rows spans → m ≤ 10922
few_windows {text} {rows} {spans} {t} {k} {m} h = omega (arith, size_law t h.R h.W text h.is, h.windows_count)
