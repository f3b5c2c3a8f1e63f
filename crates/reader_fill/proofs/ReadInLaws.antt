-- What a reading leaves in tables of 1,000 and 11,000 rows, which have room for any text. Assumes nothing.
use Rattle.std.specs.Prelude.{◌≡◌, List, ◌++◌, ℕ, ◌*◌, ◌≤◌, length, drop, Result, Ok}
use Rattle.std.proofs.Common.{sym, ap, ◌∙◌, arith, take-append-drop}
use Rattle.tender.specs.declared.Tender.{Tender}
use Rattle.tender.specs.declared.Window.{Window}
use Rattle.tender.specs.Tables.{Row, flat_rows, flat_windows, bid_width, window_width}
use Rattle.tender.specs.declared.Refusal.{Refusal}
use Rattle.reader_fill.specs.declared.Filled.{Filled}
use Rattle.reader_text.specs.Read.{accepted, read_text}
use Rattle.reader_fill.specs.Answer.{fill_answer, Holds}
use Rattle.reader_fill.proofs.FillLaws.{filled_is}
use Rattle.reader_text.proofs.CountLaws.{counts_law}

-- what an accepted text left in the tables
pub record ReadIn (text bids windows : List ℕ) (t : Tender) (n : ℕ) : Type 0 where
  pub rows : List Row
  pub spans : List Window
  pub past_rows : List ℕ
  pub past_spans : List ℕ
  pub is : read_text text ≡ accepted t rows spans
  pub count : length rows ≡ n
  pub bids_are : bids ≡ flat_rows rows ++ past_rows
  pub windows_are : windows ≡ flat_windows spans ++ past_spans

-- a reading by `fill`
pub filled_read : (text : List ℕ) {nb nw : List ℕ} {r : Result Filled Refusal} (t : Tender) (n m : ℕ)
    → r ≡ fill_answer (read_text text)
    → Holds (read_text text) nb nw → r ≡ Ok (record { tender = t; bids = n; windows = m }) → ReadIn text nb nw t n
filled_read text {nb} {nw} {r} t n m a h e =
    let f = filled_is text t n m a h e in
    record {
      rows = f.R;
      spans = f.W;
      past_rows = drop (bid_width * n) nb;
      past_spans = drop (window_width * m) nw;
      is = f.is;
      count = f.rows_count;
      bids_are = sym (take-append-drop (bid_width * n) nb) ∙ ap (λ l. l ++ drop (bid_width * n) nb) f.rows_are;
      windows_are = sym (take-append-drop (window_width * m) nw) ∙ ap (λ l. l ++ drop (window_width * m) nw) f.windows_are;
    }

pub few_read : {text bids windows : List ℕ} {t : Tender} {n : ℕ} → ReadIn text bids windows t n → n ≤ 1000
few_read {text} {bids} {windows} {t} {n} h = omega (arith, h.count, (counts_law t h.rows h.spans text h.is).0)
