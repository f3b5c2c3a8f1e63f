-- What is said of the writer: its one answer to tables, and what reads back from its bytes (paper 02, request 2).
use Rattle.std.specs.Prelude.{◌≡◌, List, ◌++◌, ℕ, min, ◌≤◌, ◌<◌, length, drop, Ok, Err}
use Rattle.std.proofs.Math.Option.{none, some}
use Rattle.tender.specs.declared.Refusal.TheVariants.{BadTables, NoRoom}
use Rattle.tender.specs.Limits.{max_text}
use Rattle.tender.specs.Tables.{rows_of}
use Rattle.reader_fill.specs.Answer.{filled}
use Rattle.award_check.specs.Faults.{fault_of}
use Rattle.writer_text.specs.Canonical.{canonical}
use Rattle.writer_back.specs.Same.{Same}
use Rattle.theorems_calls.specs.Calls.{ReadCall, WriteCall}

-- the text of its tables in one spelling
abbrev pub text_by : WriteCall → List ℕ
text_by w = canonical w.tender (rows_of w.count w.bids) w.windows

-- one answer: 9 where the award of the tender's kind would give it, 14 where the text is too long or the buffer too short, else the text
pub data OneWriting (w : WriteCall) : Type 0 where
  tables_faulty : (row : ℕ) → fault_of w.tender.kind w.tender w.count w.bids w.windows ≡ some row
      → w.answer ≡ Err (BadTables row) → w.after_buffer ≡ w.buffer → OneWriting w
  no_room : fault_of w.tender.kind w.tender w.count w.bids w.windows ≡ none
      → min max_text (length w.buffer) < length (text_by w) → w.answer ≡ Err NoRoom → w.after_buffer ≡ w.buffer
      → OneWriting w
  text_written : fault_of w.tender.kind w.tender w.count w.bids w.windows ≡ none
      → length (text_by w) ≤ min max_text (length w.buffer) → w.answer ≡ Ok (length (text_by w))
      → w.after_buffer ≡ text_by w ++ drop (length (text_by w)) w.buffer → OneWriting w

-- `read` accepts, and its tables hold the same tender and, in the same entry order, the same bidders, prices and minutes
pub record ReadAsWritten (w : WriteCall) (r : ReadCall) : Type 0 where
  pub window_rows : ℕ
  pub accepts : r.run.answer ≡ Ok (filled w.tender w.count window_rows)
  pub same : Same w.tender (rows_of w.count w.bids) w.windows
      w.tender (rows_of w.count r.run.after_bids) r.run.after_windows
