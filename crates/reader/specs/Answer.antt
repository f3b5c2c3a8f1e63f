-- What `read` answers and leaves in the tables.
use Rattle.std.specs.Prelude.{List, ◌++◌, ℕ, ◌*◌, length, drop, Result}
use Rattle.tender.specs.Tables.{flat_rows, flat_windows, bid_width, window_width}
use Rattle.reader_text.specs.Read.{ReadOutcome, accepted, refused}
use Rattle.tender.specs.declared.Refusal.{Refusal}
use Rattle.reader_fill.specs.declared.Filled.{Filled}
use Rattle.reader_fill.specs.Answer.{fill_answer}

-- the tender and how many rows of each table were filled, or the refusal
abbrev pub read_answer : ReadOutcome → Result Filled Refusal
read_answer = fill_answer

-- a table after reading: its rows and the old places past them, or as it was
unfoldable pub bids_after : List ℕ → ReadOutcome → List ℕ
unfolding flat_rows
bids_after old (accepted t rows windows) = flat_rows rows ++ drop (bid_width * length rows) old
bids_after old (refused r) = old

unfoldable pub windows_after : List ℕ → ReadOutcome → List ℕ
unfolding flat_windows
windows_after old (accepted t rows windows) = flat_windows windows ++ drop (window_width * length windows) old
windows_after old (refused r) = old
