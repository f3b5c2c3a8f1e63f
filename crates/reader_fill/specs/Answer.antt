-- What `fill` answers and leaves in the tables.
use Rattle.std.specs.Prelude.{◌≡◌, List, ℕ, ◌*◌, length, take, Result, Ok, Err}
use Rattle.tender.specs.Tables.{flat_rows, flat_windows, bid_width, window_width}
use Rattle.reader_text.specs.Read.{ReadOutcome, accepted, refused}
use Rattle.tender.specs.declared.Tender.{Tender}
use Rattle.tender.specs.declared.Refusal.{Refusal}
use Rattle.reader_fill.specs.declared.Filled.{Filled}

-- a tender, with how many rows of each table were filled
abbrev pub filled : Tender → ℕ → ℕ → Filled
filled t bids windows = record { tender = t; bids = bids; windows = windows }

-- what was filled, or the refusal
abbrev pub fill_answer : ReadOutcome → Result Filled Refusal
fill_answer (accepted t rows windows) = Ok (filled t (length rows) (length windows))
fill_answer (refused r) = Err r

-- the first rows of the two tables are those of an accepted text; of a refused one nothing is said
abbrev pub Holds : ReadOutcome → (bids windows : List ℕ) → Type 0
Holds (accepted t rows spans) bids windows =
    (take (bid_width * length rows) bids ≡ flat_rows rows) × (take (window_width * length spans) windows ≡ flat_windows spans)
Holds (refused r) bids windows = Unit {0}
