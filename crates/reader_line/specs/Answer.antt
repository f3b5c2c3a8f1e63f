-- The answers of this crate's functions, as what is read from the front of bytes.
use Rattle.std.specs.Prelude.{◌≡◌, List, ℕ, ◌+◌, ◌*◌, ◌≤◌, length, drop, Some, None}
use Rattle.std.proofs.Math.Option.{Option, none, some}
use Rattle.tender.specs.declared.Window.{Window}
use Rattle.tender.specs.Limits.{max_text}
use Rattle.tender.specs.Tables.{window_table}
use Rattle.reader_parts.specs.Scan.{to_next}
use Rattle.reader_parts.specs.Front.{Front, got, wrong, onward}
use Rattle.reader_parts.specs.Flaws.{Flaws}
use Rattle.reader_parts.specs.Answer.{Reading, read_place}
use Rattle.reader_forms.specs.Line as said
use Rattle.reader_forms.specs.LineFront.{fronted}
use Rattle.reader_forms.specs.Tally.{Note, tender_note, bid_note, reserve_note, noted}
use Rattle.reader_forms.specs.Tally as held
use Rattle.reader_line.specs.declared.line.Tally.{Tally}
use Rattle.reader_line.specs.declared.line.Line as line
use Rattle.reader_line.specs.declared.line.Line.TheVariants as lineIs

-- a bid with the windows that are read
abbrev pub with_windows : ℕ → ℕ → Front (List Window) → Front said.Line
with_windows y v x = onward x (λ ws r. got (said.bid (record { bidder = y; price = v; windows = ws })) r)

-- what a reader holds of the windows and of the line that it reads, with the bytes after them

unfoldable pub tallied_front : ℕ → ℕ → Flaws → List ℕ → Front (List Window) → Front held.Tally
unfolding onward held.tally
tallied_front m n flaw table x = onward x (λ ws r. got (held.tally m n flaw table ws) r)

unfoldable pub noted_front : ℕ → List ℕ → Front said.Line → Front Note
unfolding onward fronted noted
noted_front m table x = onward x (λ l r. fronted (noted m table (some l)) r)

-- an answer with the table as it then is, and the bytes from its place on

abbrev pub told_tally : List ℕ → Reading Tally → List ℕ → Front held.Tally
told_tally s None table = wrong
told_tally s (Some r) table = got (record { count = r.value.count; flaw = r.value.flaw; table = table }) (drop r.next s)

abbrev pub note_of : line.Line → List ℕ → Note
note_of (lineIs.Tender k w) table = tender_note (record { kind = k; window = w })
note_of (lineIs.Bid n p c flaw) table = bid_note n p (record { count = c; flaw = flaw; table = table })
note_of (lineIs.Reserve p) table = reserve_note p

abbrev pub told_line : Reading line.Line → List ℕ → Option Note
told_line None table = none
told_line (Some r) table = some (note_of r.value table)

abbrev pub told_front : List ℕ → Reading line.Line → List ℕ → Front Note
told_front s r table = fronted (told_line r table) (drop (read_place r) s)

-- a line, where it is one of a head: the tender's or the reserve's
unfoldable pub head_line : Option said.Line → Option said.Line
head_line none = none
head_line (some (said.tender t)) = some (said.tender t)
head_line (some (said.bid b)) = none
head_line (some (said.reserve p)) = some (said.reserve p)

-- where the line from `at` on goes on: past its byte 10
abbrev pub EndsAfter : List ℕ → ℕ → Reading line.Line → Type 0
EndsAfter s at None = Unit {0}
EndsAfter s at (Some r) = (at + to_next 10 (drop at s) + 1 ≡ r.next) × (r.next ≤ length s)

-- the table has room for all windows of a text whose bytes before `at` hold m: each takes six bytes at least, as " (0 1)"
abbrev pub Room : List ℕ → (at m : ℕ) → List ℕ → Type 0
Room s at m table = (6 * m ≤ at) × (length s ≤ max_text) × (length table ≡ window_table)
