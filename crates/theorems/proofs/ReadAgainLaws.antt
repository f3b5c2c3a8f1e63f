-- A call of `read` that accepted its text left its rows and windows, from which the text is spelt again up to the spelling of prices.
-- Assumes nothing.
use Rattle.std.specs.Prelude.{◌≡◌, List, ℕ, Ok}
use Rattle.std.proofs.Common.{sym, subst, ◌∙◌, arith}
use Rattle.tender.specs.declared.Window.{Window}
use Rattle.tender.specs.declared.Tender.{Tender}
use Rattle.tender.specs.declared.Refusal.{Refusal}
use Rattle.tender.specs.Tables.{Row}
use Rattle.reader_fill.specs.Answer.{filled}
use Rattle.theorems_calls.specs.Calls.{ReadCall}
use Rattle.theorems_calls.specs.OneReading.{Readable, Declines, Fills, OneReading, text_too_long, bad_form, too_many}
use Rattle.theorems_calls.specs.OneReading.{reserve_misplaced, outside_limits, several_windows, empty_window, late_window}
use Rattle.theorems_calls.specs.OneReading.{bidder_repeated, table_too_short, tables_filled}
use Rattle.theorems_calls.proofs.ReadingLaws.{one_reading, text_accepted}
use Rattle.writer_back.specs.SpeltLaws.{spelt_again}
use Rattle.theorems.specs.Between.{WasRead}
use Rattle.theorems.proofs.FilledLaws.{same_tender}

pub read_again : (r : ReadCall) (t : Tender) (n m : ℕ) → r.run.answer ≡ Ok (filled t n m) → WasRead r.run t
read_again r t n m e = go (one_reading r.run r.kept)
  where
    never : {A : Type 0} {x : Refusal} → Declines x r.run → A
    never d = let h = sym e ∙ d.answer in let z : ◌≡◌ {A = ℕ} 0 1 = cc in absurd (omega arith)

    read : (u : Tender) (R : List Row) (W : List Window) → Readable r.run.text u R W → Fills u R W r.run → WasRead r.run t
    read u R W d f =
        subst (WasRead r.run) (same_tender f.answer e)
        (record { rows = R; spans = W; spelt = spelt_again r.run.text u R W (text_accepted r.run.text u R W d); fills = f })

    go : OneReading r.run → WasRead r.run t
    go (text_too_long l x) = never x
    go (bad_form l h x) = never x
    go (reserve_misplaced l h x) = never x
    go (too_many l h x) = never x
    go (outside_limits l h x) = never x
    go (several_windows l h x) = never x
    go (empty_window l h x) = never x
    go (late_window l h x) = never x
    go (bidder_repeated l h x) = never x
    go (table_too_short u R W d s x) = never x
    go (tables_filled u R W d s f) = read u R W d f
