-- The text of tables in one spelling (paper 02, request 2): each bid's windows joined where they overlap or touch, in rising order.
use Rattle.std.specs.Prelude.{cond, List, ◌++◌, map, ℕ, min, length, drop, leb}
use Rattle.std.proofs.Math.Option.{Option, none, some}
use Rattle.tender.specs.declared.Tender.{Tender}
use Rattle.tender.specs.declared.Refusal.{Refusal}
use Rattle.tender.specs.declared.Refusal.TheVariants.{BadTables, NoRoom}
use Rattle.tender.specs.Limits.{max_text}
use Rattle.tender.specs.Tables.{Row, rows_of}
use Rattle.reader_forms.specs.Line.{BidLine}
use Rattle.spelling.specs.Text.{text_of, bid_in}
use Rattle.award_check.specs.Faults.{fault_of}
use Rattle.writer_line.specs.Respelt.{respelt}

-- the bids of the rows, each respelt
unfoldable pub respelt_in : List ℕ → List Row → List BidLine
unfolding respelt bid_in
respelt_in windows rows = map (λ r. respelt (bid_in windows r)) rows

-- the text of these rows in one spelling
unfoldable pub canonical : Tender → List Row → List ℕ → List ℕ
unfolding text_of respelt_in
canonical t rows windows = text_of t (respelt_in windows rows)

-- what writing comes to: the text, or why it is declined
pub data WriteOutcome : Type 0 where
  spelt : List ℕ → WriteOutcome
  unspelt : Refusal → WriteOutcome

unfoldable pub unless_fault : Option ℕ → WriteOutcome → WriteOutcome
unless_fault none out = out
unless_fault (some row) out = unspelt (BadTables row)

-- 9 as the award of the tender's own kind, then 14 where the text would pass 65,536 bytes or the lent room, else the text
unfoldable pub write_into : Tender → ℕ → List ℕ → List ℕ → ℕ → WriteOutcome
unfolding fault_of rows_of canonical unless_fault
write_into t n bids windows room =
    let text = canonical t (rows_of n bids) windows in
    unless_fault (fault_of t.kind t n bids windows) (cond (leb (length text) (min max_text room)) (spelt text) (unspelt NoRoom))

-- what the lent buffer then holds: the text and what stood past it, or what stood in it
unfoldable pub buffer_after : List ℕ → WriteOutcome → List ℕ
buffer_after old (spelt text) = text ++ drop (length text) old
buffer_after old (unspelt q) = old
