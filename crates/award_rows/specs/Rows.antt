-- The award rows that a fill writes, one store after the other.
use Rattle.std.specs.Prelude.{List, ℕ, zero, suc, get_or, set}
use Rattle.tender.specs.declared.AwardRow.{AwardRow}
use Rattle.award_rule.specs.Plain.{row_of}

-- the row of bid i: won where its flag is 1, and its cents
abbrev pub award_row_at : List ℕ → List ℕ → ℕ → AwardRow
award_row_at won cents i = row_of (get_or won i 0) (get_or cents i 0)

-- the rows with those of the first n bids written
abbrev pub rows_written : ℕ → List ℕ → List ℕ → List AwardRow → List AwardRow
rows_written zero won cents rows = rows
rows_written (suc i) won cents rows = set (rows_written i won cents rows) i (award_row_at won cents i)
