-- What the bytes of a list show of a bidder: they are read back, line by line and word by word.
use Rattle.std.specs.Prelude.{true, cond, ◌&&◌, List, [], ◌∷◌, ℕ, get_or}
use Rattle.std.proofs.Math.Option.{Option, none, some}
use Rattle.tender.specs.declared.AwardRow.{AwardRow}
use Rattle.reader_parts.specs.Words.{and_then, cut, equal_bytes, closed, digits}
use Rattle.award_outcome.specs.Gain.{lost}
use Rattle.spelling.specs.Decimal.{decimal}
use Rattle.listing_text.specs.Lines.{win_word}

-- the number of a line's last word, which a bracket closes
unfoldable pub last_number : List (List ℕ) → Option ℕ
unfolding and_then closed digits
last_number ws = and_then (closed (get_or ws 2 [])) (digits 0)

-- the cents that a line of these words says the bidder is paid, if it is the bidder's: (win BIDDER CENTS)
unfoldable pub win_on : ℕ → List (List ℕ) → Option ℕ
unfolding equal_bytes win_word decimal last_number
win_on bidder ws =
    let cents = last_number ws in
    cond (equal_bytes (get_or ws 0 []) (40 ∷ win_word) && equal_bytes (get_or ws 1 []) (decimal bidder)) cents none

unfoldable pub row_or : Option ℕ → AwardRow → AwardRow
row_or none r = r
row_or (some c) r = record { won = true; cents = c }

unfoldable pub row_among : ℕ → List (List ℕ) → AwardRow
unfolding row_or win_on cut lost
row_among bidder [] = lost
row_among bidder (l ∷ ls) = row_or (win_on bidder (cut 32 l)) (row_among bidder ls)

-- won with the cents of the bidder's line, or lost where there is none
unfoldable pub row_shown : ℕ → List ℕ → AwardRow
unfolding row_among cut
row_shown bidder list = row_among bidder (cut 10 list)
