-- What the list of a text is (paper 01, "List" and "One list in full").
use Rattle.std.specs.Prelude.{cond, List, [], ◌++◌, ℕ, zero, suc, length, get_or}
use Rattle.tender.specs.declared.Tender.{Tender}
use Rattle.tender.specs.Tables.{Row, flat_rows, flat_windows}
use Rattle.reader_text.specs.Read.{accepted, read_text}
use Rattle.reader_text.specs.Read as reading
use Rattle.award_check.specs.Cells.{no_row}
use Rattle.tender.specs.declared.AwardRow.{AwardRow}
use Rattle.award_rule.specs.Award.{Outcome, awarded, refused, award_of}
use Rattle.award_outcome.specs.Gain.{lost}
use Rattle.spelling.specs.Lines.{pair_line, refused_line}
use Rattle.spelling.specs.Delivered.{Delivered}
use Rattle.listing_text.specs.Lines.{win_word, award_line, last_lines}

-- the lines of the winners among the first n bids, in entry order: bidder and cents paid
unfoldable pub win_list : List Row → List AwardRow → ℕ → List ℕ
unfolding win_word pair_line no_row lost
win_list R rows zero = []
win_list R rows (suc n) = win_list R rows n ++ cond (get_or rows n lost).won
    (pair_line win_word (get_or R n no_row).bidder (get_or rows n lost).cents) []

-- the list of an award's outcome: kind, start and end; the winners; the house, where it won; cost and sum paid. A refusal is the
-- whole list
unfoldable pub list_lines : Tender → List Row → Outcome → List ℕ
unfolding award_line win_list last_lines refused_line
list_lines t R (awarded rows totals) = award_line t ++ win_list R rows (length R) ++ last_lines t.reserve totals
list_lines t R (refused r) = refused_line r

-- the list of a text, by what reading it answers: of the award on what was read, with an award row for every bid
unfoldable pub list_of : reading.ReadOutcome → List ℕ
unfolding list_lines award_of flat_rows flat_windows refused_line
list_of (reading.refused r) = refused_line r
list_of (accepted t R W) = list_lines t R (award_of t.kind t (length R) (flat_rows R) (flat_windows W) (length R))

-- The promise of a call with the text and a lent buffer of the bytes `old`: it answers r and leaves the bytes `new`. Where the
-- list is longer than the buffer, refusal 13, the answer is 0 and the buffer unchanged
pub record Listed (text old new : List ℕ) (r : ℕ) : Type 0 where
  pub delivers : Delivered (list_of (read_text text)) old new r
