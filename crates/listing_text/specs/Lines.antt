-- The lines of a list as bytes (paper 01, "One list in full").
use Rattle.std.specs.Prelude.{Bool, cond, List, [], ◌∷◌, ◌++◌, ℕ, zero, suc, ◌*◌, get_or, eqb, Some, None}
use Rattle.tender.specs.Types.{Reserve}
use Rattle.tender.specs.declared.Tender.{Tender}
use Rattle.tender.specs.declared.Totals.{Totals}
use Rattle.tender.specs.Keywords.{bytes}
use Rattle.tender.specs.Tables.{bid_width}
use Rattle.spelling.specs.Lines.{pair_line, one_line, kind_word}

unfoldable pub award_word : List ℕ
unfolding bytes
award_word = bytes "award"

unfoldable pub win_word : List ℕ
unfolding bytes
win_word = bytes "win"

unfoldable pub house_word : List ℕ
unfolding bytes
house_word = bytes "house"

unfoldable pub total_word : List ℕ
unfolding bytes
total_word = bytes "total"

-- (award single 0 100)
unfoldable pub award_line : Tender → List ℕ
unfolding award_word kind_word pair_line
award_line t = pair_line (award_word ++ (32 ∷ kind_word t.kind)) t.window.start t.window.end

-- (win bidder cents), where the flag says that the bid won
unfoldable pub win_line : ℕ → ℕ → ℕ → List ℕ
unfolding win_word pair_line
win_line bidder flag cents = cond (eqb flag 1) (pair_line win_word bidder cents) []

-- the lines of the first n bids, in entry order: the bidder is the first of the four numbers of a row of the table of bids
unfoldable pub win_lines : List ℕ → List ℕ → List ℕ → ℕ → List ℕ
unfolding win_line
win_lines bids won cents zero = []
win_lines bids won cents (suc n) = win_lines bids won cents n
    ++ win_line (get_or bids (bid_width * n) 0) (get_or won n 0) (get_or cents n 0)

-- (house price), where the house won
unfoldable pub house_line : Reserve → Bool → List ℕ
unfolding house_word one_line
house_line None won = []
house_line (Some p) won = cond won (one_line house_word p) []

-- the lines after the winners': the house's, and (total cost paid)
unfoldable pub last_lines : Reserve → Totals → List ℕ
unfolding house_line total_word pair_line
last_lines r totals = house_line r totals.house ++ pair_line total_word totals.cost totals.paid
