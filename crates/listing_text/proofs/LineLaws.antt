-- How long the lines of a list are. Assumes nothing.
use Rattle.std.specs.Prelude.{◌≡◌, Bool, true, false, cond, List, [], ◌∷◌, ◌++◌, ℕ, zero, suc, ◌+◌, ◌*◌}
use Rattle.std.specs.Prelude.{◌≤◌, ◌<◌, length, get_or, eqb}
use Rattle.std.specs.Prelude.{Some, None}
use Rattle.std.proofs.Common.{arith, length-append}
use Rattle.tender.specs.Types.{Reserve}
use Rattle.tender.specs.declared.Tender.{Tender}
use Rattle.tender.specs.declared.Totals.{Totals}
use Rattle.tender.specs.Keywords.{bytes}
use Rattle.tender.specs.Tables.{Row, bid_width}
use Rattle.award_check.specs.Cells.{no_row}
use Rattle.tender.specs.declared.AwardRow.{AwardRow}
use Rattle.award_rule.specs.Award.{Outcome, awarded, refused}
use Rattle.award_outcome.specs.Gain.{lost}
use Rattle.spelling.specs.Lines.{pair_line, one_line, kind_word}
use Rattle.spelling.proofs.LineLaws.{kind_short, pair_short, pair_some, one_short, refused_short, refused_some}
use Rattle.listing_text.specs.Lines.{award_word, win_word, house_word, total_word, win_line, win_lines, award_line, house_line, last_lines}
use Rattle.listing_text.specs.List.{win_list, list_lines}

pub win_short : (bidder flag cents : ℕ) → length (win_line bidder flag cents) ≤ 48
unfolding win_line win_word bytes
win_short bidder flag cents = go (eqb flag 1)
  where
    go : (t : Bool) → length (cond t (pair_line (119 ∷ 105 ∷ 110 ∷ []) bidder cents) []) ≤ 48
    go true = omega (arith, pair_short (119 ∷ 105 ∷ 110 ∷ []) bidder cents)
    go false = omega arith

pub award_short : (t : Tender) → length (award_line t) ≤ 57
unfolding award_line award_word bytes
award_short t = omega (
  arith,
  pair_short ((97 ∷ 119 ∷ 97 ∷ 114 ∷ 100 ∷ []) ++ (32 ∷ kind_word t.kind)) t.window.start
      t.window.end,
  kind_short t.kind,
)

pub wins_short : (R : List Row) (rows : List AwardRow) (n : ℕ) → length (win_list R rows n) ≤ 48 * n
unfolding win_list win_word bytes
wins_short R rows zero = omega arith
wins_short R rows (suc n) = go (get_or rows n lost).won (wins_short R rows n)
  where
    line : List ℕ
    line = pair_line (119 ∷ 105 ∷ 110 ∷ []) (get_or R n no_row).bidder (get_or rows n lost).cents

    go : (t : Bool) → length (win_list R rows n) ≤ 48 * n → length (win_list R rows n ++ cond t line []) ≤ 48 * suc n
    go true l = omega (
      arith,
      length-append (win_list R rows n) line,
      pair_short (119 ∷ 105 ∷ 110 ∷ []) (get_or R n no_row).bidder (get_or rows n lost).cents,
    )
    go false l = omega (arith, length-append (win_list R rows n) [])

pub house_short : (r : Reserve) (won : Bool) → length (house_line r won) ≤ 29
unfolding house_line house_word bytes
house_short None won = omega arith
house_short (Some p) false = omega arith
house_short (Some p) true = omega (arith, one_short (104 ∷ 111 ∷ 117 ∷ 115 ∷ 101 ∷ []) p)

last_short : (r : Reserve) (totals : Totals) → length (last_lines r totals) ≤ 79
unfolding last_lines total_word bytes
last_short r totals = omega (
  arith,
  length-append (house_line r totals.house) (pair_line (116 ∷ 111 ∷ 116 ∷ 97 ∷ 108 ∷ []) totals.cost totals.paid),
  house_short r totals.house,
  pair_short (116 ∷ 111 ∷ 116 ∷ 97 ∷ 108 ∷ []) totals.cost totals.paid,
)

last_some : (r : Reserve) (totals : Totals) → 0 < length (last_lines r totals)
unfolding last_lines
last_some r totals = omega (
  arith,
  length-append (house_line r totals.house) (pair_line total_word totals.cost totals.paid),
  pair_some total_word totals.cost totals.paid,
)

lines_length : (t : Tender) (R : List Row) (rows : List AwardRow) (totals : Totals)
    → length (list_lines t R (awarded rows totals))
    ≡ length (award_line t) + length (win_list R rows (length R)) + length (last_lines t.reserve totals)
unfolding list_lines
lines_length t R rows totals = omega (
  arith,
  length-append (award_line t ++ win_list R rows (length R)) (last_lines t.reserve totals),
  length-append (award_line t) (win_list R rows (length R)),
)

-- with at most 1,000 bids no list is empty and none is longer than 51,200 bytes
pub lines_short : (t : Tender) (R : List Row) (o : Outcome) → length R ≤ 1000 → length (list_lines t R o) ≤ 51200
unfolding list_lines
lines_short t R (awarded rows totals) l = omega (
  arith,
  lines_length t R rows totals,
  award_short t,
  wins_short R rows (length R),
  last_short t.reserve totals,
)
lines_short t R (refused r) l = omega (arith, refused_short r)

pub lines_some : (t : Tender) (R : List Row) (o : Outcome) → 0 < length (list_lines t R o)
unfolding list_lines
lines_some t R (awarded rows totals) = omega (arith, lines_length t R rows totals, last_some t.reserve totals)
lines_some t R (refused r) = refused_some r

pub win_lines_short : (bids won cents : List ℕ) (n : ℕ) → length (win_lines bids won cents n) ≤ 48 * n
unfolding win_lines
win_lines_short bids won cents zero = omega arith
win_lines_short bids won cents (suc n) = omega (
  arith,
  length-append (win_lines bids won cents n) (win_line (get_or bids (bid_width * n) 0) (get_or won n 0) (get_or cents n 0)),
  win_lines_short bids won cents n,
  win_short (get_or bids (bid_width * n) 0) (get_or won n 0) (get_or cents n 0),
)
