-- The award on what was read gives the list of the text; no list is empty and none is longer than 51,200 bytes; neither 8 nor 10 is
-- ever shown. Assumes nothing.
use Rattle.std.specs.Prelude.{◌≡◌, refl, ◌⊎◌, true, List, [], ◌∷◌, ◌++◌, ℕ, zero, suc, ◌+◌, ◌*◌, ◌≤◌}
use Rattle.std.specs.Prelude.{◌<◌, length, get_or, take, drop, leb, eqb}
use Rattle.std.specs.Prelude.{Ok, Err}
use Rattle.std.proofs.Common.{sym, ap, ◌∙◌, inl, inr, append-nil, arith, length-append, le-ltb, le-leb}
use Rattle.std.proofs.Math.Option.{none}
use Rattle.tender.specs.declared.Window.{Window}
use Rattle.tender.specs.declared.Tender.{Tender}
use Rattle.tender.specs.declared.Refusal.TheVariants.{MinuteUncovered, OneBidder}
use Rattle.tender.specs.Refusals.{number_of}
use Rattle.tender.specs.Tables.{Row, flat_rows, flat_windows, bid_width}
use Rattle.cover.specs.Sets.{Found, nothing, found}
use Rattle.cover.proofs.SettledLaws.{get_or_listed}
use Rattle.reader_text.specs.Read.{accepted, read_text}
use Rattle.reader_text.specs.Read as reading
use Rattle.reader_text.specs.Rules.{Rules}
use Rattle.reader_text.proofs.RulesLaws.{rules_law}
use Rattle.award_check.specs.Cells.{no_row}
use Rattle.award_check.specs.Auction.{Auction, auction_of, thin_cell}
use Rattle.award_check.proofs.AuctionLaws.{auction_read}
use Rattle.award_check.specs.Faults.{fault_of}
use Rattle.award_check.proofs.TextLaws.{bidder_read}
use Rattle.award_rule.specs.Award.{rule, Outcome, uncovered, lone, thinned, settled, award_of, outcome_number, outcome_place}
use Rattle.award_outcome.specs.Gain.{lost}
use Rattle.award_rule.proofs.ReadLaws.{award_read, award_number}
use Rattle.tender.specs.Types.{Answer}
use Rattle.award_rule.specs.Plain.{rows_in, told_in, PlainPromise}
use Rattle.spelling.proofs.LineLaws.{refused_short, refused_some}
use Rattle.spelling.proofs.DeliveredLaws.{delivered_is}
use Rattle.listing_text.specs.Lines.{win_line, win_lines}
use Rattle.listing_text.specs.Made.{answer_lines}
use Rattle.listing_text.specs.List.{win_list, list_lines, list_of, Listed}
use Rattle.listing_text.proofs.LineLaws.{lines_short, lines_some}

-- the lines that the code writes, from the numbers of the tables, are the list's

row_cells_lem : (n : ℕ) (won cents : List ℕ) (i : ℕ) → i < n
    → get_or (rows_in n won cents) i lost ≡ record { won = eqb (get_or won i 0) 1; cents = get_or cents i 0 }
unfolding rows_in
row_cells_lem n won cents i l = get_or_listed n (λ i. record { won = eqb (get_or won i 0) 1; cents = get_or cents i 0 }) i lost l

win_lines_lem : (R : List Row) (v won cents : List ℕ) (n m : ℕ) → m ≤ n → n ≤ length R
    → win_lines (flat_rows R ++ v) won cents m ≡ win_list R (rows_in n won cents) m
unfolding win_lines win_list win_line
win_lines_lem R v won cents n zero l h = refl
win_lines_lem R v won cents n (suc m) l h = rw (
  bidder_read R v m (omega arith),
  row_cells_lem n won cents m (omega arith),
  win_lines_lem R v won cents n m (omega arith) h,
)

-- what the award over plain lists told is what the list shows
pub answer_lines_lem : (T : Tender) (R : List Row) (v won cents : List ℕ) (a : Answer)
    → answer_lines T (flat_rows R ++ v) won cents (length R) a ≡ list_lines T R (told_in (length R) won cents a)
unfolding answer_lines list_lines told_in
answer_lines_lem T R v won cents (Ok totals) = rw (win_lines_lem R v won cents (length R) (length R) (omega arith) (omega arith))
answer_lines_lem T R v won cents (Err r) = refl

-- the award on what was read gives the list of the text
pub award_list : (T : Tender) (R : List Row) (W : List Window) (v w : List ℕ) (lent : ℕ) (won cents won' cents' : List ℕ)
    (a : Answer)
    → Rules T R W → length R ≤ lent →
    PlainPromise T.kind T (length R) (flat_rows R ++ v) (flat_windows W ++ w) lent won cents won' cents' a
    → answer_lines T (flat_rows R ++ v) won' cents' (length R) a ≡ list_of (accepted T R W)
unfolding list_of
award_list T R W v w lent won cents won' cents' a rules l p = answer_lines_lem T R v won' cents' a
    ∙ ap (list_lines T R) (p.answers ∙ award_read T R W rules v w lent l)

-- the list of a text is neither empty nor too long
pub list_short : (text : List ℕ) → (length (list_of (read_text text)) ≤ 51200) × (0 < length (list_of (read_text text)))
unfolding list_of
list_short text = go (read_text text) (λ T R W e. rules_law T R W text e)
  where
    go : (o : reading.ReadOutcome) → ((T : Tender) (R : List Row) (W : List Window) → o ≡ accepted T R W → Rules T R W)
        → (length (list_of o) ≤ 51200) × (0 < length (list_of o))
    go (reading.refused r) f = (omega (arith, refused_short r), refused_some r)
    go (accepted T R W) f = let o = award_of T.kind T (length R) (flat_rows R) (flat_windows W) (length R) in
        (lines_short T R o (f T R W refl).few_bids, lines_some T R o)

-- a buffer of 51,200 bytes always suffices
pub suffices : {text old new : List ℕ} {r : ℕ} → Listed text old new r → 51200 ≤ length old → (0 < r) × (r ≤ length new)
suffices {text} {old} {new} {r} h l =
    let s = list_short text in
    let list = list_of (read_text text) in
    let e : leb (length list) (length old) ≡ true = le-leb (length list) (length old) (omega (arith, s.0)) in
    let a : r ≡ length list = rw e at h.delivers.answer in
    let b : new ≡ list ++ drop (length list) old = rw e at h.delivers.bytes in
    (omega (arith, s.1), omega (arith, ap length b, length-append list (drop (length list) old)))

-- what a call shows is the list of the text
pub listed_is : {text old new : List ℕ} {r : ℕ} → Listed text old new r → 0 < r → take r new ≡ list_of (read_text text)
listed_is h l = delivered_is h.delivers l
