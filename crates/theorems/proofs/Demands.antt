-- The demands in one place, in their order and words: each is of a public call as one record (`Calls`) and is proved by citing.
-- `docs/RULES.md` prints the definitions that they rest on; `Worked` has the starred tenders of paper 01. Assumes nothing.
use Rattle.std.specs.Prelude.{◌≡◌, ◌⊎◌, true, false, List, ◌∷◌, ◌++◌, map, ℕ, ◌+◌, ◌/◌, ◌^◌, ◌≤◌}
use Rattle.std.specs.Prelude.{◌<◌, min, length, get_or, take, leb}
use Rattle.std.specs.Prelude.{Some, None, Ok, Err}
use Rattle.std.proofs.Common.{sym, ◌∙◌, inl, inr}
use Rattle.std.proofs.Math.Option.{Option, some}
use Rattle.tender.specs.declared.Kind.{Kind}
use Rattle.tender.specs.declared.Window.{Window}
use Rattle.tender.specs.declared.Tender.{Tender}
use Rattle.tender.specs.declared.AwardRow.{AwardRow}
use Rattle.tender.specs.Types.{Answer}
use Rattle.tender.specs.declared.Totals.{Totals}
use Rattle.tender.specs.declared.Refusal.{Refusal}
use Rattle.tender.specs.declared.Refusal.TheVariants.{BadTables}
use Rattle.tender.specs.Refusals.{number_of}
use Rattle.tender.specs.Tables.{Row, rows_of, flat_rows, flat_windows, bid_width, window_width}
use Rattle.reader_parts.specs.Words.{among, digits, price_of}
use Rattle.reader_forms.specs.Line.{TenderLine, BidLine, Line, tender, head_lines}
use Rattle.reader_forms.specs.LinePlain.{all_plain}
use Rattle.reader_text.specs.Read.{accepted, refused, read_text, read_into}
use Rattle.reader_text.specs.Read.{judged_by, begun, halted, tender_fault, tender_with, Unreserved, head_of}
use Rattle.reader_text.proofs.HeadLaws.{unreserved_head}
use Rattle.reader_text.specs.Rules.{bytes_like}
use Rattle.reader_text.proofs.RulesLaws.{rules_law}
use Rattle.reader_text.proofs.CountLaws.{lines_law, room_law}
use Rattle.reader_text.proofs.PlainLaws.{plain_law}
use Rattle.reader_fill.specs.Answer.{filled}
use Rattle.reader_text.specs.Differ.{Word, DifferInPrice, DifferInBid, windows_by}
use Rattle.reader_text.specs.DifferInSpelling.{DifferInSpelling}
use Rattle.award_check.specs.Cells.{no_row}
use Rattle.award_check.specs.Auction.{at_price}
use Rattle.award_check.specs.Alike.{named, Alike, PartOf, Withheld}
use Rattle.award_rule.specs.Award.{least_cost, greedy, rule, won, awarded, award_of, outcome_number}
use Rattle.award_rule.specs.Award.{refused as refusal}
use Rattle.award_rule.specs.Plain.{told_in, PlainPromise}
use Rattle.award_rule.proofs.AwardLaws.{award_lent}
use Rattle.award_rule.proofs.ReadLaws.{award_number}
use Rattle.award_outcome.specs.Gain.{row_for}
use Rattle.award_outcome.specs.Promise.{lent_after, Promise}
use Rattle.award_outcome.proofs.RowsPromiseLaws.{rows_promise}
use Rattle.award_outcome.specs.Right.{Bidders, IsAward, OneAnswer, LeastCover, WinnerAt, PaidByEight}
use Rattle.award_outcome.proofs.OneAnswerLaws as one
use Rattle.award_outcome.proofs.OutcomeLaws as outcome
use Rattle.spelling.specs.Decimal.{decimal, with_point}
use Rattle.spelling.specs.Text.{tender_text, bids_text, text_of, bid_in}
use Rattle.spelling.specs.Spelt.{Spelt}
use Rattle.spelling.proofs.DeliveredLaws.{same_shown}
use Rattle.spelling.specs.Lines.{pair_line, refused_word}
use Rattle.listing_text.specs.Lines.{total_word, award_line}
use Rattle.listing_text.specs.List.{win_list, list_lines}
use Rattle.listing_text.proofs.ListLaws as list
use Rattle.highest_text.specs.Told.{highest_in}
use Rattle.writer_back.specs.Same.{Same, ReadBack}
use Rattle.theorems_calls.specs.Calls.{ReadRun, ReadCall, AwardCall, auction_by, told_by, ListCall, shown}
use Rattle.theorems_calls.specs.Calls.{WriteCall, RewriteCall, HighestCall, HighestLineCall}
use Rattle.theorems_calls.specs.OneReading.{OneReading, OfText}
use Rattle.theorems_shown.specs.ListRead.{row_shown}
use Rattle.theorems.specs.Between.{BidsAlone, Exactly, CallableWith, SameTables, FewerThan, ForCover, price_at, WasRead}
use Rattle.theorems.specs.Between.{Variant, BidVariant, SameReading, Follows, SameAward}
use Rattle.theorems.specs.Between.{NoGainAt, NoGainBetween, OneList}
use Rattle.theorems.specs.Between.{ListGiven, NoGainShown, Showable}
use Rattle.theorems_calls.proofs.ReadingLaws as reading
use Rattle.spelling.proofs.DecimalLaws.{decimal_back}
use Rattle.spelling.proofs.PriceLaws.{price_written, written_price}
use Rattle.writer_back.specs.SpeltLaws.{spelt_again}
use Rattle.theorems.proofs.ReadAgainLaws.{read_again}
use Rattle.theorems.proofs.VariedLaws.{varied}
use Rattle.theorems.proofs.VariedBidLaws.{varied_bid}
use Rattle.theorems.proofs.TextGainLaws.{withheld_read, no_gain_read}
use Rattle.theorems.proofs.CoverLaws as cover
use Rattle.theorems.proofs.RewritingLaws as rewriting
use Rattle.theorems.proofs.UnreservedLaws.{bids_alone, no_house_line, no_reserve_line}
use Rattle.theorems.proofs.ListNumberLaws.{one_list, shows_no_other}
use Rattle.theorems.proofs.ListGainLaws.{list_shows, withheld_shown, no_gain_shown}
use Rattle.theorems.specs.Rewriting.{OneWriting, ReadAsWritten}
use Rattle.theorems.proofs.RewritingLaws.{one_writing, read_as_written, equal_written, equal_rewritten}
use Rattle.theorems.proofs.RewritingLaws.{read_rewritten, rewritten_again}
use Rattle.theorems.proofs.FittingLaws.{always_fits}
use Rattle.theorems.proofs.EitherSpellingLaws.{reading_same, list_same, rewriting_same}
use Rattle.theorems.specs.Asking.{OneHighest, RowAsked, Renamed, Beside, PaidOrLess, BelowNamed}
use Rattle.theorems.proofs.AskingLaws.{one_highest, renamed_wins, renamed_loses, greedy_payment, least_payment, loser_price}
use Rattle.theorems.proofs.AskingLaws.{line_shown, line_fits}

-- Demand 1. Every text and every table gets one complete award or one refusal, by number and place. No bid is dropped or shortened,
-- and a refusal changes nothing that was lent.

-- A text gives one reading: the tables filled, or the first refusal due with the tables as they were.
pub one_answer_to_a_text : (r : ReadCall) → OneReading r.run
one_answer_to_a_text r = reading.one_reading r.run r.kept

-- It leaves nothing open: whatever answer and tables it holds of, for this text and the tables lent, are those of the call. So no two
-- of its cases hold together.
pub no_other_answer : (r : ReadCall) (x : ReadRun) → OneReading x → x.text ≡ r.run.text → x.bids ≡ r.run.bids
    → x.windows ≡ r.run.windows → x ≡ r.run
no_other_answer r x h = reading.one_case x r.run (reading.reading_kept x h) r.kept

-- Tables give one award or one refusal.
pub one_answer_to_tables : (c : AwardCall) →
    OneAnswer c.kind c.tender c.count c.bids c.windows c.rows_before c.rows_after (told_by c)
one_answer_to_tables c =
    one.one_answer c.kind c.tender c.count c.bids c.windows c.rows_before c.rows_after c.answer c.promise

-- Of no answer is anything left to the program: two calls of the same award on the same tables tell the same.
pub same_tables_same_answer : (c c' : AwardCall) → SameAward c c' → c.tender ≡ c'.tender → c.count ≡ c'.count
    → c.bids ≡ c'.bids → c.windows ≡ c'.windows → told_by c ≡ told_by c'
same_tables_same_answer c c' s t n b w =
    c.promise.answers ∙ rw (s.kinds, t, n, b, w) (award_lent c'.kind c'.tender c'.count c'.bids c'.windows
    (length c.rows_before) (length c'.rows_before) (rw n at s.room)) ∙ sym c'.promise.answers

-- A call of `settle`, its lists read as award rows, is one of the award of its kind, so that what follows holds of it too.
pub settle_as_award : (k : Kind) (t : Tender) (n : ℕ) (bids windows won cents won' cents' : List ℕ) (a : Answer)
    → PlainPromise k t n bids windows (min (length won) (length cents)) won cents won' cents' a
    → (old : List AwardRow) → length old ≡ min (length won) (length cents)
    → Promise k t n bids windows old (lent_after old (told_in n won' cents' a)) a
settle_as_award k t n bids windows won cents won' cents' a p old e =
    rows_promise k t n bids windows old won cents won' cents' a (rw e p)

-- A text gives one list, or 13.
pub one_answer_of_the_list : (l : ListCall) → OneList l
one_answer_of_the_list = one_list

-- It is the same list, whatever the buffer.
pub same_text_same_list : (l l' : ListCall) → l.text ≡ l'.text → 0 < l.answer → 0 < l'.answer → shown l ≡ shown l'
same_text_same_list l l' e a a' = same_shown {old' = l'.buffer} l.promise.delivers (rw e l'.promise.delivers) a a'

-- A buffer of 51,200 bytes always suffices.
pub list_fits : (l : ListCall) → 51200 ≤ length l.buffer → 0 < l.answer
list_fits l h = (list.suffices l.promise h).0

-- No bid is dropped or shortened: an accepted text is spelt again from what was read and a word for each price, and the tables hold
-- just that.
pub nothing_dropped : (r : ReadCall) (t : Tender) (n m : ℕ) → r.run.answer ≡ Ok (filled t n m) → WasRead r.run t
nothing_dropped = read_again

-- an accepted text
module _ (text : List ℕ) (T : Tender) (R : List Row) (W : List Window) (read : read_text text ≡ accepted T R W) where
  -- The same of the text alone, up to the spelling of prices.
  pub spelt_from_what_was_read : Spelt text T (map (bid_in (flat_windows W)) R)
  spelt_from_what_was_read = spelt_again text T R W read

  -- There is a row for each line after the head, and each byte is a digit, a point, a space, a bracket, a newline or a letter.
  pub row_for_each_line : length R + length (head_lines T) ≡ bytes_like 10 text
  row_for_each_line = lines_law T R W text read

  pub plain_bytes : all_plain text ≡ true
  plain_bytes = plain_law T R W text read

  -- What was read is never refused with 9 or 10: the award is made, or declined with 11 or 12.
  pub never_nine_or_ten : let n = outcome_number (award_of T.kind T (length R) (flat_rows R) (flat_windows W) (length R)) in
      (n ≡ 0) ⊎ ((n ≡ 11) ⊎ (n ≡ 12))
  never_nine_or_ten = award_number T R W (rules_law T R W text read)

-- A text alone is never refused with 8, nor is it with tables of 1,000 and 32,000 rows.
pub never_eight : (text : List ℕ) (r : Refusal) → read_text text ≡ refused r → OfText (number_of r)
never_eight = reading.refusal_number

pub long_tables : (text : List ℕ) (bid_rows window_rows : ℕ) → 1000 ≤ bid_rows → 32000 ≤ window_rows
    → read_into text bid_rows window_rows ≡ read_text text
long_tables = room_law

-- A list shows no refusal but 1 to 7, 11, 12, 15 and 16.
pub a_list_shows : (l : ListCall) (n at : ℕ) → n < 10 ^ 20 → 0 < l.answer → shown l ≡ pair_line refused_word n at → Showable n
a_list_shows = shows_no_other

-- Demand 2. Winners, payments and totals are those of the published mechanisms: the least-cost cover with VCG payments for a single
-- tender, the greedy cover with critical prices for a multi tender.

module _ (c : AwardCall) where
  -- Where no rule is broken, each bid has an award row and, without a reserve, each minute two bidders, the tender is awarded as
  -- defined.
  pub awarded_as_defined : CallableWith c → (c.tender.reserve ≡ None → Bidders (auction_by c) 2)
      → IsAward (rule c.kind) (auction_by c) c.rows_before c.rows_after (told_by c)
  awarded_as_defined =
      one.awards c.kind c.tender c.count c.bids c.windows c.rows_before c.rows_after c.answer c.promise

  -- Else it is refused for cover: with 11 or 12 exactly where some minute has fewer than two bidders, with 11 where some has none.
  pub refused_for_cover : CallableWith c → c.tender.reserve ≡ None → Exactly (ForCover c) (FewerThan 2 c)
  refused_for_cover h e = (cover.thin_if_refused c h e, cover.refused_if_thin c h e)

  pub refused_with_eleven : CallableWith c → c.tender.reserve ≡ None → Exactly (outcome_number (told_by c) ≡ 11) (FewerThan 1 c)
  refused_with_eleven h e = (cover.bare_if_eleven c h e, cover.eleven_if_bare c h e)

  -- With a reserve it never is.
  pub reserve_serves : (p : ℕ) → c.tender.reserve ≡ Some p → ForCover c → ⊥
  reserve_serves p e f = go f
    where
      served : (outcome_number (told_by c) ≡ 11 → ⊥) × (outcome_number (told_by c) ≡ 12 → ⊥)
      served = one.reserve_serves c.kind c.tender c.count c.bids c.windows c.rows_before c.rows_after c.answer
          c.promise p e

      go : ForCover c → ⊥
      go (inl h) = served.0 h
      go (inr h) = served.1 h

module _ (c : AwardCall) (rows : List AwardRow) (totals : Totals) (told : told_by c ≡ awarded rows totals) where
  -- The winners cover: each minute of the tender, cell x, is in a winner's windows, or the house is among the winners.
  pub winners_cover_all : (x : ℕ) → x < (auction_by c).cells → WinnerAt (auction_by c) rows totals x
  winners_cover_all = outcome.all_served c.kind c.tender c.count c.bids c.windows (length c.rows_before) rows totals
      (rw told at c.promise.answers)

  -- In a tender by least cost, as a single tender is, no covering set costs less, and ties fall as paper 01 says.
  pub by_least_cost : rule c.kind ≡ least_cost → LeastCover (auction_by c) rows totals
  by_least_cost k = outcome.least_cover c.kind c.tender c.count c.bids c.windows (length c.rows_before) rows totals k
      (rw told at c.promise.answers)

  -- A winner of such a tender is paid by document 000's formula 8.
  pub paid_by_formula_8 : (i : ℕ) → rule c.kind ≡ least_cost → i < c.count → (row_for (awarded rows totals) i).won ≡ true →
      PaidByEight (auction_by c) i (row_for (awarded rows totals) i).cents totals.cost
  paid_by_formula_8 i k l = outcome.paid_by_eight c.kind c.tender c.count i c.bids c.windows (length c.rows_before)
      rows totals l k (rw told at c.promise.answers)

  -- In a tender by the greedy rule, as a multi tender is, a winner is paid the largest whole price with which it would still win if
  -- all else stood.
  pub paid_the_largest_price : (i : ℕ) → rule c.kind ≡ greedy → i < c.count → (row_for (awarded rows totals) i).won ≡ true
      → (q : ℕ) → won greedy (at_price i q (auction_by c)) i ≡ leb q (row_for (awarded rows totals) i).cents
  paid_the_largest_price i k l = outcome.largest_price c.kind c.tender c.count i c.bids c.windows (length c.rows_before)
      rows totals l k (rw told at c.promise.answers)

-- Of each bid of an accepted text a list shows the row that the award gave it: its bytes are read back.
pub a_list_shows_the_award : (l : ListCall) (T : Tender) (R : List Row) (W : List Window) (i : ℕ) → 0 < l.answer
    → read_text l.text ≡ accepted T R W → i < length R → row_shown (get_or R i no_row).bidder (shown l)
    ≡ row_for (award_of T.kind T (length R) (flat_rows R) (flat_windows W) (length R)) i
a_list_shows_the_award = list_shows

-- Each number that it writes reads back as that number.
pub number_reads_back : (n : ℕ) → n < 10 ^ 20 → digits 0 (decimal n) ≡ some n
number_reads_back = decimal_back

-- Demand 3. No owner can gain by naming a false price, and no winner is paid less than the price named.

-- Two texts that differ in one price, each read by `read`, the same award called on what each left: where the first price is the true
-- cost, the other gains no more.
pub no_gain : (r r' : ReadCall) (c c' : AwardCall) (bidder p q : List ℕ) → DifferInPrice r.run.text r'.run.text bidder p q
    → Follows r c → Follows r' c' → SameAward c c' → NoGainBetween c c' bidder p q
no_gain r r' c c' bidder p q d f f' s = no_gain_read r r' c c' bidder p q f f' s d

-- The same of the lists that `tender_list` writes, by their bytes.
pub no_gain_in_lists : (l l' : ListCall) (bidder p q : List ℕ) → DifferInPrice l.text l'.text bidder p q → ListGiven l
    → ListGiven l' → NoGainShown l l' bidder p
no_gain_in_lists l l' bidder p q d g g' = no_gain_shown l l' bidder p q g g' d

-- On tables: two calls of the same award on tables alike in all but the price of bid i, neither answered with 9.
pub no_gain_on_tables : (c c' : AwardCall) (i : ℕ) → c.tender ≡ c'.tender → c.count ≡ c'.count → SameAward c c'
    → (outcome_number (told_by c) ≡ 9 → ⊥) → (outcome_number (told_by c') ≡ 9 → ⊥) → i < c.count
    → Alike c.count i c.bids c.windows c'.bids c'.windows → NoGainAt c c' i
unfolding named
no_gain_on_tables c c' i t n s h h' l = outcome.honest_outcome c.kind c.tender c.count i c.bids c.windows c'.bids
    c'.windows (length c.rows_before) (length c'.rows_before) (told_by c) (told_by c') l (rw (← n) at s.room)
    c.promise.answers (rw (s.kinds, t, n) c'.promise.answers) h h'

-- Every bid of an accepted text can be varied so, and the other text is accepted where the price is within the limits.
pub can_be_varied : (text : List ℕ) (T : Tender) (R : List Row) (W : List Window) → read_text text ≡ accepted T R W
    → (i : ℕ) → i < length R → (q : List ℕ) → Word q → Variant text T R W i q
can_be_varied = varied

-- No winner is paid less than the price named.
pub never_paid_less : (c : AwardCall) (i : ℕ) → i < c.count → (row_for (told_by c) i).won ≡ true
    → price_at c i ≤ (row_for (told_by c) i).cents
unfolding named
never_paid_less c i l = outcome.no_loss c.kind c.tender c.count i c.bids c.windows (length c.rows_before) (told_by c) l
    c.promise.answers

-- Paper 7 of 02. Nor can an owner gain by holding back minutes, whatever price is named beside it; the true cost is that of the whole bid.
-- Part is by minutes: the same windows cut or written otherwise hold all of them. Where minutes held back leave one too thin, the second
-- award is refused and the gain there is 0. With all the minutes it is demand 3.

-- Two texts that differ in one bid's price and windows, of which the second hold part of the minutes of the first.
pub no_gain_by_less : (r r' : ReadCall) (c c' : AwardCall) (bidder p q ws vs : List ℕ)
    → DifferInBid r.run.text r'.run.text bidder p q ws vs → PartOf (windows_by vs) (windows_by ws)
    → Follows r c → Follows r' c' → SameAward c c' → NoGainBetween c c' bidder p q
no_gain_by_less r r' c c' bidder p q ws vs d part f f' s = withheld_read r r' c c' bidder p q f f' s ws vs d part

-- Of the lists, by their bytes.
pub no_gain_by_less_in_lists : (l l' : ListCall) (bidder p q ws vs : List ℕ) → DifferInBid l.text l'.text bidder p q ws vs
    → PartOf (windows_by vs) (windows_by ws) → ListGiven l → ListGiven l' → NoGainShown l l' bidder p
no_gain_by_less_in_lists l l' bidder p q ws vs d part g g' = withheld_shown l l' bidder p q g g' ws vs d part

-- On tables: two calls of the same award, neither answered with 9, on tables in which each bid offers the same but bid i.
pub no_gain_by_less_on_tables : (c c' : AwardCall) (i : ℕ) → c.tender ≡ c'.tender → c.count ≡ c'.count
    → SameAward c c'
    → (outcome_number (told_by c) ≡ 9 → ⊥) → (outcome_number (told_by c') ≡ 9 → ⊥) → i < c.count
    → Withheld c.count i c.bids c.windows c'.bids c'.windows → NoGainAt c c' i
unfolding named
no_gain_by_less_on_tables c c' i t n s h h' l = outcome.withheld_outcome c.kind c.tender c.count i c.bids c.windows
    c'.bids c'.windows (length c.rows_before) (length c'.rows_before) (told_by c) (told_by c') l (rw (← n) at s.room)
    c.promise.answers (rw (s.kinds, t, n) c'.promise.answers) h h'

-- Every bid of an accepted text has such a second text, whatever its price and windows there, accepted where both are within the limits.
pub can_be_offered_less : (text : List ℕ) (T : Tender) (R : List Row) (W : List Window) → read_text text ≡ accepted T R W
    → (i : ℕ) → i < length R → (q vs : List ℕ) → Word q → among 10 vs ≡ false → BidVariant text T R W i q vs
can_be_offered_less = varied_bid

-- Paper 5 of 02. Tenders without a reserve keep their answers. A text whose second line is not the reserve's is read as a tender
-- without one, its bids from line 2 on; the bids alone are weighed, and lists and texts have no line more.
pub read_without_a_reserve : (t : TenderLine) (ls : List (Option Line)) → Unreserved ls
    → head_of (some (tender t) ∷ ls) ≡ judged_by halted (tender_fault t) 1 (begun (tender_with t None) 2 ls)
read_without_a_reserve = unreserved_head

pub award_without_a_reserve : (c : AwardCall) → c.tender.reserve ≡ None → BidsAlone c
award_without_a_reserve = bids_alone

pub list_without_a_reserve : (t : Tender) (R : List Row) (rows : List AwardRow) (totals : Totals) → t.reserve ≡ None
    → list_lines t R (awarded rows totals)
    ≡ award_line t ++ win_list R rows (length R) ++ pair_line total_word totals.cost totals.paid
list_without_a_reserve = no_house_line

pub text_without_a_reserve : (t : Tender) (bs : List BidLine) → t.reserve ≡ None → text_of t bs ≡ tender_text t ++ bids_text bs
text_without_a_reserve = no_reserve_line

-- Paper 2 of 02. Bid lists in one spelling: each bid's windows joined where they overlap or touch, in rising order.

-- Tables give one text or one refusal: 9, then 14, and on no other ground.
pub one_answer_of_the_writer : (w : WriteCall) → OneWriting w
one_answer_of_the_writer = one_writing

-- 9 as the award of the tender's own kind gives it on these tables, at the same place.
pub nine_as_the_award : (w : WriteCall) (c : AwardCall) → SameTables w.tender w.count w.bids w.windows c
    → (row : ℕ)
    → Exactly (w.answer ≡ Err (BadTables row)) (told_by c ≡ refusal (BadTables row))
nine_as_the_award w c s row = (rewriting.told_nine w c s row, rewriting.write_nine w c s row)

-- What is written reads back, by `read` into tables of 1,000 and 32,000 rows: as the same tender and, in the same entry order, the same
-- bidders, prices and minutes.
pub written_reads_back : (w : WriteCall) (r : ReadCall) (n : ℕ) → w.answer ≡ Ok n → r.run.text ≡ take n w.after_buffer
    → 1000 ≤ length r.run.bids / bid_width → 32000 ≤ length r.run.windows / window_width → ReadAsWritten w r
written_reads_back = read_as_written

-- Equal bytes are written exactly where tender, bidders, prices, entry order and each bid's minutes agree: of tables,
pub equal_bytes_of_tables : (w w' : WriteCall) (n n' : ℕ) → w.answer ≡ Ok n → w'.answer ≡ Ok n'
    → Exactly (take n w.after_buffer ≡ take n' w'.after_buffer) (Same w.tender (rows_of w.count w.bids) w.windows
    w'.tender (rows_of w'.count w'.bids) w'.windows)
equal_bytes_of_tables = equal_written

-- and of any two accepted texts.
pub equal_bytes_of_texts : (l l' : RewriteCall) (T T' : Tender) (R R' : List Row) (W W' : List Window)
    → read_text l.text ≡ accepted T R W → read_text l'.text ≡ accepted T' R' W' → 0 < l.answer → 0 < l'.answer
    → Exactly (shown l ≡ shown l') (Same T R (flat_windows W) T' R' (flat_windows W'))
equal_bytes_of_texts = equal_rewritten

-- A buffer as long as the text, but of 52 bytes at least, always suffices.
pub rewrite_fits : (l : RewriteCall) → length l.text ≤ length l.buffer → 52 ≤ length l.buffer → 0 < l.answer
rewrite_fits = always_fits

-- an accepted text
module _ (l : RewriteCall) (T : Tender) (R : List Row) (W : List Window) (read : read_text l.text ≡ accepted T R W) where
  -- Rewritten, it reads as the same tender and bids,
  pub rewritten_reads_back : 0 < l.answer → ReadBack (shown l) T R (flat_windows W)
  rewritten_reads_back = read_rewritten l T R W read

  -- is rewritten to itself,
  pub rewritten_to_itself : (l' : RewriteCall) → l'.text ≡ shown l → 0 < l.answer → 0 < l'.answer
      → shown l' ≡ shown l
  rewritten_to_itself = rewritten_again l T R W read

  -- and is no longer than it was: 14 is for a buffer that is shorter than the text.
  pub rewritten_no_longer : length l.text ≤ length l.buffer → (0 < l.answer) × (l.answer ≤ length l.text)
  rewritten_no_longer a = (rewriting.rewritten_some l T R W read a, rewriting.rewritten_short l T R W read a)

-- Paper 6 of 02. Prices with a point.

-- A word is read as a price exactly where it is that price in whole cents or with a point.
pub two_spellings : (w : List ℕ) (v : ℕ)
    → Exactly (price_of w ≡ some v) ((v < 1000000000) × ((w ≡ decimal v) ⊎ (w ≡ with_point v)))
two_spellings w v = (price_written w v, written_price w v)

-- Two texts that differ only in how prices are spelt, neither too long, are answered alike, accepted or refused. They get the same list,
pub same_list_of_either_spelling : (l l' : ListCall) → DifferInSpelling l.text l'.text → 0 < l.answer → 0 < l'.answer
    → shown l ≡ shown l'
same_list_of_either_spelling = list_same

-- the same rewriting,
pub same_rewriting_of_either_spelling : (l l' : RewriteCall) → DifferInSpelling l.text l'.text → 0 < l.answer
    → 0 < l'.answer → shown l ≡ shown l'
same_rewriting_of_either_spelling = rewriting_same

-- and, read into the same tables, the same answer and the same tables left.
pub same_reading_of_either_spelling : (r r' : ReadCall) → DifferInSpelling r.run.text r'.run.text
    → r.run.bids ≡ r'.run.bids → r.run.windows ≡ r'.run.windows → SameReading r r'
same_reading_of_either_spelling = reading_same

-- Paper 8 of 02. What would have won.

-- Tables and a bidder number get one answer: refused as by the award of the tender's own kind with an award row for every bid, so never
-- with 10; then 17 where no bid has the number; else the price at which and below which the bid would win if all else stood, and above
-- which it would lose, for every whole price; or that it would win with none, not even 0.
pub one_answer_to_who_asks : (h : HighestCall) → OneHighest h
one_answer_to_who_asks = one_highest

-- It is what the award says where the bid names another price in the same tables, within the limits: it wins with the price answered and
-- below, and with none where none is answered.
module _ (h : HighestCall) (c : AwardCall) (i : ℕ) (r : RowAsked h i) (d : Renamed h c i) where
  pub wins_up_to_the_answer : (p : ℕ) → h.answer ≡ Ok (Some p) → (row_for (told_by c) i).won ≡ leb (price_at c i) p
  wins_up_to_the_answer = renamed_wins h c i r d

  pub wins_with_none : h.answer ≡ Ok None → (row_for (told_by c) i).won ≡ false
  wins_with_none = renamed_loses h c i r d

-- beside an award on the same tables
module _ (h : HighestCall) (c : AwardCall) (i : ℕ) (rows : List AwardRow) (totals : Totals) (b : Beside h c i rows totals) where
  -- A winner by the greedy rule, as of a multi tender, is answered its payment,
  pub multi_winner_s_payment : rule h.tender.kind ≡ greedy → (row_for (awarded rows totals) i).won ≡ true
      → h.answer ≡ Ok (Some (row_for (awarded rows totals) i).cents)
  multi_winner_s_payment = greedy_payment h c i rows totals b

  -- one by least cost, as of a single tender, its payment where it would win by naming just that, and else one cent less,
  pub single_winner_s_payment : rule h.tender.kind ≡ least_cost → (row_for (awarded rows totals) i).won ≡ true
      → PaidOrLess h i (row_for (awarded rows totals) i).cents
  single_winner_s_payment = least_payment h c i rows totals b

  -- and a loser less than the price named, or none.
  pub loser_s_price : (row_for (awarded rows totals) i).won ≡ false → BelowNamed h c i
  loser_s_price = loser_price h c i rows totals b

-- The line that `tender_highest` writes is that of what was read, and 52 bytes always suffice.
pub highest_of_a_text : (bidder : ℕ) (l : HighestLineCall bidder) → 0 < l.answer → shown l ≡ highest_in (read_text l.text) bidder
highest_of_a_text = line_shown

pub highest_fits : (bidder : ℕ) (l : HighestLineCall bidder) → 52 ≤ length l.buffer → 0 < l.answer
highest_fits = line_fits
