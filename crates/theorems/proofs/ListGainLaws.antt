-- The lists of two texts that differ in one bid: by the bytes of the second its bidder gains no more. Assumes nothing.
use Rattle.std.specs.Prelude.{◌≡◌, refl, false, List, [], ◌++◌, ℕ, ◌^◌, ◌<◌, length, get_or}
use Rattle.std.proofs.Common.{sym, ap, ◌∙◌, append-nil, arith, le-ltb}
use Rattle.tender.specs.declared.Window.{Window}
use Rattle.tender.specs.declared.Tender.{Tender}
use Rattle.tender.specs.declared.AwardRow.{AwardRow}
use Rattle.tender.specs.declared.Totals.{Totals}
use Rattle.tender.specs.declared.Refusal.{Refusal}
use Rattle.tender.specs.Refusals.{number_of, place_of}
use Rattle.tender.specs.Tables.{Row, flat_rows, flat_windows}
use Rattle.reader_text.specs.Read.{accepted, read_text}
use Rattle.reader_text.specs.Read as reading
use Rattle.reader_text.specs.Rules.{Rules}
use Rattle.reader_text.proofs.RulesLaws.{rules_law}
use Rattle.reader_text.specs.Differ.{DifferInPrice, DifferInBid, windows_by}
use Rattle.reader_text.proofs.BidLaws.{bid_law, price_as_bid}
use Rattle.award_check.specs.Cells.{no_row}
use Rattle.award_check.specs.Auction.{Auction, auction_of}
use Rattle.award_check.specs.Alike.{named, PartOf}
use Rattle.award_rule.specs.Award.{rule, Outcome, awarded, refused, award_of}
use Rattle.award_rule.proofs.AwardLaws.{award_awarded}
use Rattle.award_outcome.specs.Gain.{lost, row_for}
use Rattle.award_outcome.proofs.SettleLaws.{lost_nothing, row_in}
use Rattle.award_outcome.proofs.TableLaws.{row_is}
use Rattle.award_outcome.specs.Right as right
use Rattle.award_outcome.proofs.TextOutcomeLaws.{withheld_texts}
use Rattle.spelling.proofs.LineLaws.{refused_line_lem}
use Rattle.listing_text.specs.List.{list_lines, list_of}
use Rattle.listing_text.proofs.ListLaws.{listed_is}
use Rattle.theorems_calls.specs.Calls.{ListCall, shown}
use Rattle.theorems.specs.Between.{ListGiven, NoGainShown}
use Rattle.theorems_calls.proofs.ReadingLaws.{refusal_number}
use Rattle.theorems_shown.specs.ListRead.{row_shown}
use Rattle.theorems_shown.proofs.ShownLaws.{refused_row, row_shown_lem}
use Rattle.theorems.proofs.PaidLaws.{cents_small, bidder_once, bidder_small, prices_sum, minutes_few}

-- of each bid of an accepted text the list shows the row that the award gave it
module _ (T : Tender) (R : List Row) (W : List Window) (rules : Rules T R W) where
  abbrev given : Outcome
  given = award_of T.kind T (length R) (flat_rows R) (flat_windows W) (length R)

  awarded_shown : (rows : List AwardRow) (totals : Totals) (i : ℕ) → awarded rows totals ≡ given → i < length R →
      row_shown (get_or R i no_row).bidder (list_lines T R (awarded rows totals)) ≡ row_for (awarded rows totals) i
  unfolding row_for
  awarded_shown rows totals i e l = row_shown_lem T R rows totals i l (λ j m. (bidder_small T R W rules j, small j m))
      (λ j m d. bidder_once T R W rules i j l m d) none
    where
      A : Auction
      A = auction_of T (length R) (flat_rows R) (flat_windows W)

      row : (j : ℕ) → j < length R → get_or rows j lost ≡ row_in (rule T.kind) A j
      row j m = row_is T.kind T (length R) (flat_rows R) (flat_windows W) (length R) rows totals
          (award_awarded T.kind T (length R) (flat_rows R) (flat_windows W) (length R) rows totals e) j m

      small : (j : ℕ) → j < length R → (get_or rows j lost).cents < 10 ^ 20
      small j m = rw (row j m) (cents_small (rule T.kind) A j (prices_sum T R W rules) (minutes_few T R W rules))

      none : (get_or rows i lost).won ≡ false → (get_or rows i lost).cents ≡ 0
      none w = ap (λ r. r.cents) (row i l) ∙ lost_nothing (rule T.kind) A i (sym (ap (λ r. r.won) (row i l)) ∙ w)

  refusal_shown : (i : ℕ) (r : Refusal) → row_shown (get_or R i no_row).bidder (list_lines T R (refused r)) ≡ row_for (refused r) i
  unfolding list_lines row_for
  refusal_shown i r = refused_row (get_or R i no_row).bidder (bidder_small T R W rules i) r

  outcome_shown : (o : Outcome) (i : ℕ) → o ≡ given → i < length R
      → row_shown (get_or R i no_row).bidder (list_lines T R o) ≡ row_for o i
  outcome_shown (awarded rows totals) i e l = awarded_shown rows totals i e l
  outcome_shown (refused r) i e l = refusal_shown i r

pub list_shows : (l : ListCall) (T : Tender) (R : List Row) (W : List Window) (i : ℕ) → 0 < l.answer
    → read_text l.text ≡ accepted T R W → i < length R →
    row_shown (get_or R i no_row).bidder (shown l) ≡ row_for (award_of T.kind T (length R) (flat_rows R) (flat_windows W) (length R)) i
unfolding list_of
list_shows l T R W i a h k =
    ap (row_shown (get_or R i no_row).bidder) (listed_is l.promise a ∙ ap list_of h)
    ∙ outcome_shown T R W (rules_law T R W l.text h) (award_of T.kind T (length R) (flat_rows R) (flat_windows W) (length R)) i refl k

-- a text whose list shows no refusal of reading was accepted
data Accepted (text : List ℕ) : Type 0 where
  accepts : (T : Tender) (R : List Row) (W : List Window) → read_text text ≡ accepted T R W → Accepted text

given_read : (l : ListCall) → ListGiven l → Accepted l.text
unfolding list_of
given_read l g = go (read_text l.text) refl
  where
    go : (o : reading.ReadOutcome) → read_text l.text ≡ o → Accepted l.text
    go (accepted T R W) e = accepts T R W e
    go (reading.refused r) e = absurd (g.read (number_of r) (place_of r) (refusal_number l.text r e)
        (listed_is l.promise g.written ∙ ap list_of e ∙ refused_line_lem r))

-- Two calls of `tender_list`.
module _ (l l' : ListCall) (bidder p q : List ℕ) (g : ListGiven l) (g' : ListGiven l') where
  by : (T T' : Tender) (R R' : List Row) (W W' : List Window) → read_text l.text ≡ accepted T R W
      → read_text l'.text ≡ accepted T' R' W' →
      right.NoGain R R' (flat_rows R ++ []) (flat_rows R' ++ []) (award_of T.kind T (length R) (flat_rows R) (flat_windows W) (length R))
      (award_of T'.kind T' (length R') (flat_rows R') (flat_windows W') (length R')) bidder p q
      → NoGainShown l l' bidder p
  by T T' R R' W W' h h' k =
      let b = (get_or R k.i no_row).bidder in
      let c = named (flat_rows R ++ []) k.i in
      let n : (get_or R' k.i no_row).bidder ≡ b = cc (k.bidder_is, k.bidder_too) in
      let s = list_shows l T R W k.i g.written h k.inside in
      let s' = ap (λ n. row_shown n (shown l')) (sym n)
      ∙ list_shows l' T' R' W' k.i g'.written h' (omega (arith, k.inside, k.count)) in
      record { number = b; cost = c; bidder_is = k.bidder_is; true_cost = k.true_cost; most = rw (s, s') k.most }

  pub withheld_shown : (ws vs : List ℕ) → DifferInBid l.text l'.text bidder p q ws vs
      → PartOf (windows_by vs) (windows_by ws) → NoGainShown l l' bidder p
  withheld_shown ws vs d part = go (given_read l g) (given_read l' g')
    where
      go : Accepted l.text → Accepted l'.text → NoGainShown l l' bidder p
      go (accepts T R W h) (accepts T' R' W' h') =
          let m = bid_law l.text l'.text bidder p q ws vs T T' R R' W W' d h h' in
          by T T' R R' W W' h h'
          (withheld_texts l.text l'.text bidder p q ws vs T T' R R' W W' d part h h' T.kind [] [] [] [] (length R)
          (length R')
          (award_of T.kind T (length R) (flat_rows R) (flat_windows W) (length R))
          (award_of T'.kind T' (length R') (flat_rows R') (flat_windows W') (length R'))
          (le-ltb (length R) (length R) (omega arith) ∙ sym (le-ltb (length R') (length R') (omega arith)))
          (rw (append-nil (flat_rows R), append-nil (flat_windows W)) refl)
          (rw (append-nil (flat_rows R'), append-nil (flat_windows W'), m.tenders) refl))

  -- with the same windows: all the minutes
  pub no_gain_shown : DifferInPrice l.text l'.text bidder p q → NoGainShown l l' bidder p
  no_gain_shown d = go (given_read l g)
    where
      go : Accepted l.text → NoGainShown l l' bidder p
      go (accepts T R W h) =
          let m = price_as_bid l.text l'.text bidder p q T R W d h in
          withheld_shown m.ws m.ws m.differ (λ minute h. h)
