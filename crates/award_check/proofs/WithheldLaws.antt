-- The tables of two accepted texts that differ in one bid's price and windows: where the second windows hold part of the minutes, that
-- bid alone offers another price and part of its minutes, wherever its windows stand. Assumes nothing.
use Rattle.std.specs.Prelude.{◌≡◌, refl, List, [], ◌∷◌, ◌++◌, map, ℕ, zero, suc, ◌+◌, ◌*◌, ◌<◌, length}
use Rattle.std.specs.Prelude.{get_or, drop}
use Rattle.std.proofs.Math.Path.{sym, ap}
use Rattle.std.proofs.Common.{◌∙◌, append_assoc, append-nil, arith, length-append}
use Rattle.std.proofs.Math.Option.{some}
use Rattle.std.proofs.lemmas.List.{length-map}
use Rattle.std.proofs.Math.ListN.{get_or-map}
use Rattle.std.proofs.Math.Seq.{get_or-append_seam}
use Rattle.tender.specs.declared.Window.{Window}
use Rattle.tender.specs.declared.Tender.{Tender}
use Rattle.tender.specs.Tables.{Row, windows_of, own, flat_rows, flat_windows, bid_width}
use Rattle.reader_forms.specs.Line.{BidLine}
use Rattle.reader_text.specs.Words.{numeral_of, price_of}
use Rattle.reader_text.specs.Read.{rows_from, all_windows}
use Rattle.reader_text.specs.Differ.{windows_by}
use Rattle.reader_text.proofs.RulesLaws.{rows_from_length}
use Rattle.reader_text.proofs.BidLaws.{DifferInOneBid, windows_by_lem}
use Rattle.award_check.specs.Cells.{holds, no_row, bid_row_at}
use Rattle.award_check.specs.Auction.{Offer, no_offer, offered}
use Rattle.award_check.specs.Alike.{PartOf, offer_at, Withheld}
use Rattle.award_check.proofs.AlikeLaws.{row_named}
use Rattle.award_check.proofs.TextLaws.{rows_flat, drop_flat}
use Rattle.award_check.proofs.AuctionLaws.{map_append}

-- what a bid's line offers
abbrev offer_of : BidLine → Offer
offer_of b = record { price = b.price; windows = b.windows }

windows_flat : (ws rest : List Window) (v : List ℕ) → windows_of (length ws) (flat_windows (ws ++ rest) ++ v) ≡ ws
unfolding windows_of flat_windows
windows_flat [] rest v = refl
windows_flat (w ∷ ws) rest v = ap (λ l. w ∷ l) (windows_flat ws rest v)

drop_before : {A : Type 0} (xs ys : List A) → drop (length xs) (xs ++ ys) ≡ ys
drop_before [] ys = refl
drop_before (x ∷ xs) ys = drop_before xs ys

-- the rows of bids whose windows stand after others offer what the bids do
offers_flat : (pre : List Window) (bs : List BidLine) (v : List ℕ)
    → map (offered (flat_windows (pre ++ all_windows bs) ++ v)) (rows_from (length pre) bs) ≡ map offer_of bs
unfolding offered own rows_from all_windows
offers_flat pre [] v = refl
offers_flat pre (b ∷ bs) v =
    let all = pre ++ (b.windows ++ all_windows bs) in
    let d = drop_flat (length pre) all v (omega (arith, length-append pre (b.windows ++ all_windows bs)))
    ∙ ap (λ l. flat_windows l ++ v) (drop_before pre (b.windows ++ all_windows bs)) in
    let e = ap (windows_of (length b.windows)) d ∙ windows_flat b.windows (all_windows bs) v in
    let later = ap (λ l. map (offered (flat_windows l ++ v)) (rows_from (length pre + length b.windows) bs))
    (sym (append_assoc pre b.windows (all_windows bs)))
    ∙ ap (λ at. map (offered (flat_windows ((pre ++ b.windows) ++ all_windows bs) ++ v)) (rows_from at bs))
    (sym (length-append pre b.windows))
    ∙ offers_flat (pre ++ b.windows) bs v in
    ap (λ ws. record { price = b.price; windows = ws }
    ∷ map (offered (flat_windows all ++ v)) (rows_from (length pre + length b.windows) bs)) e
    ∙ ap (λ os. offer_of b ∷ os) later

-- the row of a bid after others
record RowOf (b : BidLine) (r : Row) : Type 0 where
  bidder : r.bidder ≡ b.bidder
  price : r.price ≡ b.price

row_of : (at : ℕ) (xs : List BidLine) (b : BidLine) (ys : List BidLine)
    → RowOf b (get_or (rows_from at (xs ++ b ∷ ys)) (length xs) no_row)
unfolding rows_from
row_of at [] b ys = record { bidder = refl; price = refl }
row_of at (x ∷ xs) b ys = row_of (at + length x.windows) xs b ys

-- only what stands there is another
but_there : {A : Type 0} (xs : List A) (x y : A) (ys : List A) (d : A) (j : ℕ) → (j ≡ length xs → ⊥)
    → get_or (xs ++ x ∷ ys) j d ≡ get_or (xs ++ y ∷ ys) j d
but_there [] x y ys d zero n = absurd (n refl)
but_there [] x y ys d (suc j) n = refl
but_there (z ∷ xs) x y ys d zero n = refl
but_there (z ∷ xs) x y ys d (suc j) n = but_there xs x y ys d j (λ e. n (ap suc e))

-- row j of the tables that hold the rows R and their windows
module _ (R : List Row) (v : List ℕ) where
  row_flat : (j : ℕ) → j < length R → bid_row_at (flat_rows R ++ v) j ≡ get_or R j no_row
  row_flat j l = sym (row_named (length R) j (flat_rows R ++ v) l) ∙ ap (λ rs. get_or rs j no_row) (rows_flat R v)

  offer_flat : (windows : List ℕ) (j : ℕ) → j < length R
      → offer_at (flat_rows R ++ v) windows j ≡ get_or (map (offered windows) R) j no_offer
  unfolding offered own windows_of no_row no_offer
  offer_flat windows j l = ap (offered windows) (row_flat j l) ∙ sym (get_or-map (offered windows) R j no_row)

-- the tables that two accepted texts fill, whatever stands past their rows
pub record Tabled (R S : List Row) (W X : List Window) (v w v' w' bidder p q : List ℕ) : Type 0 where
  pub i : ℕ
  pub inside : i < length R
  pub count : length S ≡ length R
  pub bidder_is : numeral_of bidder ≡ some (get_or R i no_row).bidder
  pub bidder_too : numeral_of bidder ≡ some (get_or S i no_row).bidder
  pub named_p : price_of p ≡ some (get_or (flat_rows R ++ v) (bid_width * i + 1) 0)
  pub named_q : price_of q ≡ some (get_or (flat_rows S ++ v') (bid_width * i + 1) 0)
  pub withheld : Withheld (length R) i (flat_rows R ++ v) (flat_windows W ++ w) (flat_rows S ++ v') (flat_windows X ++ w')

-- one of the texts: the bid b on its line, between others
record OnLine (R : List Row) (W : List Window) (v w : List ℕ) (xs : List BidLine) (b : BidLine) (ys : List BidLine) : Type 0 where
  count : length R ≡ length xs + suc (length ys)
  bidder : (get_or R (length xs) no_row).bidder ≡ b.bidder
  price : get_or (flat_rows R ++ v) (bid_width * length xs + 1) 0 ≡ b.price
  offers : (j : ℕ) → j < length R
      → offer_at (flat_rows R ++ v) (flat_windows W ++ w) j ≡ get_or (map offer_of xs ++ offer_of b ∷ map offer_of ys) j no_offer

on_line : (R : List Row) (W : List Window) (v w : List ℕ) (xs : List BidLine) (b : BidLine) (ys : List BidLine)
    → R ≡ rows_from 0 (xs ++ b ∷ ys) → W ≡ all_windows (xs ++ b ∷ ys) → OnLine R W v w xs b ys
on_line R W v w xs b ys rows windows = record {
  count = count;
  bidder = row.bidder;
  price = ap (λ (r : Row). r.price) (row_flat R v (length xs) (omega (arith, count))) ∙ row.price;
  offers = λ j l. offer_flat R v (flat_windows W ++ w) j l
      ∙ ap (λ os. get_or os j no_offer) (all ∙ map_append offer_of xs (b ∷ ys));
}
  where
    all : map (offered (flat_windows W ++ w)) R ≡ map offer_of (xs ++ b ∷ ys)
    all = rw (rows, windows) (offers_flat [] (xs ++ b ∷ ys) w)

    count : length R ≡ length xs + suc (length ys)
    count = ap length rows ∙ rows_from_length 0 (xs ++ b ∷ ys) ∙ length-append xs (b ∷ ys)

    row : RowOf b (get_or R (length xs) no_row)
    row = rw rows (row_of 0 xs b ys)

-- the offer that stands there
offer_there : {R : List Row} {W : List Window} {v w : List ℕ} {xs : List BidLine} {b : BidLine} {ys : List BidLine} →
    OnLine R W v w xs b ys → offer_at (flat_rows R ++ v) (flat_windows W ++ w) (length xs) ≡ offer_of b
offer_there {xs = xs} {b = b} {ys = ys} o = o.offers (length xs) (omega (arith, o.count))
    ∙ ap (λ (j : ℕ). get_or (map offer_of xs ++ offer_of b ∷ map offer_of ys) j no_offer) (sym (length-map xs offer_of))
    ∙ get_or-append_seam (map offer_of xs) (offer_of b) (map offer_of ys) no_offer

-- the row of the first bid: its windows are those that the text writes
pub record RowWritten (R : List Row) (W : List Window) (bidder ws : List ℕ) : Type 0 where
  pub i : ℕ
  pub inside : i < length R
  pub bidder_is : numeral_of bidder ≡ some (get_or R i no_row).bidder
  pub windows_are : windows_by ws ≡ own (flat_windows W) (get_or R i no_row)

pub row_written : {T U : Tender} {R S : List Row} {W X : List Window} {n p q : List ℕ} (ws vs : List ℕ)
    → DifferInOneBid T U R S W X n p q ws vs → RowWritten R W n ws
unfolding offered
row_written {R = R} {W = W} ws vs d =
    let o = on_line R W [] [] d.before d.b d.after d.rows d.windows in
    let l : length d.before < length R = omega (arith, o.count) in
    record {
      i = length d.before;
      inside = l;
      bidder_is = d.first.bidder_is ∙ ap some (sym o.bidder);
      windows_are = windows_by_lem ws d.first ∙ sym (ap (λ (o : Offer). o.windows) (offer_there o))
          ∙ ap (own (flat_windows W ++ [])) (row_flat R [] (length d.before) l)
          ∙ ap (λ w. own w (get_or R (length d.before) no_row)) (append-nil (flat_windows W));
    }

pub tabled : (T U : Tender) (R S : List Row) (W X : List Window) (v w v' w' n p q ws vs : List ℕ)
    → DifferInOneBid T U R S W X n p q ws vs → PartOf (windows_by vs) (windows_by ws) → Tabled R S W X v w v' w' n p q
tabled T U R S W X v w v' w' n p q ws vs d part = record {
  i = i;
  inside = omega (arith, one.count);
  count = omega (arith, one.count, two.count);
  bidder_is = d.first.bidder_is ∙ ap some (sym one.bidder);
  bidder_too = d.second.bidder_is ∙ ap some (sym two.bidder);
  named_p = d.first.price_is ∙ ap some (sym one.price);
  named_q = d.second.price_is ∙ ap some (sym two.price);
  withheld = record {
    others = λ j l e. two.offers j (omega (arith, one.count, two.count))
        ∙ but_there (map offer_of d.before) (offer_of d.c) (offer_of d.b) (map offer_of d.after) no_offer j
        (λ z. e (z ∙ length-map d.before offer_of))
        ∙ sym (one.offers j l);
    part = λ m e. ap (λ (o : Offer). holds o.windows m) (offer_there one) ∙ ap (λ l. holds l m) (sym (windows_by_lem ws d.first))
        ∙ part m (ap (λ l. holds l m) (windows_by_lem vs d.second)
        ∙ sym (ap (λ (o : Offer). holds o.windows m) (offer_there two)) ∙ e);
  };
}
  where
    i : ℕ
    i = length d.before

    one : OnLine R W v w d.before d.b d.after
    one = on_line R W v w d.before d.b d.after d.rows d.windows

    two : OnLine S X v' w' d.before d.c d.after
    two = on_line S X v' w' d.before d.c d.after d.rows_too d.windows_too
