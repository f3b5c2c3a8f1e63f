-- Each bid of an accepted text can be given another price and other windows: a text that differs in that bid alone. Assumes nothing.
use Rattle.std.specs.Prelude.{◌≡◌, refl, Bool, true, false, List, ◌∷◌, ◌++◌, ℕ, ◌<◌, length, get_or, eqb}
use Rattle.std.proofs.Common.{ap, ◌∙◌, eqb-true}
use Rattle.std.proofs.lemmas.Bool.{eqb-false}
use Rattle.tender.specs.declared.Window.{Window}
use Rattle.tender.specs.declared.Tender.{Tender}
use Rattle.tender.specs.Tables.{Row, own, flat_windows}
use Rattle.reader_parts.specs.Words.{among}
use Rattle.reader_text.specs.Read.{accepted, read_text}
use Rattle.reader_text.proofs.RulesLaws.{rules_law}
use Rattle.reader_text.specs.Differ.{bid_line, Word, DifferInBid, windows_by}
use Rattle.reader_text.proofs.BidLaws.{bid_law, price_as_bid}
use Rattle.reader_text.proofs.BidChangeLaws.{bid_change}
use Rattle.award_check.specs.Cells.{no_row}
use Rattle.award_check.proofs.WithheldLaws.{RowWritten, row_written}
use Rattle.spelling.specs.Decimal.{decimal}
use Rattle.spelling.proofs.DecimalLaws.{numeral_decimal}
use Rattle.theorems.specs.Between.{BidVariant}
use Rattle.theorems.proofs.PaidLaws.{bidder_once, bidder_low}
use Rattle.theorems.proofs.VariedLaws.{varied}

module _ (text : List ℕ) (T : Tender) (R : List Row) (W : List Window) (h : read_text text ≡ accepted T R W) (i : ℕ)
    (l : i < length R) where
  abbrev n : List ℕ
  n = decimal (get_or R i no_row).bidder

  -- what is written for the windows of this bidder are those of row i
  own_written : (p ws : List ℕ) → DifferInBid text text n p p ws ws → windows_by ws ≡ own (flat_windows W) (get_or R i no_row)
  own_written p ws d = t.windows_are ∙ ap (λ j. own (flat_windows W) (get_or R j no_row)) (go (eqb t.i i) refl)
    where
      t : RowWritten R W n ws
      t = row_written ws ws (bid_law text text n p p ws ws T T R R W W d h h)

      same : (get_or R t.i no_row).bidder ≡ (get_or R i no_row).bidder
      same = cc (t.bidder_is, numeral_decimal (get_or R i no_row).bidder (bidder_low T R W (rules_law T R W text h) i))

      go : (b : Bool) → eqb t.i i ≡ b → t.i ≡ i
      go true e = eqb-true t.i i e
      go false e = absurd (bidder_once T R W (rules_law T R W text h) i t.i l t.inside (eqb-false t.i i e) same)

  pub varied_bid : (q vs : List ℕ) → Word q → among 10 vs ≡ false → BidVariant text T R W i q vs
  varied_bid q vs wq lv =
      let a = varied text T R W h i l q wq in
      let m = price_as_bid text a.other n a.p q T R W a.differ h in
      let d = m.differ in
      let other = d.before ++ 10 ∷ bid_line n q (vs ++ 10 ∷ d.after) in
      let differ : DifferInBid text other n a.p q m.ws vs = record {
        before = d.before;
        after = d.after;
        left = d.left;
        right = refl;
        bidder_word = d.bidder_word;
        p_word = d.p_word;
        q_word = wq;
        ws_line = d.ws_line;
        vs_line = lv;
      } in
      let itself : DifferInBid text text n a.p a.p m.ws m.ws = record {
        before = d.before;
        after = d.after;
        left = d.left;
        right = d.left;
        bidder_word = d.bidder_word;
        p_word = d.p_word;
        q_word = d.p_word;
        ws_line = d.ws_line;
        vs_line = d.ws_line;
      } in
      record {
        other = other;
        p = a.p;
        ws = m.ws;
        price_is = a.is;
        windows_are = own_written a.p m.ws itself;
        differ = differ;
        accepted_too = λ v e u some few lawful short.
            bid_change text other n a.p q m.ws vs v T R W differ h e u some few lawful short;
      }
