-- Each bid of an accepted text can be given another price as demand 3 says: a text that differs in that price alone. Assumes nothing.
use Rattle.std.specs.Prelude.{◌≡◌, refl, List, [], ◌∷◌, ◌++◌, map, ℕ, zero, suc, ◌+◌, ◌≤◌, ◌<◌, length}
use Rattle.std.specs.Prelude.{get_or}
use Rattle.std.specs.Prelude.{Some, None}
use Rattle.std.proofs.Common.{sym, ap, subst, ◌∙◌, append_assoc, append-nil, arith}
use Rattle.std.proofs.Math.Option.{some}
use Rattle.tender.specs.declared.Kind.{Kind}
use Rattle.tender.specs.declared.Window.{Window}
use Rattle.tender.specs.Types.{Reserve}
use Rattle.tender.specs.declared.Tender.{Tender}
use Rattle.tender.specs.Keywords.{bytes, bid_word, reserve_word}
use Rattle.tender.specs.Tables.{Row, flat_windows}
use Rattle.reader_parts.specs.Words.{price_of}
use Rattle.reader_parts.proofs.PriceFrontLaws.{price_without}
use Rattle.reader_forms.specs.Line.{BidLine}
use Rattle.reader_text.specs.Read.{accepted, read_text}
use Rattle.reader_text.specs.Rules.{RowsRules}
use Rattle.reader_text.proofs.RulesLaws.{rules_law}
use Rattle.reader_text.proofs.BidChangeLaws.{price_change}
use Rattle.reader_text.specs.Differ.{bid_line, Word, DifferInPrice}
use Rattle.award_check.specs.Cells.{no_row}
use Rattle.spelling.specs.Decimal.{decimal}
use Rattle.spelling.proofs.DecimalLaws.{decimal_plain}
use Rattle.spelling.specs.Lines.{closing}
use Rattle.spelling.specs.Text.{window_text, windows_text, bid_text_as, tender_text, bid_in}
use Rattle.spelling.specs.Spelt.{SpeltBids, SpeltReserve}
use Rattle.spelling.proofs.WordLaws.{spaced, tender_words, one_words, tender_line_lem, one_line_lem}
use Rattle.writer_text.proofs.RowLaws.{own_length}
use Rattle.writer_back.specs.SpeltLaws.{spelt_again}
use Rattle.theorems.specs.Between.{Variant}

-- words

number_word : (n : ℕ) → Word (decimal n)
number_word n = record { no_space = decimal_plain 32 n (omega arith); no_end = decimal_plain 10 n (omega arith) }

price_word : (p : List ℕ) (v : ℕ) → price_of p ≡ some v → Word p
price_word p v e = record { no_space = price_without 32 p v (omega arith) e; no_end = price_without 10 p v (omega arith) e }

-- lines end with a byte 10
record Ends (s : List ℕ) : Type 0 where
  but_last : List ℕ
  are : s ≡ but_last ++ 10 ∷ []

ends_after : (a s : List ℕ) → Ends s → Ends (a ++ s)
ends_after a s e = record {
  but_last = a ++ e.but_last;
  are = ap (λ r. a ++ r) e.are ∙ sym (append_assoc a e.but_last (10 ∷ []));
}

bid_ends : (p : List ℕ) (b : BidLine) → Ends (bid_text_as p b)
unfolding bid_text_as bytes closing
bid_ends p b = record {
  but_last = bytes "(bid " ++ (decimal b.bidder ++ (32 ∷ (p ++ (windows_text b.windows ++ 41 ∷ []))));
  are = simp append_assoc;
}

head_ends : (t : Tender) (r : Reserve) (s : List ℕ) → SpeltReserve s r → Ends (tender_text t ++ s)
head_ends t None s e =
    rw (e, append-nil (tender_text t)) (record { but_last = spaced (tender_words t); are = tender_line_lem t })
head_ends t (Some v) s (p, h, e) = ends_after (tender_text t) s
    (record { but_last = spaced (one_words reserve_word p); are = e ∙ one_line_lem reserve_word p })

-- the text up to a row's line, and from its price on
record Parted (text : List ℕ) (r : Row) : Type 0 where
  head : List ℕ
  p : List ℕ
  tail : List ℕ
  priced : price_of p ≡ some r.price
  is : text ≡ head ++ 10 ∷ bid_line (decimal r.bidder) p tail

line_more : (n p a s : List ℕ) → bid_line n p a ++ s ≡ bid_line n p (a ++ s)
unfolding bid_line bid_word bytes
line_more n p a s = ap (λ r. 40 ∷ 98 ∷ 105 ∷ 100 ∷ 32 ∷ r)
    (append_assoc n (32 ∷ (p ++ 32 ∷ a)) s ∙ ap (λ r. n ++ 32 ∷ r) (append_assoc p (32 ∷ a) s))

-- a bid's line, with a window, from its price on
line_parts : (p : List ℕ) (b : BidLine) (rest : List ℕ) → 1 ≤ length b.windows
    → (tail : List ℕ) × (bid_text_as p b ++ rest ≡ bid_line (decimal b.bidder) p tail)
unfolding bid_text_as windows_text window_text bid_line bid_word bytes
line_parts p b rest l = go b.windows refl l
  where
    go : (ws : List Window) → b.windows ≡ ws → 1 ≤ length ws
        → (tail : List ℕ) × (bid_text_as p b ++ rest ≡ bid_line (decimal b.bidder) p tail)
    go [] e l = absurd (omega arith)
    go (w ∷ ws) e l =
        let after = 40 ∷ (decimal w.start ++ 32 ∷ (decimal w.end ++ 41 ∷ [])) ++ windows_text ws ++ closing in
        (after ++ rest, rw e (line_more (decimal b.bidder) p after rest))

-- bytes that end with byte 10 before the lines of the rows
parted : (k : Kind) (used : List ℕ) (at : ℕ) (cells : List ℕ) (R : List Row) (end i : ℕ) (a s : List ℕ)
    → RowsRules k used at R end → Ends a → SpeltBids s (map (bid_in cells) R) → i < length R → Parted (a ++ s) (get_or R i no_row)
unfolding bid_in
parted k used at cells [] end i a s h e m l = absurd (omega arith)
parted k used at cells (r ∷ R) end zero a s (h, hs) e (p, rest, v, q, m) l =
    let t = line_parts p (bid_in cells r) rest (omega (arith, own_length cells r, h.some_window)) in
    record {
      head = e.but_last;
      p = p;
      tail = t.0;
      priced = v;
      is = ap (λ x. a ++ x) (q ∙ t.1) ∙ ap (λ x. x ++ bid_line (decimal r.bidder) p t.0) e.are
          ∙ append_assoc e.but_last (10 ∷ []) (bid_line (decimal r.bidder) p t.0);
    }
parted k used at cells (r ∷ R) end (suc i) a s (h, hs) e (p, rest, v, q, m) l =
    let b = bid_text_as p (bid_in cells r) in
    let f : (a ++ b) ++ rest ≡ a ++ s = append_assoc a b rest ∙ ap (λ x. a ++ x) (sym q) in
    subst (λ x. Parted x (get_or R i no_row)) f
    (parted k (used ++ r.bidder ∷ []) (at + r.count) cells R end i (a ++ b) rest hs (ends_after a b (bid_ends p (bid_in cells r))) m
    (omega arith))

pub varied : (text : List ℕ) (T : Tender) (R : List Row) (W : List Window) → read_text text ≡ accepted T R W → (i : ℕ)
    → i < length R
    → (q : List ℕ) → Word q → Variant text T R W i q
varied text T R W h i l q wq =
    let s = spelt_again text T R W h in
    let e = head_ends T T.reserve s.reserve s.reserve_is in
    let f : (tender_text T ++ s.reserve) ++ s.bids ≡ text = append_assoc (tender_text T) s.reserve s.bids ∙ sym s.is in
    made (subst (λ x. Parted x r) f (parted T.kind [] 0 (flat_windows W) R (length W) i (tender_text T ++ s.reserve) s.bids
    (rules_law T R W text h).rows e s.bids_are l))
  where
    r : Row
    r = get_or R i no_row

    made : Parted text r → Variant text T R W i q
    made a = record {
      other = other;
      p = a.p;
      is = a.priced;
      differ = differ;
      accepted_too = λ v e m k. price_change text other _ _ q v T R W differ h e m k;
    }
      where
        other : List ℕ
        other = a.head ++ 10 ∷ bid_line (decimal r.bidder) q a.tail

        differ : DifferInPrice text other (decimal r.bidder) a.p q
        differ = record {
          before = a.head;
          after = a.tail;
          left = a.is;
          right = refl;
          bidder_word = number_word r.bidder;
          p_word = price_word a.p r.price a.priced;
          q_word = wq;
        }
