-- With its prices in cents a text is no longer than in any other spelling of them. Assumes nothing.
use Rattle.std.specs.Prelude.{◌≡◌, List, [], ◌∷◌, ◌++◌, ℕ, ◌+◌, ◌≤◌, length, Some, None}
use Rattle.std.proofs.Common.{ap, arith, length-append}
use Rattle.tender.specs.Types.{Reserve}
use Rattle.tender.specs.declared.Tender.{Tender}
use Rattle.tender.specs.Keywords.{bytes, reserve_word}
use Rattle.reader_forms.specs.Line.{BidLine}
use Rattle.spelling.specs.Decimal.{decimal}
use Rattle.spelling.specs.Lines.{closing, one_line_as, one_line}
use Rattle.spelling.specs.Text.{windows_text, bid_text_as, bid_text, bids_text, tender_text, reserve_text, head_text, text_of}
use Rattle.spelling.specs.Spelt.{SpeltBids, SpeltReserve, Spelt}
use Rattle.spelling.proofs.PriceLaws.{price_short}

-- the bytes of a bid's line, by those of its price and its windows
pub bid_bytes : (p : List ℕ) (b : BidLine)
    → length (bid_text_as p b) ≡ length (decimal b.bidder) + length p + length (windows_text b.windows) + 8
unfolding bid_text_as bytes closing
bid_bytes p b = omega (
  arith,
  length-append (decimal b.bidder) (32 ∷ (p ++ (windows_text b.windows ++ 41 ∷ 10 ∷ []))),
  length-append p (windows_text b.windows ++ 41 ∷ 10 ∷ []),
  length-append (windows_text b.windows) (41 ∷ 10 ∷ []),
)

bids_short : (s : List ℕ) (bs : List BidLine) → SpeltBids s bs → length (bids_text bs) ≤ length s
unfolding bids_text bid_text
bids_short s [] e = omega (arith, ap length e)
bids_short s (b ∷ bs) (p, rest, v, e, more) = omega (
  arith,
  ap length e,
  length-append (bid_text_as p b) rest,
  length-append (bid_text b) (bids_text bs),
  bid_bytes p b,
  bid_bytes (decimal b.price) b,
  price_short p b.price v,
  bids_short rest bs more,
)

-- the bytes of a line of two words
one_bytes : (word p : List ℕ) → length (one_line_as word p) ≡ length word + length p + 4
unfolding closing bytes
one_bytes word p = omega (
  arith,
  length-append (40 ∷ word) (32 ∷ p),
  length-append (40 ∷ word ++ 32 ∷ p) (41 ∷ 10 ∷ []),
)

reserve_short : (s : List ℕ) (r : Reserve) → SpeltReserve s r → length (reserve_text r) ≤ length s
unfolding reserve_text one_line
reserve_short s None e = omega (arith, ap length e)
reserve_short s (Some v) (p, h, e) =
    omega (arith, ap length e, one_bytes reserve_word p, one_bytes reserve_word (decimal v), price_short p v h)

pub spelt_short : (text : List ℕ) (t : Tender) (bs : List BidLine) → Spelt text t bs → length (text_of t bs) ≤ length text
unfolding text_of head_text
spelt_short text t bs s = omega (
  arith,
  ap length s.is,
  length-append (tender_text t) (s.reserve ++ s.bids),
  length-append s.reserve s.bids,
  length-append (tender_text t ++ reserve_text t.reserve) (bids_text bs),
  length-append (tender_text t) (reserve_text t.reserve),
  reserve_short s.reserve t.reserve s.reserve_is,
  bids_short s.bids bs s.bids_are,
)
