-- A bid text up to the spelling of its prices: each price is written by some word that is read as it, all else is spelt in one way.
use Rattle.std.specs.Prelude.{◌≡◌, List, [], ◌∷◌, ◌++◌, ℕ, Some, None}
use Rattle.std.proofs.Math.Option.{some}
use Rattle.tender.specs.Types.{Reserve}
use Rattle.tender.specs.declared.Tender.{Tender}
use Rattle.tender.specs.Keywords.{reserve_word}
use Rattle.reader_parts.specs.Words.{price_of}
use Rattle.reader_forms.specs.Line.{BidLine}
use Rattle.spelling.specs.Lines.{one_line_as}
use Rattle.spelling.specs.Text.{bid_text_as, tender_text}

-- a line for each bid, its price written by a word that is read as it
abbrev pub SpeltBids : List ℕ → List BidLine → Type 0
SpeltBids s [] = s ≡ []
SpeltBids s (b ∷ bs) =
    (p : List ℕ) × (rest : List ℕ) × (price_of p ≡ some b.price) × (s ≡ bid_text_as p b ++ rest) × SpeltBids rest bs

-- the reserve's line, where there is one, its price written so too
abbrev pub SpeltReserve : List ℕ → Reserve → Type 0
SpeltReserve s None = s ≡ []
SpeltReserve s (Some v) = (p : List ℕ) × (price_of p ≡ some v) × (s ≡ one_line_as reserve_word p)

-- the text of a tender and its bids, up to the spelling of prices
pub record Spelt (text : List ℕ) (t : Tender) (bs : List BidLine) : Type 0 where
  pub reserve : List ℕ
  pub bids : List ℕ
  pub is : text ≡ tender_text t ++ (reserve ++ bids)
  pub reserve_is : SpeltReserve reserve t.reserve
  pub bids_are : SpeltBids bids bs
