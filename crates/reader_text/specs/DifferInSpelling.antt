-- Two texts that differ only in how prices are spelt (paper 02, paper 6).
use Rattle.std.specs.Prelude.{◌≡◌, List, [], ◌∷◌, ◌++◌, ℕ, ◌≤◌, length}
use Rattle.tender.specs.Keywords.{reserve_word}
use Rattle.tender.specs.Limits.{max_text}
use Rattle.reader_parts.specs.Words.{cut, price_of}
use Rattle.reader_text.specs.Differ.{bid_line, Word}

-- the reserve's line, its price written as the word p
unfoldable pub reserve_line : List ℕ → List ℕ
unfolding reserve_word
reserve_line p = (40 ∷ reserve_word) ++ 32 ∷ (p ++ 41 ∷ [])

-- two spellings of one line: the same bytes, or a price written by two words of one value, or of none
pub data SameLine (l m : List ℕ) : Type 0 where
  same_bytes : l ≡ m → SameLine l m
  bid_spelt : (bidder p q after : List ℕ) → Word bidder → Word p → Word q → price_of p ≡ price_of q
      → l ≡ bid_line bidder p after → m ≡ bid_line bidder q after → SameLine l m
  reserve_spelt : (p q : List ℕ) → Word p → Word q → price_of p ≡ price_of q → l ≡ reserve_line p → m ≡ reserve_line q
      → SameLine l m

-- one by one
abbrev pub SameLines : List (List ℕ) → List (List ℕ) → Type 0
SameLines [] [] = Unit {0}
SameLines [] (m ∷ ms) = ⊥
SameLines (l ∷ ls) [] = ⊥
SameLines (l ∷ ls) (m ∷ ms) = SameLine l m × SameLines ls ms

-- the bytes between bytes 10 are the same lines, and neither text is too long
pub record DifferInSpelling (t u : List ℕ) : Type 0 where
  pub lines : SameLines (cut 10 t) (cut 10 u)
  pub left_short : length t ≤ max_text
  pub right_short : length u ≤ max_text
