-- Two texts that are alike in all but one bidder's price (paper 01, "Time, price and place"), or in all but one bidder's price and windows
-- (paper 02, request 7).
use Rattle.std.specs.Prelude.{◌≡◌, List, [], ◌∷◌, ◌++◌, false, ℕ}
use Rattle.std.proofs.Math.Option.{Option, none, some}
use Rattle.tender.specs.declared.Window.{Window}
use Rattle.tender.specs.Keywords.{bid_word}
use Rattle.reader_parts.specs.Words.{cut, among}
use Rattle.reader_forms.specs.Line.{windows_in}

-- a bid's line up to its price, the price, and a space before what follows
unfoldable pub bid_line : List ℕ → List ℕ → List ℕ → List ℕ
unfolding bid_word
bid_line bidder p after = (40 ∷ bid_word) ++ 32 ∷ (bidder ++ 32 ∷ (p ++ 32 ∷ after))

-- neither a space nor a byte 10
pub record Word (w : List ℕ) : Type 0 where
  pub no_space : among 32 w ≡ false
  pub no_end : among 10 w ≡ false

-- the two texts differ in how the price of this bidder is written, p or q, and nowhere else
pub record DifferInPrice (t u bidder p q : List ℕ) : Type 0 where
  pub before : List ℕ
  pub after : List ℕ
  pub left : t ≡ before ++ 10 ∷ bid_line bidder p after
  pub right : u ≡ before ++ 10 ∷ bid_line bidder q after
  pub bidder_word : Word bidder
  pub p_word : Word p
  pub q_word : Word q

-- the two texts differ in how the price and the windows of this bidder are written, p and ws or q and vs, and nowhere else; what is
-- written ws ends the bid's line
pub record DifferInBid (t u bidder p q ws vs : List ℕ) : Type 0 where
  pub before : List ℕ
  pub after : List ℕ
  pub left : t ≡ before ++ 10 ∷ bid_line bidder p (ws ++ 10 ∷ after)
  pub right : u ≡ before ++ 10 ∷ bid_line bidder q (vs ++ 10 ∷ after)
  pub bidder_word : Word bidder
  pub p_word : Word p
  pub q_word : Word q
  pub ws_line : among 10 ws ≡ false
  pub vs_line : among 10 vs ≡ false

abbrev pub those_in : Option (List Window) → List Window
those_in none = []
those_in (some ws) = ws

-- the windows that are written so; none where no windows are
unfoldable pub windows_by : List ℕ → List Window
unfolding cut windows_in
windows_by ws = those_in (windows_in (cut 32 ws))
