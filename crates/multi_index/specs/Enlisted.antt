-- What the steps of entering bids in chains do: a node put in front of one chain, a bid entered, and a bid with a long run of whole words.
use Rattle.std.specs.Prelude.{◌≡◌, Bool, true, false, List, ℕ, ◌+◌, ◌*◌, ◌<◌, length}
use Rattle.cells.specs.Cells.{whole}
use Rattle.multi_keys.specs.Keys.{at}
use Rattle.multi_market.specs.Market.{word_row}
use Rattle.multi_index.specs.Index.{bid_at, next_at, mask_at, Lists, Chained}

-- node t, of bid i with the cells m, is in front of word q's chain; of the places before it only that of q's first node has changed
pub record Pushed (old : List ℕ) (q t i m : ℕ) (new : List ℕ) : Type 0 where
  pub head : next_at new q ≡ t
  pub bid : bid_at new t ≡ i
  pub mask : mask_at new t ≡ m
  pub next : next_at new t ≡ next_at old q
  pub others : (p : ℕ) → p < 2 * t → (p ≡ 2 * q → ⊥) → at new p ≡ at old p

-- what the words' chains list they list still
abbrev pub Kept : List ℕ → ℕ → List ℕ → ℕ → Type 0
Kept old top new top' = (q i m : ℕ) → q < 158 → Lists old top (next_at old q) i m → Lists new top' (next_at new q) i m

-- bid i is in the chain of each word where it has a cell, and no chain has lost a bid
pub record Enlisted (ms : List ℕ) (w i : ℕ) (old : List ℕ) (top : ℕ) (new : List ℕ) (top' : ℕ) : Type 0 where
  pub chained : Chained (i + 1) new top'
  pub kept : Kept old top new top'
  pub own : (q : ℕ) → q < w → (at (word_row ms w i) q ≡ 0 → ⊥) → Lists new top' (next_at new q) i (at (word_row ms w i) q)

-- the hops from word q on come to a whole word with three more right after it
pub data Wide : List ℕ → List ℕ → ℕ → Type 0 where
  here : {mask hop : List ℕ} {q : ℕ} → q < length mask → at mask q ≡ whole → q + 3 < at hop q → Wide mask hop q
  later : {mask hop : List ℕ} {q : ℕ} → q < length mask → Wide mask hop (at hop q) → Wide mask hop q

-- the answer is true where the hops come to such a word, and false where they do not
pub record SaysWide (mask hop : List ℕ) (r : Bool) : Type 0 where
  pub yes : r ≡ true → Wide mask hop 0
  pub no : r ≡ false → Wide mask hop 0 → ⊥
