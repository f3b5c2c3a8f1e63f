-- Whether each cell has two bidders: the earliest cell in no bid, else the earliest in one bid alone, else neither.
use Rattle.std.specs.Prelude.{◌≡◌, Bool, true, false, List, ℕ, ◌+◌, ◌*◌, ◌≤◌, ◌<◌, length, get_or, leb, ltb}
use Rattle.std.specs.Prelude.{Option, Some, None, Result, Ok, Err}
use Rattle.cells.specs.Cells.{bit_of, cell}
use Rattle.cover.specs.Sets.{when, nothing, found, bidders}
use Rattle.cover.specs.Earliest.{cell_with}
use Rattle.multi_market.specs.Market.{has}
use Rattle.award_thin.specs.declared.Thin.{Thin}
use Rattle.award_thin.specs.declared.Thin.TheVariants.{Nobody, Alone}

-- what asking the cells answers
abbrev pub Asked : Type 0
Asked = Result Unit Thin

abbrev pub Says : (ℕ → ℕ → Bool) → ℕ → ℕ → Asked → Type 0
Says has n L (Err (Nobody x)) = cell_with has n L 0 ≡ found x
Says has n L (Err (Alone x)) = (cell_with has n L 0 ≡ nothing) × (cell_with has n L 1 ≡ found x)
Says has n L (Ok u) = (cell_with has n L 0 ≡ nothing) × (cell_with has n L 1 ≡ nothing)

-- n windows, each from a start to an end that is no earlier and within L cells
pub record Spans (starts ends : List ℕ) (L : ℕ) : Type 0 where
  pub same : length ends ≡ length starts
  pub few : length starts ≤ 1000
  pub ordered : (i : ℕ) → get_or starts i 0 ≤ get_or ends i 0
  pub inside : (i : ℕ) → get_or ends i 0 ≤ L

-- the cell x has fewer than m bidders
unfoldable pub fewer : (ℕ → ℕ → Bool) → ℕ → ℕ → ℕ → Bool
unfolding bidders
fewer has n m x = ltb (bidders has n x) m

-- the bits of r say which cells of word q have two bidders or more, of those wanted
pub record Reached (ms : List ℕ) (w n q wanted r : ℕ) : Type 0 where
  pub each : (k : ℕ) → k < 64 → bit_of wanted k ≡ 1 → bit_of r k ≡ when (leb 2 (bidders (has ms w) n (64 * q + k))) 1

-- the cells of the first words of `enough` are those with two bidders or more, of those wanted
pub record Gathered (ms : List ℕ) (w n : ℕ) (wanted enough : List ℕ) (words : ℕ) : Type 0 where
  pub each : (x : ℕ) → x < 64 * words → cell wanted x ≡ 1 → cell enough x ≡ when (leb 2 (bidders (has ms w) n x)) 1

-- r is the first number below L that passes, or L where there is none
pub record FirstOf (P : ℕ → Bool) (L r : ℕ) : Type 0 where
  pub inside : r ≤ L
  pub here : r < L → P r ≡ true
  pub before : (x : ℕ) → x < r → P x ≡ false

-- the first number below L that passes, where there is one
abbrev pub FirstIn : (ℕ → Bool) → ℕ → Option ℕ → Type 0
FirstIn P L (Some r) = (r < L) × FirstOf P L r
FirstIn P L None = FirstOf P L L
