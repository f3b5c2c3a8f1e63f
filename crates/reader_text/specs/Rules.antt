-- The rules that the tables of an accepted text keep (paper 01, "Time, price and place" and the row rules of an award).
use Rattle.std.specs.Prelude.{◌≡◌, List, [], ◌∷◌, ◌++◌, false, cond, ℕ, ◌+◌, ◌≤◌, length, eqb}
use Rattle.tender.specs.declared.Kind.{Kind}
use Rattle.tender.specs.declared.Kind.TheVariants.{Single}
use Rattle.tender.specs.declared.Window.{Window}
use Rattle.tender.specs.declared.Tender.{Tender}
use Rattle.tender.specs.Tables.{Row}
use Rattle.tender.specs.Rules.{WindowRules, TenderRules}
use Rattle.reader_parts.specs.Words.{among}

-- a row after rows with the bidder numbers `used`, whose windows end at `at`
pub record RowRules (k : Kind) (used : List ℕ) (at : ℕ) (r : Row) : Type 0 where
  pub bidder_low : 1 ≤ r.bidder
  pub bidder_high : r.bidder ≤ 999999
  pub bidder_new : among r.bidder used ≡ false
  pub price_high : r.price ≤ 100000000
  pub some_window : 1 ≤ r.count
  pub few_windows : r.count ≤ 32
  pub one_window : k ≡ Single → r.count ≡ 1
  pub begins : r.first ≡ at

-- the windows of the last row end at `end`
abbrev pub RowsRules : Kind → List ℕ → ℕ → List Row → ℕ → Type 0
RowsRules k used at [] end = at ≡ end
RowsRules k used at (r ∷ rs) end = RowRules k used at r × RowsRules k (used ++ r.bidder ∷ []) (at + r.count) rs end

abbrev pub WindowsRules : List Window → Type 0
WindowsRules [] = Unit {0}
WindowsRules (w ∷ ws) = WindowRules w × WindowsRules ws

pub record Rules (t : Tender) (R : List Row) (W : List Window) : Type 0 where
  pub tender : TenderRules t
  pub few_bids : length R ≤ 1000
  pub rows : RowsRules t.kind [] 0 R (length W)
  pub windows : WindowsRules W

-- how many of the bytes are d
unfoldable pub bytes_like : ℕ → List ℕ → ℕ
bytes_like d [] = 0
bytes_like d (b ∷ s) = cond (eqb b d) 1 0 + bytes_like d s
