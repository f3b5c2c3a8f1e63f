-- A bid's minutes as a row of words, one cell a minute, and the next unbroken run of cells in it.
use Rattle.std.specs.Prelude.{◌≡◌, List, ℕ, ◌≤◌, ◌<◌, length}
use Rattle.tender.specs.declared.Window.{Window}
use Rattle.cover.specs.Sets.{when}
use Rattle.cells.specs.Cells.{cell}
use Rattle.award_check.specs.Cells.{holds}

-- a row has 158 words, which are 10,112 cells: the 10,080 minutes of a week and 32 more
abbrev pub row_words : ℕ
row_words = 158

abbrev pub row_cells : ℕ
row_cells = 10112

-- a row without a cell
pub record Empty (row : List ℕ) : Type 0 where
  pub wide : length row ≡ row_words
  pub clear : (x : ℕ) → cell row x ≡ 0

-- a row with every cell
pub record Full (row : List ℕ) : Type 0 where
  pub wide : length row ≡ row_words
  pub filled : (x : ℕ) → x < row_cells → cell row x ≡ 1

-- the row has the minutes of the windows, and no other
pub record Minutes (ws : List Window) (row : List ℕ) : Type 0 where
  pub wide : length row ≡ row_words
  pub is : (x : ℕ) → cell row x ≡ when (holds ws x) 1

-- the first unbroken run of cells from `from` on is start up to end; both are past the last cell where there is none
pub record NextRun (row : List ℕ) (from start end : ℕ) : Type 0 where
  pub on : from ≤ start
  pub order : start ≤ end
  pub within : end ≤ row_cells
  pub before : (x : ℕ) → from ≤ x → x < start → cell row x ≡ 0
  pub inside : (x : ℕ) → start ≤ x → x < end → cell row x ≡ 1
  pub after : end < row_cells → cell row end ≡ 0
  pub some : start < row_cells → start < end
