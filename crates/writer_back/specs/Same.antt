-- When two tables have the same bids, and what reading a text back gives (paper 02, request 2).
use Rattle.std.specs.Prelude.{◌≡◌, List, ◌++◌, ℕ, ◌<◌, length, get_or}
use Rattle.tender.specs.declared.Window.{Window}
use Rattle.tender.specs.declared.Tender.{Tender}
use Rattle.tender.specs.Tables.{Row, own, flat_windows}
use Rattle.reader_text.specs.Read.{accepted, read_text}
use Rattle.award_check.specs.Cells.{holds, no_row}

-- the same tender, and in the same entry order the same bidders, prices and minutes, also those outside the tender
pub record Same (t : Tender) (rows : List Row) (windows : List ℕ) (t' : Tender) (rows' : List Row)
    (windows' : List ℕ) : Type 0 where
  pub tenders : t ≡ t'
  pub count : length rows ≡ length rows'
  pub bidders : (i : ℕ) → i < length rows → (get_or rows i no_row).bidder ≡ (get_or rows' i no_row).bidder
  pub prices : (i : ℕ) → i < length rows → (get_or rows i no_row).price ≡ (get_or rows' i no_row).price
  pub minutes : (i : ℕ) → i < length rows → (m : ℕ)
      → holds (own windows (get_or rows i no_row)) m ≡ holds (own windows' (get_or rows' i no_row)) m

-- the text is accepted, with the tender t and tables that have the same bids, whatever stands past their windows
pub record ReadBack (text : List ℕ) (t : Tender) (rows : List Row) (windows : List ℕ) : Type 0 where
  pub R : List Row
  pub W : List Window
  pub reads : read_text text ≡ accepted t R W
  pub same : (v : List ℕ) → Same t rows windows t R (flat_windows W ++ v)
