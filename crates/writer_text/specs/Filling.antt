-- What the inner functions of the writer leave in the buffer.
use Rattle.std.specs.Prelude.{◌≡◌, ◌⊎◌, List, ℕ, ◌≤◌, ◌<◌, take}
use Rattle.tender.specs.declared.Tender.{Tender}
use Rattle.tender.specs.Limits.{max_text}
use Rattle.tender.specs.Tables.{Row}
use Rattle.spelling.specs.Text.{bids_text}
use Rattle.spelling.specs.Written.{Written}
use Rattle.writer_text.specs.Canonical.{respelt_in, canonical}

-- the lines of some first rows are written: of all of them, or of so many that the text is too long
pub record SomeBids (windows : List ℕ) (rows : List Row) (old : List ℕ) (at n : ℕ) (new : List ℕ) (end : ℕ) : Type 0 where
  pub lines : ℕ
  pub few : lines ≤ n
  pub written : Written old at (bids_text (respelt_in windows (take lines rows))) new end
  pub all : (max_text < end) ⊎ (lines ≡ n)

-- the same of the whole text
pub record SomeText (t : Tender) (windows : List ℕ) (rows : List Row) (old : List ℕ) (n : ℕ) (new : List ℕ) (end : ℕ)
    : Type 0 where
  pub lines : ℕ
  pub few : lines ≤ n
  pub written : Written old 0 (canonical t (take lines rows) windows) new end
  pub all : (max_text < end) ⊎ (lines ≡ n)
