-- A market of bids over cells as plain numbers: one price a bid, and the words of each bid's cells one after the other in one list.
use Rattle.std.specs.Prelude.{◌≡◌, Bool, List, ℕ, ◌*◌, ◌≤◌, ◌<◌, length, take, drop, eqb}
use Rattle.cover.specs.Sets.{Found, nothing, found}
use Rattle.cells.specs.Cells.{cell}
use Rattle.cells_count.specs.Hops.{Hops}
use Rattle.tender.specs.Limits.{max_entries}
use Rattle.multi_keys.specs.Keys.{at}

-- at most 1,001 bids at prices up to 100,000,000
pub record Priced (ps : List ℕ) : Type 0 where
  pub count : length ps ≤ max_entries
  pub most : (i : ℕ) → at ps i ≤ 100000000

-- the words of bid i, of w words a bid
unfoldable pub word_row : List ℕ → ℕ → ℕ → List ℕ
word_row ms w i = take w (drop (w * i) ms)

-- bid i has the cell x
unfoldable pub has : List ℕ → ℕ → ℕ → ℕ → Bool
unfolding word_row cell
has ms w i x = eqb (cell (word_row ms w i) x) 1

-- the number of the bid found, n where there is none
unfoldable pub place_or : ℕ → Found → ℕ
place_or n nothing = n
place_or n (found b) = b

pub record Market (ps ms : List ℕ) (w : ℕ) : Type 0 where
  pub priced : Priced ps
  pub size : length ms ≡ w * length ps
  pub words : w ≤ 158

-- the hops of each bid's words, one bid after the other
pub record Hopping (ps ms hop : List ℕ) (w : ℕ) : Type 0 where
  pub size : length hop ≡ length ms
  pub each : (i : ℕ) → i < length ps → Hops (word_row ms w i) (word_row hop w i)

-- the first n cells are set, and no other
pub record First (n : ℕ) (held : List ℕ) : Type 0 where
  pub inside : (x : ℕ) → x < n → cell held x ≡ 1
  pub above : (x : ℕ) → n ≤ x → cell held x ≡ 0
