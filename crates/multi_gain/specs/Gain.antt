-- The bids that gain where a cell is open that the main run has closed: marked, each with its key. Bid i's mark is cell i of a row of
-- 16 words.
use Rattle.std.specs.Prelude.{◌≡◌, Bool, true, List, ℕ, ◌<◌, length}
use Rattle.std.specs.Int.Bits.{bit_and}
use Rattle.cells.specs.Cells.{cell}
use Rattle.multi_keys.specs.Keys.{at}
use Rattle.multi_market.specs.Market.{word_row, has}
use Rattle.multi_market.specs.Seats.{key_at}

-- the bids that have a cell of m in word q are marked, with their keys where the cells of `alt` are open
pub record Spread (ps ms alt : List ℕ) (q m : ℕ) (keys mark keys' mark' : List ℕ) : Type 0 where
  pub kept : (i : ℕ) → i < 1024 → 0 < cell mark i → (0 < cell mark' i) × (at keys' i ≡ at keys i)
  pub still : (i : ℕ) → i < 1024 → cell mark' i ≡ 0 → (at keys' i ≡ at keys i)
      × (i < length ps → bit_and (at (word_row ms (length alt) i) q) m ≡ 0)
  pub moved : (i : ℕ) → i < 1024 → cell mark i ≡ 0 → 0 < cell mark' i → (i < length ps)
      × (at keys' i ≡ key_at (has ms (length alt)) ps alt i)

-- the bids that have an open cell of those that f says are marked, with their keys
pub record Gained (has : ℕ → ℕ → Bool) (ps alt : List ℕ) (f : ℕ → Bool) (keys mark keys' mark' : List ℕ) : Type 0 where
  pub kept : (i : ℕ) → i < 1024 → 0 < cell mark i → (0 < cell mark' i) × (at keys' i ≡ at keys i)
  pub still : (i : ℕ) → i < 1024 → cell mark' i ≡ 0 → (at keys' i ≡ at keys i)
      × (i < length ps → (x : ℕ) → has i x ≡ true → f x ≡ true → cell alt x ≡ 0)
  pub moved : (i : ℕ) → i < 1024 → cell mark i ≡ 0 → 0 < cell mark' i → (i < length ps)
      × (at keys' i ≡ key_at has ps alt i)
