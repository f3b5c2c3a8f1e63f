-- The hops of the bids' words, found bid by bid.
use Rattle.std.specs.Prelude.{◌≡◌, ◌⊎◌, List, ℕ, ◌+◌, ◌-◌, ◌*◌, ◌≤◌, ◌<◌}
use Rattle.cells_count.specs.Hops.{Hops}
use Rattle.multi_keys.specs.Keys.{at}
use Rattle.multi_market.specs.Market.{word_row}

-- the words r up to q, counted from a on, are m and hop to v; the word before r is another
pub record Backed (ms : List ℕ) (a q m v : ℕ) (old new : List ℕ) (r : ℕ) : Type 0 where
  pub low : r ≤ q
  pub words : (p : ℕ) → r ≤ p → p < q → at ms (a + p) ≡ m
  pub hops : (p : ℕ) → r ≤ p → p < q → at new (a + p) ≡ v
  pub others : (p : ℕ) → (p < a + r) ⊎ (a + q ≤ p) → at new p ≡ at old p
  pub stop : 0 < r → at ms (a + (r - 1)) ≡ m → ⊥

-- the hops of bid i's words are set, and no others
pub record Charted (ms : List ℕ) (w i : ℕ) (old new : List ℕ) : Type 0 where
  pub own : Hops (word_row ms w i) (word_row new w i)
  pub others : (p : ℕ) → (p < w * i) ⊎ (w * i + w ≤ p) → at new p ≡ at old p
