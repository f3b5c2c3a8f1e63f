-- Rows of words as they are written: a row copied, and one with a bid more.
use Rattle.std.specs.Prelude.{◌≡◌, List, ℕ, ◌+◌, ◌*◌, ◌≤◌, ◌<◌, length, get_or}
use Rattle.single_lead.specs.Rows.{set_in}

-- x is no place of row q
abbrev pub Off : ℕ → ℕ → Type 0
Off q x = q * 16 ≤ x → x < q * 16 + 16 → ⊥

-- the words below j of row q are those of row `from`
pub record Copied (old new : List ℕ) (from q j : ℕ) : Type 0 where
  pub sized : length new ≡ length old
  pub kept : (x : ℕ) → Off q x → get_or new x 0 ≡ get_or old x 0
  pub written : (i : ℕ) → i < j → get_or new (q * 16 + i) 0 ≡ get_or old (from * 16 + i) 0

-- row i is row `from` with bid i, and the other rows are as they were
pub record Extended (old new : List ℕ) (from i s : ℕ) : Type 0 where
  pub sized : length new ≡ length old
  pub kept : (x : ℕ) → Off i x → get_or new x 0 ≡ get_or old x 0
  pub is : set_in 16 new i ≡ set_in 16 old from + s
