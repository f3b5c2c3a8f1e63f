-- A list of 64-bit words read as a row of cells: cell x is bit x % 64 of word x / 64.
use Rattle.std.specs.Prelude.{ℕ, zero, suc, ◌+◌, ◌-◌, ◌*◌, ◌/◌, ◌%◌, ◌^◌, ◌≤◌, ◌<◌, min, ◌≡◌}
use Rattle.std.specs.Prelude.{List, length, get_or}

-- bit k of the number w, 0 or 1
abbrev pub bit_of : ℕ → ℕ → ℕ
bit_of w k = w / 2 ^ k % 2

-- cell x of the words: 0 or 1
unfoldable pub cell : List ℕ → ℕ → ℕ
cell ws x = bit_of (get_or ws (x / 64) 0) (x % 64)

-- a word with all its cells
abbrev pub whole : ℕ
whole = 18446744073709551615

-- f 0 + .. + f (n - 1)
unfoldable pub total : (ℕ → ℕ) → ℕ → ℕ
total f zero = zero
total f (suc n) = total f n + f n

-- both cells are set: 1 or 0
unfoldable pub both : List ℕ → List ℕ → ℕ → ℕ
unfolding cell
both a b x = min (cell a x) (cell b x)

-- how many cells are set in a and in b
unfoldable pub common : List ℕ → List ℕ → ℕ
unfolding total both
common a b = total (both a b) (64 * length a)

-- `new` is `old` with the cells of `mask` cleared: 1 - 1 and 0 - 1 are 0
pub record Closed (old mask new : List ℕ) : Type 0 where
  pub clears : (x : ℕ) → cell new x ≡ cell old x - cell mask x

-- no word has a cell
pub record Cleared (xs : List ℕ) : Type 0 where
  pub none : (i : ℕ) → get_or xs i 0 ≡ 0

-- the number m has exactly the bits lo up to hi of its first 64
pub record Span (lo hi m : ℕ) : Type 0 where
  pub inside : (k : ℕ) → lo ≤ k → k < hi → bit_of m k ≡ 1
  pub below : (k : ℕ) → k < lo → bit_of m k ≡ 0
  pub above : (k : ℕ) → hi ≤ k → k < 64 → bit_of m k ≡ 0

-- `new` is `old` with exactly the cells s up to e set besides
pub record RangeAdded (s e : ℕ) (old new : List ℕ) : Type 0 where
  pub inside : (x : ℕ) → s ≤ x → x < e → cell new x ≡ 1
  pub below : (x : ℕ) → x < s → cell new x ≡ cell old x
  pub above : (x : ℕ) → e ≤ x → cell new x ≡ cell old x

-- the first x from `from` on that is a cell of a and not of b; past the last cell where there is none
pub record Next (a b : List ℕ) (from r : ℕ) : Type 0 where
  pub on : from ≤ r
  pub within : r ≤ 64 * length a
  pub none : (x : ℕ) → from ≤ x → x < r → cell a x ≡ 1 → cell b x ≡ 1
  pub inside : r < 64 * length a → cell a r ≡ 1
  pub outside : r < 64 * length a → cell b r ≡ 0
