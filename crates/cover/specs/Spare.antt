-- Each cell has a bid other than one of them.
use Rattle.std.specs.Prelude.{◌≡◌, Bool, true, ℕ, ◌<◌}

-- a bid other than k has the cell x
pub record Another (has : ℕ → ℕ → Bool) (n k x : ℕ) : Type 0 where
  pub who : ℕ
  pub inside : who < n
  pub other : who ≡ k → ⊥
  pub covers_it : has who x ≡ true

-- the bids but k have every cell; all of them where k is no bid's number
abbrev pub Spare : (ℕ → ℕ → Bool) → ℕ → ℕ → ℕ → Type 0
Spare has n L k = (x : ℕ) → x < L → Another has n k x
