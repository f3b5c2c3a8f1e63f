-- What a function that writes a part of a list leaves in its buffer.
use Rattle.std.specs.Prelude.{◌≡◌, List, ◌++◌, ℕ, ◌+◌, length, take, drop}

-- the bytes stand from `at` on, after what stood before `at`, and end before `end`; what stood from there on stays
pub record Written (old : List ℕ) (at : ℕ) (bytes new : List ℕ) (end : ℕ) : Type 0 where
  pub text : take end new ≡ take at old ++ bytes
  pub next : end ≡ at + length bytes
  pub rest : drop end new ≡ drop end old
  pub size : length new ≡ length old
