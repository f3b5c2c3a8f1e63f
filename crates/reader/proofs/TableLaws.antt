-- First places of two tables. Assumes nothing.
use Rattle.std.specs.Prelude.{ℕ, ◌≤◌, ◌≡◌, List, length, take}
use Rattle.std.proofs.Common.{sym, ◌∙◌, length-take-le}

pub same_long : (n : ℕ) (xs ys : List ℕ) → n ≤ length xs → n ≤ length ys → length (take n xs) ≡ length (take n ys)
same_long n xs ys h k = length-take-le n xs h ∙ sym (length-take-le n ys k)
