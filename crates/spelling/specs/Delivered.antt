-- What a call leaves that writes bytes at the start of a lent buffer, if there is room for them.
use Rattle.std.specs.Prelude.{◌≡◌, cond, List, ◌++◌, ℕ, length, drop, leb}

-- The promise of a call that has the bytes `out` for a lent buffer of the bytes `old`: it answers r and leaves the bytes `new`. Where
-- they are more than the buffer has, the answer is 0 and the buffer unchanged
pub record Delivered (out old new : List ℕ) (r : ℕ) : Type 0 where
  pub answer : r ≡ cond (leb (length out) (length old)) (length out) 0
  pub bytes : new ≡ cond (leb (length out) (length old)) (out ++ drop (length out) old) old
