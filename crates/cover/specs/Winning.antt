-- The prices with which a bid would win, all else held: those below some price, or none (paper 02, request 8).
use Rattle.std.specs.Prelude.{◌≡◌, Bool, ℕ, zero, suc, ltb}
use Rattle.cover.specs.Sets.{Found, nothing, found}

-- the numbers below m pass, and no other
abbrev pub Below : (ℕ → Bool) → ℕ → Type 0
Below ok m = (q : ℕ) → ok q ≡ ltb q m

-- the largest of the numbers below m
unfoldable pub one_less : ℕ → Found
one_less zero = nothing
one_less (suc p) = found p
