-- The bytes that a bid text may have (paper 01, "The bid text"; the point, paper 02, paper 6).
use Rattle.std.specs.Prelude.{List, [], ◌∷◌, Bool, true, ◌&&◌, ◌||◌, ℕ, eqb}
use Rattle.tender.specs.Limits.{within}

unfoldable pub plain : ℕ → Bool
unfolding within
plain b = within 48 57 b || within 97 122 b || eqb b 40 || eqb b 41 || eqb b 32 || eqb b 10 || eqb b 46

unfoldable pub all_plain : List ℕ → Bool
unfolding plain
all_plain [] = true
all_plain (b ∷ s) = plain b && all_plain s
