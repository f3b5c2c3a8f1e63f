-- Whether a bid is at one of the first k places of a list.
use Rattle.std.specs.Prelude.{Bool, false, ◌||◌, List, ℕ, zero, suc, eqb, get_or}

unfoldable pub has : List ℕ → ℕ → ℕ → Bool
has xs zero i = false
has xs (suc k) i = eqb (get_or xs k 0) i || has xs k i
