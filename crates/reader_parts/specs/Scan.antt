-- What a reader that walks bytes holds: places, and whether bytes begin with others.
use Rattle.std.specs.Prelude.{ℕ, suc, ◌-◌, ◌<◌, ◌≡◌, List, [], ◌∷◌, Bool, true, false, cond, ◌&&◌, length, get_or}
use Rattle.std.specs.Prelude.{eqb}
use Rattle.tender.specs.Limits.{within}

-- how many bytes stand before the first d
unfoldable pub to_next : ℕ → List ℕ → ℕ
to_next d [] = 0
to_next d (b ∷ s) = let more = suc (to_next d s) in cond (eqb b d) 0 more

-- the last byte is 10
abbrev pub Ended : List ℕ → Type 0
Ended s = (0 < length s) × (get_or s (length s - 1) 0 ≡ 10)

-- bytes a to z alone
unfoldable pub lettered : List ℕ → Bool
unfolding within
lettered [] = true
lettered (b ∷ w) = within 97 122 b && lettered w

-- s begins with w
unfoldable pub starts_with : List ℕ → List ℕ → Bool
starts_with [] s = true
starts_with (d ∷ w) [] = false
starts_with (d ∷ w) (b ∷ s) = eqb b d && starts_with w s
