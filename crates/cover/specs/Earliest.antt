-- The earliest cell with so many bidders (paper 02, request 1).
use Rattle.std.specs.Prelude.{Bool, ℕ, eqb}
use Rattle.cover.specs.Sets.{Found, bidders}
use Rattle.cover.specs.LeastCover.{first}

-- the earliest of the L cells that has exactly m bidders: the first that passes, as each costs the same
unfoldable pub cell_with : (ℕ → ℕ → Bool) → ℕ → ℕ → ℕ → Found
unfolding bidders first
cell_with has n L m = first (λ x. eqb (bidders has n x) m) (λ x. 0) L
