-- The minutes of a bid as runs in rising order, joined where windows overlap or touch.
use Rattle.std.specs.Prelude.{Bool, cond, List, [], ◌∷◌, ℕ, zero, suc, ◌+◌, eqb}
use Rattle.tender.specs.declared.Window.{Window}
use Rattle.tender.specs.Limits.{week}
use Rattle.award_check.specs.Cells.{holds}

-- the minute `at` before runs that begin after it: joined to the first where that one begins next
unfoldable pub extended : ℕ → List Window → List Window
extended at [] = record { start = at; end = at + 1 } ∷ []
extended at (w ∷ ws) = cond (eqb w.start (at + 1)) (record { start = at; end = w.end } ∷ ws)
    (record { start = at; end = at + 1 } ∷ w ∷ ws)

-- the runs of minutes that pass, among the n from `at` on
unfoldable pub runs : (ℕ → Bool) → ℕ → ℕ → List Window
unfolding extended
runs P at zero = []
runs P at (suc n) = let later = runs P (at + 1) n in cond (P at) (extended at later) later

-- a bid's windows joined
unfoldable pub joined : List Window → List Window
unfolding runs holds
joined ws = runs (holds ws) 0 week
