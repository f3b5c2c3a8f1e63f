-- Windows joined where they touch or overlap, and left apart where a minute lies between them. Assumes nothing.
use Rattle.std.specs.Prelude.{◌≡◌, refl, [], ◌∷◌, ℕ}
use Rattle.tender.specs.declared.Window.{Window}
use Rattle.award_check.specs.Cells.{holds}
use Rattle.runs.specs.Runs.{runs}

win : ℕ → ℕ → Window
win s e = record { start = s; end = e }

-- touching windows are joined, in rising order
touching : runs (holds (win 5 9 ∷ win 0 5 ∷ [])) 0 12 ≡ win 0 9 ∷ []
unfolding runs holds win
touching = refl

apart : runs (holds (win 6 9 ∷ win 0 5 ∷ [])) 0 12 ≡ win 0 5 ∷ win 6 9 ∷ []
unfolding runs holds win
apart = refl

overlapping : runs (holds (win 0 5 ∷ win 4 9 ∷ win 9 10 ∷ [])) 0 12 ≡ win 0 10 ∷ []
unfolding runs holds win
overlapping = refl
