-- `award_layout::add_windows` meets its contract: the words have the cells of the windows passed. Assumes nothing.
use mathlib.Core.Path.{◌≡◌}
use mathlib.Core.Bool.{true}
use lib.ListN.{length}
use Rattle.award_check.proofs.WalkLaws.{rows_ahead}
use Rattle.award_layout.specs.LaidLaws.{Masking}
use Rattle.award_layout.proofs.add_windows.Given as goal

abbrev pub invariant-loop-j : goal.invariant-loop-j
invariant-loop-j l = (length l.words ≡ length l.initial.words)
    × ((rows_ahead l.windows l.first l.count l.j ≡ true) × Masking l.tender l.windows l.first l.count l.j l.words)
