-- `award_fault::windows_lawful` meets its contract: what is left of the windows decides as all of them do. Assumes nothing.
use mathlib.Core.Path.{◌≡◌}
use Prim.Native.Nat.{◌*◌, ◌≤◌}
use lib.ListN.{drop}
use Rattle.tender.specs.Limits.{lawful, every}
use Rattle.tender.specs.Tables.{windows_of, window_width}
use Rattle.award_check.proofs.WalkLaws.{rows_ahead}
use Rattle.award_fault.proofs.windows_lawful.Given as goal

abbrev pub invariant-loop-j : goal.invariant-loop-j
invariant-loop-j l =
    (l.j ≤ l.count) × (rows_ahead l.windows l.first l.count l.j ≡ every lawful (windows_of l.count (drop (window_width * l.first) l.windows)))
