-- `award_layout::spans` meets its contract: the starts and ends of the bids passed are written. Assumes nothing.
use mathlib.Core.Path.{◌≡◌}
use Prim.Native.Nat.{◌≤◌}
use lib.ListN.{length}
use Rattle.award_layout.specs.Orderly.{SpansLaid}
use Rattle.award_layout.proofs.spans.Given as goal

abbrev pub invariant-loop-i : goal.invariant-loop-i
invariant-loop-i l = (l.i ≤ length l.initial.starts)
    × ((length l.starts ≡ length l.initial.starts) × ((length l.ends ≡ length l.initial.ends) × SpansLaid l.i l.tender l.bids l.windows l.starts l.ends))
