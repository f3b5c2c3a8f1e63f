-- `award_layout::prices` meets its contract: the prices passed are written. Assumes nothing.
use mathlib.Core.Path.{◌≡◌}
use Prim.Native.Nat.{ℕ, ◌+◌, ◌*◌, ◌≤◌, ◌<◌}
use lib.ListN.{length, get_or}
use Rattle.tender.specs.Tables.{bid_width}
use Rattle.award_layout.proofs.prices.Given as goal

abbrev pub invariant-loop-i : goal.invariant-loop-i
invariant-loop-i l = (l.i ≤ length l.out) × ((length l.out ≡ length l.initial.out) × ((j : ℕ) → j < l.i → get_or l.out j 0 ≡ get_or l.bids (bid_width * j + 1) 0))
