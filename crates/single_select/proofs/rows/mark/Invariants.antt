-- `single_select::rows::mark` meets its contract: each bit of the row is a flag. Assumes nothing.
use mathlib.Core.Path.{◌≡◌}
use Prim.Native.Nat.{◌≤◌}
use lib.ListN.{length}
use Rattle.cover.specs.Settled.{FilledTo}
use Rattle.cover.specs.Sets.{bit, when}
use Rattle.single_lead.specs.Rows.{set_in}
use Rattle.single_select.proofs.rows.mark.Given as goal

abbrev pub invariant-loop-i : goal.invariant-loop-i
invariant-loop-i l = (l.i ≤ l.n) × (length l.won ≡ length l.initial.won) × FilledTo (λ bid. when (bit (set_in 16 l.sets l.r) bid) 1) l.initial.won l.won l.i
