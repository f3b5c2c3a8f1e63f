-- `single_lead::stands` meets its contract: the words above j are the same in both rows. Assumes nothing.
use mathlib.Core.Path.{◌≡◌}
use Rattle.single_lead.specs.Rows.{top_words}
use Prim.Native.Nat.{◌≤◌}
use Rattle.single_lead.proofs.stands.Given as goal

abbrev pub invariant-loop-j : goal.invariant-loop-j
invariant-loop-j l = (l.j ≤ l.w) × (top_words l.w l.sets l.q l.j ≡ top_words l.w l.sets l.r l.j)
