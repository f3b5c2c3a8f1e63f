-- `single_lead::renew` meets its contract: the scan goes through the list while it is thinned out. Assumes nothing.
use mathlib.Core.Path.{◌≡◌}
use Prim.Native.Nat.{◌≤◌}
use lib.ListN.{length}
use Rattle.single_lead.specs.Live.{Thinned}
use Rattle.single_lead.specs.Lead.{Seen}
use Rattle.single_lead.proofs.renew.Given as goal

abbrev pub invariant-loop-j : goal.invariant-loop-j
invariant-loop-j l = (l.j ≤ l.m) × (length l.live ≡ length l.initial.live) × Thinned l.ends l.initial.live l.live l.t l.j l.x
    × Seen l.w l.starts l.ends l.initial.live l.costs l.sets l.n l.t l.j l.r
