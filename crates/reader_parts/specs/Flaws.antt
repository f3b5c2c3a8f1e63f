-- What is wrong with a line's windows: some start is not below its end; or else some end is past the week; or nothing.
use Rattle.std.specs.Prelude.{List, Bool, true, false, cond, Option, Some, None}
use Rattle.tender.specs.declared.Window.{Window}
use Rattle.tender.specs.Limits.{ordered, early, every}
use Rattle.reader_parts.specs.declared.Flaw.{Flaw}
use Rattle.reader_parts.specs.declared.Flaw.TheVariants.{Empty, Late}

-- what is wrong with windows, where something is
abbrev pub Flaws : Type 0
Flaws = Option Flaw

-- whether the starts are below the ends, and whether the ends lie within the week
abbrev pub flaw_by : Bool → Bool → Flaws
flaw_by ordered early = cond ordered (cond early None (Some Late)) (Some Empty)

unfoldable pub flaw_in : Window → Flaws
flaw_in w = flaw_by (ordered w) (early w)

unfoldable pub flaw_of : List Window → Flaws
unfolding every
flaw_of ws = flaw_by (every ordered ws) (every early ws)

unfoldable pub worst : Flaws → Flaws → Flaws
worst (Some Empty) f = Some Empty
worst (Some Late) (Some Empty) = Some Empty
worst (Some Late) (Some Late) = Some Late
worst (Some Late) None = Some Late
worst None f = f

-- the two tests that a flaw answers
abbrev pub is_empty : Flaws → Bool
is_empty (Some Empty) = true
is_empty (Some Late) = false
is_empty None = false

abbrev pub is_late : Flaws → Bool
is_late (Some Empty) = false
is_late (Some Late) = true
is_late None = false
