-- `worse` meets its contract: an empty window is the worst, and a late one worse than none. Assumes nothing.
use Rattle.std.proofs.Common.{sym, ◌∙◌}
use Rattle.reader_parts.proofs.FlawLaws.{worst_empty, worst_late, worst_sound}
use Rattle.reader_window.proofs.worse.Goals as goal

pub returns-in-None : goal.returns-in-None
returns-in-None c = rw (sym c.flaw_in.ensures ∙ c.in-None.is) (sym (worst_sound _))

pub returns-in-Some-Late : goal.returns-in-Some-Late
returns-in-Some-Late c =
    rw (sym c.flaw_in.ensures ∙ c.in-Some-Late.is, c.in-Some-Late.field-0-is) (c.or.ensures ∙ worst_late _)

pub returns-in-Some-Empty : goal.returns-in-Some-Empty
returns-in-Some-Empty c =
    rw (sym c.flaw_in.ensures ∙ c.in-Some-Empty.is, c.in-Some-Empty.field-0-is) (sym (worst_empty _))
