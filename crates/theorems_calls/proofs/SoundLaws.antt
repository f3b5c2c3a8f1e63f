-- Lines without a fault, from what is said of each. Assumes nothing.
use mathlib.Core.List.{List, []}
use Rattle.std.proofs.Math.Option.{some}
use Rattle.tender.specs.declared.Tender.{Tender}
use Rattle.reader_forms.specs.Line.{BidLine, tender, tender_line}
use Rattle.theorems_calls.specs.OneReading.{at_start, after}
use Rattle.theorems_calls.specs.OneReading.{NoFault, SoundBids, SoundReserve, SoundLines}

pub sound_lines : (t : Tender) (bs : List BidLine) → NoFault at_start (some (tender (tender_line t)))
    → SoundReserve (tender_line t) t.reserve → SoundBids t [] bs → SoundLines (after t bs)
sound_lines t bs u v s = (u, (v, s))
