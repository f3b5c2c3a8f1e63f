-- A buffer that has room for any list gets it at once; for a shorter one it is made apart and measured. Assumes nothing.
use native.Mathlib.Omega.{arith}
use Rattle.listing_made.proofs.MakingLaws.{listed_here}
use Rattle.listing.proofs.tender_list.Goals as goal

pub returns : goal.returns
returns c = listed_here c.make.ensures (omega arith)
