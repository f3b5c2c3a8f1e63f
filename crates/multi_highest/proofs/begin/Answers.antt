-- `multi_highest::begin` meets its contract: the first cells are opened, each bid is entered with its key, k's open cells are counted, and
-- k is then put out. Assumes nothing.
use mathlib.Core.Path.{refl}
use native.Mathlib.Omega.{arith}
use Rattle.multi_highest.specs.RoundLaws.{starts}
use Rattle.multi_market.proofs.WordRowLaws.{known}
use Rattle.multi_highest.proofs.begin.Goals as goal

pub returns : goal.returns
returns c =
    let P = known c.args.bids.market c.args.bids.hopping c.requires in let e = c.unlock.auto.held in
    let entered = rw e at c.enter.ensures.1.0 in
    let own = rw e at c.overlap-mine.ensures in let put = c.put.ensures in (
      starts P.0.priced P.1.1.1.0 (omega (arith, e, P.1.1.0)) c.unlock.ensures entered put.1 own.0.0 own.0.1,
      (refl, (put.0, own.1)),
    )
