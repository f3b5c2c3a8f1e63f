-- `multi::write` meets its contract: the first cells are opened, each bid is entered with its key, the bids in `ever` are picked, and
-- the run is written down. Assumes nothing.
use mathlib.Core.Path.{◌∙◌, sym}
use native.Mathlib.Omega.{arith}
use Rattle.multi.specs.PickedLaws.{listed_first}
use Rattle.multi_market.proofs.WordRowLaws.{known}
use Rattle.multi.proofs.write.Goals as goal

pub returns : goal.returns
returns c =
    let P = known c.args.bids.market c.args.bids.hopping c.requires in let u = c.unlock.auto.held in let p = c.pick.ensures in (
      rw u at c.trace.ensures.0,
      (
        λ h f e. rw u at (listed_first P.0.priced c.unlock.ensures (omega (arith, P.1.1.0, u)) c.enter.ensures.1.0
            p.1 h f (e ∙ sym u)),
        p.0,
      ),
    )
