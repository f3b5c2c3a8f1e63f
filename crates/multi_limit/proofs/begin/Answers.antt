-- `multi_limit::begin` meets its contract: the main run alone takes the bid, which is marked first, and then those that have an open cell
-- of its tape; as many cells are open for it as its round gains. Assumes nothing.
use mathlib.Core.Path.{refl}
use native.Mathlib.Omega.{arith}
use Rattle.multi_keys.proofs.TreeLaws.{length_leaves}
use Rattle.multi_gain.specs.GainLaws.{indexed_more}
use Rattle.multi_limit.specs.PassLaws.{mark_kept, begin_follows}
use Rattle.multi_market.proofs.WordRowLaws.{known}
use Rattle.multi_limit.proofs.begin.Goals as goal

pub returns : goal.returns
returns c =
    let P = known c.args.bids.market c.args.bids.hopping c.requires in let d = c.gain_pairs.ensures in let f = c.add.ensures in (
      begin_follows P.0.priced P.0.words P.1.1.1.1.1.1 f d.1.0 (length_leaves _ d.0.size) (omega arith),
      (
        (refl, refl),
        (
          d.0,
          (
            d.1.1,
            indexed_more (indexed_more P.1.1.0 (λ i l y. mark_kept f i y))
                (λ i l y. (d.1.0.kept i (omega (arith, l, P.0.priced.count)) y).0),
          ),
        ),
      ),
    )
