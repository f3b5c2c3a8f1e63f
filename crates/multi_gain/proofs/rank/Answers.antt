-- `multi_gain::rank` meets its contract: the cells counted and the price make the bid's key, which is put, and the mark is set.
-- Assumes nothing.
use mathlib.Core.Path.{ap, ◌∙◌}
use lib.ListN.{set}
use Rattle.multi_keys.specs.Tree.{leaves}
use Rattle.multi_gain.specs.GainLaws.{key_counted}
use Rattle.multi_gain.proofs.rank.Goals as goal

pub returns : goal.returns
returns c =
    let A = c.args in
    let key = key_counted A.bids.prices.now A.bids.masks.now A.alt.now A.b c.key_of.ensures c.overlap-r.ensures.0.0 in (
      c.put.ensures.0,
      (c.put.ensures.1 ∙ ap (set (leaves A.tree.now) A.b) key, (c.add.ensures, c.overlap-r.ensures.1)),
    )
