-- `multi_gain::gain_pairs` meets its contract: before pair p the bids that have an open cell of the pairs before it are marked, with
-- their keys; those that have an open cell of pair p have a cell in common with the pair's mask and the open cells of its word.
-- Assumes nothing.
use Rattle.std.proofs.Common.{◌∙◌, length, arith}
use Rattle.multi_keys.specs.Tree.{leaves}
use Rattle.multi_market.specs.Market.{has}
use Rattle.multi_gain.specs.GainLaws.{indexed_more, gained_none, gained_more, spread_none}
use Rattle.multi_market.proofs.WordRowLaws.{known}
use Rattle.multi_gain.proofs.gain_pairs.Goals as goal
use Rattle.multi_gain.proofs.gain_pairs.Goals.{then-x-ne0, else-x-ne0}

pub loop-p-init : goal.loop-p-init
loop-p-init c =
    let P = known c.args.bids.market c.args.bids.hopping c.requires in let A = c.args in (
      gained_none (has A.bids.masks.now (length A.alt.now)) A.bids.prices.now A.alt.now A.pairs.now A.a (leaves A.tree.now) A.mark.now,
      (P.1.1.0, (P.1.1.1.1.1.0, (P.1.1.1.1.1.1, P.1.1.1.1.0))),
    )

pub loop-p-preserved : goal.loop-p-preserved
loop-p-preserved c =
    let P = known c.args.bids.market c.args.bids.hopping c.requires in let A = c.args in let s = c.loop-p.invariant in
    elim c.if-x-ne0.branch [
      | then-x-ne0 w ↦ let g = w.gain.ensures in rw (w.tree-is, w.mark-is, w.counts-is) ((
        gained_more A.pairs.now A.a c.loop-p.p (omega arith) s.0 g.1.0,
        (
          indexed_more s.1.0 (λ i l y. (g.1.0.kept i (omega (arith, l, P.0.priced.count)) y).0),
          (g.0, (w.gain.auto.mark ∙ s.1.1.1.0, g.1.1)),
        ),
      ))
      | else-x-ne0 w ↦ rw (w.tree-is, w.mark-is, w.counts-is) ((
        gained_more A.pairs.now A.a c.loop-p.p (omega arith) s.0
            (spread_none A.bids.prices.now A.bids.masks.now A.alt.now _ _ (leaves c.loop-p.tree) c.loop-p.mark w.if-x-ne0.false),
        s.1,
      ))
    ]
