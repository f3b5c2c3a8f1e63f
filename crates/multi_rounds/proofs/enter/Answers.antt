-- `multi_rounds::enter` meets its contract: before leaf i the leaves below i are entered, and the tree is played from them.
-- Assumes nothing.
use Rattle.std.proofs.Common.{arith}
use Rattle.multi_rounds.specs.EnterLaws.{enters_bid, enters_out, enters_all}
use Rattle.multi_rounds.proofs.enter.Goals as goal
use Rattle.multi_rounds.proofs.enter.Goals.{then-i-bids, else-i-bids}

pub loop-i-preserved : goal.loop-i-preserved
loop-i-preserved c =
    let v = c.loop-i.invariant in
    elim c.if-i-bids.branch [
      | then-i-bids w ↦ let o = w.overlap-r.ensures in rw (w.counts-is, w.tree-is)
          ((enters_bid v.0 (omega arith) w.if-i-bids.true o.0.0 w.key_of.ensures, o.1))
      | else-i-bids w ↦ rw (w.counts-is, w.tree-is) ((enters_out v.0 (omega arith) w.if-i-bids.false, v.1))
    ]

pub returns : goal.returns
returns c =
    let u = c.play.ensures in let v = c.loop-i.invariant in
    (u.0, (enters_all _ v.0 (omega arith) (omega (arith, c.args.bids.market.priced.count)) u.1, v.1))
