-- `multi::pick` meets its contract: before leaf i the leaves below i are picked, and the tree is played from them. Assumes nothing.
use Rattle.std.proofs.Common.{sym, ◌∙◌, arith}
use Rattle.multi.specs.PickedLaws.{picks_bid, picks_out, picks_all}
use Rattle.multi.proofs.pick.Goals as goal
use Rattle.multi.proofs.pick.Goals.{then-holds, else-holds}

pub loop-i-preserved : goal.loop-i-preserved
loop-i-preserved c =
    let v = c.loop-i.invariant in let held = c.holds.ensures in
    elim c.if-holds.branch [
      | then-holds w ↦ rw w.list-is (picks_bid v (omega arith) (sym held ∙ w.if-holds.true))
      | else-holds w ↦ rw w.list-is (picks_out v (omega arith) (sym held ∙ w.if-holds.false))
    ]

pub returns : goal.returns
returns c =
    let u = c.play.ensures in (u.0, picks_all _ c.loop-i.invariant (omega arith) u.1)
