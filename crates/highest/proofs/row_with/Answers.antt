-- `highest::row_with` meets its contract: the rows from i on have not the number, so the largest of all rows with it is one before i.
-- Assumes nothing.
use mathlib.Core.Path.{◌≡◌}
use Prim.Native.Nat.{suc, ◌-◌}
use native.Mathlib.Omega.{arith}
use Rattle.highest.specs.AskingLaws.{row_goes, row_stops, row_ends}
use Rattle.highest.proofs.row_with.Goals as goal

pub returns-then-bids-i : goal.returns-then-bids-i
returns-then-bids-i c =
    let A = c.args in
    let e : suc (c.loop-i.i - 1) ≡ c.loop-i.i = omega arith in
    row_stops A.bids.now A.count A.bidder (c.loop-i.i - 1) c.if-bids-i.true (rw e c.loop-i.invariant)

pub loop-i-preserved : goal.loop-i-preserved
loop-i-preserved c =
    let A = c.args in
    let e : suc (c.loop-i.i - 1) ≡ c.loop-i.i = omega arith in
    row_goes A.bids.now A.count A.bidder (c.loop-i.i - 1) c.if-bids-i.false (rw e c.loop-i.invariant)

pub returns : goal.returns
returns c =
    let e : c.loop-i.i ≡ 0 = omega arith in
    row_ends c.args.bids.now c.args.count c.args.bidder (rw e at c.loop-i.invariant)
