-- `award_thin_masks::seen` meets its contract: `one` and `two` have the cells that the bids passed have once and twice, and more bids
-- only add to them. Assumes nothing.
use Prim.Native.Nat.{◌+◌, ◌*◌}
use native.Mathlib.Omega.{arith}
use lib.ListN.{get_or}
use lib.Bits.{bit_and, bit_or}
use Rattle.award_thin_masks.specs.MasksLaws.{seeing_none, seeing_more, reached_soon}
use Rattle.award_thin_masks.proofs.seen.Goals as goal

pub loop-i-init : goal.loop-i-init
loop-i-init c =
    let args = c.args in
    (omega arith, seeing_none args.masks.now args.w args.q)

pub returns-then-two-wanted : goal.returns-then-two-wanted
returns-then-two-wanted c =
    let args = c.args in
    let x = get_or args.masks.now (args.w * c.loop-i.i + args.q) 0 in
    reached_soon args.masks.now args.w args.q (c.loop-i.i + 1)
    (bit_or c.loop-i.one x)
    (bit_or c.loop-i.two (bit_and c.loop-i.one x))
    (seeing_more args.masks.now args.w args.q c.requires.1 c.loop-i.i
    c.loop-i.one c.loop-i.two c.loop-i.invariant.1)
    args.wanted args.n (omega arith) c.if-two-wanted.true

pub loop-i-preserved : goal.loop-i-preserved
loop-i-preserved c =
    let args = c.args in (
      omega arith,
      seeing_more args.masks.now args.w args.q c.requires.1 c.loop-i.i
          c.loop-i.one c.loop-i.two c.loop-i.invariant.1,
    )
