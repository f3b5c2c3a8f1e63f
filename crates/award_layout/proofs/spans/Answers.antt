-- `award_layout::spans` meets its contract: the starts and ends of the bids passed are written. Assumes nothing.
use native.Mathlib.Omega.{arith}
use lib.ListN.{length, length-set}
use Rattle.tender.specs.Tables.{window_at}
use Rattle.award_check.specs.Cells.{bid_row_at}
use Rattle.award_layout.specs.Orderly.{clipped}
use Rattle.award_layout.specs.LaidLaws.{filled_more, first_room}
use Rattle.award_layout.proofs.spans.Goals as goal

pub bounds-windows-j : goal.bounds-windows-j
bounds-windows-j c =
    let args = c.args in
    omega (
      arith,
      first_room args.tender (length args.starts.now) args.bids.now args.windows.now c.requires.0
          c.loop-i.i (omega arith),
    )

pub bounds-windows-j-in-loop-i : goal.bounds-windows-j-in-loop-i
bounds-windows-j-in-loop-i c =
    let args = c.args in
    omega (
      arith,
      first_room args.tender (length args.starts.now) args.bids.now args.windows.now c.requires.0 c.loop-i.i
          (omega arith),
    )

pub loop-i-preserved : goal.loop-i-preserved
loop-i-preserved c =
    let args = c.args in (
      omega arith,
      (
        simp length-set c.loop-i.invariant.1.0,
        (
          simp length-set c.loop-i.invariant.1.1.0,
          record {
            starts_are = filled_more (λ j. clipped args.tender
                (window_at args.windows.now (bid_row_at args.bids.now j).first).start) c.loop-i.starts c.loop-i.i (omega arith)
                c.loop-i.invariant.1.1.1.starts_are _ c.clip.ensures;
            ends_are = filled_more (λ j. clipped args.tender
                (window_at args.windows.now (bid_row_at args.bids.now j).first).end) c.loop-i.ends c.loop-i.i
                (omega (arith, c.loop-i.invariant.1.1.0, c.requires.1.0)) c.loop-i.invariant.1.1.1.ends_are _ c.clip-in-loop-i.ensures;
          },
        ),
      ),
    )
