-- `cells_pairs::close_pairs` meets its contract: before pair p the cells of the pairs a up to p are cleared, and no sum is counted.
-- Assumes nothing.
use Prim.Native.Nat.{◌+◌, ◌*◌, ◌<◌}
use mathlib.Core.Path.{◌≡◌, refl}
use native.Mathlib.Omega.{arith}
use lib.ListN.{length, get_or, length-set}
use Rattle.cells_count.specs.CountsLaws.{counted_last, counted_set}
use Rattle.cells_pairs.specs.PairLaws.{shut_none, shut_more, counted_not}
use Rattle.cells_pairs.proofs.close_pairs.Goals as goal

pub loop-p-init : goal.loop-p-init
loop-p-init c =
    let args = c.args in
    let pre = c.requires in (
      omega arith,
      (
        pre.0.rising,
        (
          refl,
          (
            shut_none args.held.now args.pairs.now args.a,
            (counted_not pre.1.1, counted_last args.held.now args.counts.now 0 pre.1.1.size),
          ),
        ),
      ),
    )

pub loop-p-preserved : goal.loop-p-preserved
loop-p-preserved c =
    let args = c.args in
    let loop = c.loop-p in
    let s = loop.invariant.1.1 in
    let there : get_or args.pairs.now (2 * loop.p) 0 < length loop.held = omega (
      arith,
      c.requires.0.words loop.p loop.invariant.0 (omega arith),
      s.0,
    ) in
    let same : length loop.held ≡ length args.held.now = s.0 in (
      omega arith,
      (
        omega arith,
        (
          simp length-set s.0,
          (
            shut_more args.pairs.now loop.held loop.p there (c.type_inv.pairs (2 * loop.p + 1)).fits
                args.held.now args.a loop.invariant.0 s.1.0,
            (counted_set (get_or args.pairs.now (2 * loop.p) 0) _ s.1.1.0 (rw same (omega (arith, s.1.1.1))), s.1.1.1),
          ),
        ),
      ),
    )
