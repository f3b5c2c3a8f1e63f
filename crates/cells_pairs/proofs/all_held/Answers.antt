-- `cells_pairs::all_held` meets its contract: before pair p all cells of the pairs a up to p are held. Assumes nothing.
use Prim.Native.Nat.{◌+◌, ◌*◌}
use native.Mathlib.Omega.{arith}
use lib.ListN.{get_or}
use Rattle.cells_pairs.specs.PairLaws.{held_none, held_more, held_not}
use Rattle.cells_pairs.proofs.all_held.Goals as goal

pub loop-p-init : goal.loop-p-init
loop-p-init c =
    let args = c.args in
    (omega arith, (omega arith, held_none args.held.now args.pairs.now args.a))

pub returns-then-pairs-p-ne0 : goal.returns-then-pairs-p-ne0
returns-then-pairs-p-ne0 c =
    let args = c.args in
    let loop = c.loop-p in
    held_not args.held.now args.pairs.now args.a loop.p loop.invariant.0
    (c.type_inv.held (get_or args.pairs.now (2 * loop.p) 0)).fits
    (c.type_inv.pairs (2 * loop.p + 1)).fits args.z (omega arith) c.if-pairs-p-ne0.true

pub loop-p-preserved : goal.loop-p-preserved
loop-p-preserved c =
    let args = c.args in
    let loop = c.loop-p in (
      omega arith,
      (
        omega arith,
        held_more args.held.now args.pairs.now args.a loop.p loop.invariant.0
            (c.type_inv.held (get_or args.pairs.now (2 * loop.p) 0)).fits
            (c.type_inv.pairs (2 * loop.p + 1)).fits c.if-pairs-p-ne0.false loop.invariant.1.1,
      ),
    )
