-- `cells_pairs::cut` meets its contract: before word q the pairs at up to c are the common cells of the words before q. Assumes nothing.
use mathlib.Core.Path.{refl, ◌∙◌}
use Prim.Native.Nat.{◌+◌}
use native.Mathlib.Omega.{arith}
use Rattle.cells_pairs.specs.CutLaws.{Cutting, cutting_none, cutting_bare, cutting_pair, cutting_on, cutting_all, pair_fits}
use Rattle.cells_pairs.proofs.cut.Goals as goal
use Rattle.cells_pairs.proofs.cut.Goals.{then-x-ne0, else-x-ne0}

pub loop-q-init : goal.loop-q-init
loop-q-init c =
    let args = c.args in
    (omega arith, (refl, cutting_none args.held.now args.mask.now args.pairs.now args.at))

pub put-requires : goal.put-requires
put-requires c =
    let args = c.args in
    let loop = c.loop-q in
    omega (
      arith,
      pair_fits args.held.now args.mask.now loop.invariant.1.1 (c.type_inv.held loop.q).fits c.if-x-ne0.true (omega arith),
      c.requires.1.1.1.0,
      loop.invariant.1.0,
    )

pub overflow_add-c : goal.overflow_add-c
overflow_add-c c =
    let args = c.args in
    let loop = c.loop-q in
    omega (arith, pair_fits args.held.now args.mask.now loop.invariant.1.1 (c.type_inv.held loop.q).fits c.if-x-ne0.true (omega arith))

pub loop-q-preserved : goal.loop-q-preserved
loop-q-preserved c =
    let held = c.args.held.now in
    let mask = c.args.mask.now in
    let pre = c.requires in
    let loop = c.loop-q in
    let fits = (c.type_inv.held loop.q).fits in
    let done : Cutting held mask c.args.pairs.now c.if-x-ne0.pairs c.args.at (loop.q + 1) c.if-x-ne0.c = elim c.if-x-ne0.branch [
      | then-x-ne0 w ↦ let room = pair_fits held mask loop.invariant.1.1 fits w.if-x-ne0.true (omega arith) in
          rw (w.pairs-is, w.c-is, w.put.ensures) (cutting_pair held mask loop.invariant.1.1 fits w.if-x-ne0.true
          (omega (arith, room, pre.1.1.1.0, loop.invariant.1.0)))
      | else-x-ne0 w ↦ rw (w.pairs-is, w.c-is) (cutting_bare held mask loop.invariant.1.1 w.if-x-ne0.false)
    ] in (
      omega (arith, c.onward-q.ensures.within, pre.0),
      (
        c.if-x-ne0.auto.pairs ∙ loop.invariant.1.0,
        cutting_on held mask c.onward-q.result done c.onward-q.ensures,
      ),
    )

pub returns : goal.returns
returns c =
    let args = c.args in
    let pre = c.requires in
    let loop = c.loop-q in
    cutting_all args.held.now args.mask.now loop.invariant.1.1 (omega arith) (omega (arith, pre.1.1.1.0, loop.invariant.1.0))
