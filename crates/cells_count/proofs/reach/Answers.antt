-- `cells::reach` meets its contract: before word q the sum counts the cells below 64 q that are set in both. Assumes nothing.
use Prim.Native.Nat.{ℕ, ◌*◌, ◌<◌}
use mathlib.Core.Path.{◌≡◌, sym, ap, ◌∙◌}
use native.Mathlib.Omega.{arith}
use lib.ListN.{length}
use Rattle.cells.specs.Cells.{total, both, common}
use lib.Count.{ones}
use Rattle.cells_count.specs.SumLaws.{total_both_le, none}
use Rattle.cells_count.specs.WalkLaws.{none_counted, run_sum, reach_gap}
use Rattle.cells_count.proofs.reach.Goals as goal

pub loop-q-init : goal.loop-q-init
loop-q-init c =
    let args = c.args in
    (omega arith, (sym (none args.held.now args.mask.now), c.requires.1.1.0))

pub overflow_sub-sum : goal.overflow_sub-sum
overflow_sub-sum c =
    let args = c.args in
    let P = c.requires in let l : c.loop-q.q < length args.mask.now = omega arith in
    let s = run_sum args.held.now args.mask.now args.hop.now (λ p. (c.type_inv.held p).fits) P.1.1.1
    c.loop-q.q l c.from-e.result c.loop-q.sum c.from-e.ensures c.count_to.ensures.0 c.count_to.ensures.1
    c.if-m.true c.loop-q.invariant.1.0 in s.0

pub overflow_add-sum : goal.overflow_add-sum
overflow_add-sum c =
    let args = c.args in
    let P = c.requires in let l : c.loop-q.q < length args.mask.now = omega arith in
    omega (
      arith,
      (run_sum args.held.now args.mask.now args.hop.now (λ p. (c.type_inv.held p).fits)
          P.1.1.1 c.loop-q.q l c.from-e.result c.loop-q.sum c.from-e.ensures c.count_to.ensures.0
          c.count_to.ensures.1 c.if-m.true c.loop-q.invariant.1.0).1,
      total_both_le args.held.now args.mask.now (64 * c.from-e.result),
      c.from-e.ensures,
      P.1.1.1.within c.loop-q.q l,
    )

pub loop-q-preserved-then-m : goal.loop-q-preserved-then-m
loop-q-preserved-then-m c =
    let args = c.args in
    let P = c.requires in let l : c.loop-q.q < length args.mask.now = omega arith in (
      omega (arith, c.from-e.ensures, P.1.1.1.within c.loop-q.q l),
      (
        (run_sum args.held.now args.mask.now args.hop.now (λ p. (c.type_inv.held p).fits) P.1.1.1
            c.loop-q.q l c.from-e.result c.loop-q.sum c.from-e.ensures c.count_to.ensures.0 c.count_to.ensures.1
            c.if-m.true c.loop-q.invariant.1.0).1,
        c.count_to.ensures.0,
      ),
    )

pub overflow_add-sum-then-x-ne0 : goal.overflow_add-sum-then-x-ne0
overflow_add-sum-then-x-ne0 c =
    let args = c.args in
    omega (arith, c.ones_of-sum.ensures.1, c.loop-q.invariant.1.0, total_both_le args.held.now args.mask.now (64 * c.loop-q.q))

pub loop-q-preserved-then-x-ne0 : goal.loop-q-preserved-then-x-ne0
loop-q-preserved-then-x-ne0 c =
    let args = c.args in
    let P = c.requires in let l : c.loop-q.q < length args.mask.now = omega arith in (
      omega (arith, c.from-e.ensures, P.1.1.1.within c.loop-q.q l),
      (
        rw c.from-e.ensures (omega (
          arith,
          c.ones_of-sum.ensures.0,
          reach_gap args.held.now args.mask.now args.hop.now (λ p. (c.type_inv.held p).fits) P.1.1.1
              c.loop-q.q l c.if-m.false,
        )),
        c.loop-q.invariant.1.1,
      ),
    )

pub loop-q-preserved : goal.loop-q-preserved
loop-q-preserved c =
    let args = c.args in
    let P = c.requires in let l : c.loop-q.q < length args.mask.now = omega arith in (
      omega (arith, c.from-e.ensures, P.1.1.1.within c.loop-q.q l),
      (
        rw c.from-e.ensures (omega (
          arith,
          c.loop-q.invariant.1.0,
          ap ones c.if-x-ne0.false,
          none_counted,
          reach_gap args.held.now args.mask.now args.hop.now (λ p. (c.type_inv.held p).fits) P.1.1.1
              c.loop-q.q l c.if-m.false,
        )),
        c.loop-q.invariant.1.1,
      ),
    )

pub returns : goal.returns
unfolding common
returns c =
    let args = c.args in
    let e : c.loop-q.q ≡ length args.held.now = omega arith in (
      c.loop-q.invariant.1.0 ∙ ap (λ (x : ℕ). total (both args.held.now args.mask.now) (64 * x)) e,
      c.loop-q.invariant.1.1,
    )
