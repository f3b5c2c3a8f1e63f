-- `cells::close_counted` meets its contract: before word q the cells below 64 q are cleared of the mask, and the words up to
-- which the cells are counted are not cleared. Assumes nothing.
use mathlib.Core.Path.{◌≡◌, refl}
use native.Mathlib.Omega.{arith}
use lib.ListN.{length, length-set}
use Rattle.cells.proofs.StoreLaws.{swept_more, swept_all}
use Rattle.cells_count.specs.WalkLaws.{swept_first, swept_on}
use Rattle.cells_count.specs.CountsLaws.{counted_set}
use Rattle.cells_count.proofs.close_counted.Goals as goal

pub loop-q-init : goal.loop-q-init
loop-q-init c =
    let args = c.args in
    let P = c.requires in (
      omega (arith, c.first_word-q.ensures.0, P.0),
      (
        refl,
        (
          swept_first c.first_word-q.result args.held.now args.mask.now c.first_word-q.ensures.1,
          c.count_back.ensures,
        ),
      ),
    )

pub loop-q-preserved : goal.loop-q-preserved
loop-q-preserved c =
    let args = c.args in
    let s = c.loop-q.invariant.1 in let l : length c.loop-q.held ≡ length args.held.now = s.0 in (
      simp length-set (omega (arith, c.onward-q.ensures.within)),
      (
        simp length-set s.0,
        (
          swept_on c.loop-q.q c.onward-q.result args.held.now args.mask.now _
              (swept_more c.loop-q.q args.held.now args.mask.now c.loop-q.held s.1.0 (omega arith)
              (c.type_inv.mask c.loop-q.q).fits) c.onward-q.ensures,
          (counted_set c.loop-q.q _ s.1.1.0 (rw l s.1.1.1), omega (arith, c.onward-q.ensures.on, s.1.1.1)),
        ),
      ),
    )

pub returns : goal.returns
returns c =
    let args = c.args in
    let s = c.loop-q.invariant.1 in (
      swept_all c.loop-q.q args.held.now args.mask.now c.loop-q.held
          s.1.0 (omega arith) c.requires.0,
      s.1.1.0,
    )
