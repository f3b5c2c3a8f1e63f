-- `multi_keys::put` meets its contract: the nodes above the leaf are played one by one, and no other looks at what has changed.
-- Assumes nothing.
use mathlib.Core.Path.{refl, ◌∙◌}
use native.Mathlib.Omega.{arith}
use Rattle.multi_keys.proofs.TreeLaws.{put_starts, put_goes, put_ends, leaves_set, leaves_keep}
use Rattle.multi_keys.proofs.put.Goals as goal

pub loop-init : goal.loop-init
loop-init c = let A = c.args in (put_starts c.requires.0 A.i A.key c.requires.1, refl)

pub loop-preserved : goal.loop-preserved
loop-preserved c =
    let s = c.loop.invariant in (
      put_goes s.0 (omega (arith, c.loop-test)) (c.min-x.ensures ∙ rw c.beside.ensures),
      leaves_keep _ _ _ (omega (arith, s.0.inside)) ∙ s.1,
    )

pub returns : goal.returns
returns c =
    let s = c.loop.invariant in
    let A = c.args in
    (put_ends s.0 (omega (arith, c.loop-test)), s.1 ∙ leaves_set A.tree.now A.i A.key)
