-- `multi_keys::play` meets its contract: from node v on each has the lesser of the two below it. Assumes nothing.
use mathlib.Core.Path.{refl, ◌∙◌}
use native.Mathlib.Omega.{arith}
use Rattle.multi_keys.proofs.TreeLaws.{play_starts, play_goes, play_ends, leaves_keep}
use Rattle.multi_keys.proofs.play.Goals as goal

pub loop-v-init : goal.loop-v-init
loop-v-init c = (omega arith, (play_starts c.args.tree.now c.requires (omega arith), refl))

pub loop-v-preserved : goal.loop-v-preserved
loop-v-preserved c =
    let s = c.loop-v.invariant in (
      omega (arith, s.0),
      (
        play_goes s.1.0 (omega (arith, c.loop-v-test)) s.0 c.min.ensures,
        leaves_keep _ _ _ (omega (arith, s.0)) ∙ s.1.1,
      ),
    )

pub returns : goal.returns
returns c = let s = c.loop-v.invariant in (play_ends s.1.0 (omega arith), s.1.1)
