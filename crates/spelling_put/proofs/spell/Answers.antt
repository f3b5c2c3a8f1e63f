-- Each turn writes the last digit of what is left. Assumes nothing.
use native.Mathlib.Omega.{arith}
use Rattle.spelling.proofs.SpellingLaws.{spell_begins, spell_goes, spell_ends}
use Rattle.spelling_put.proofs.spell.Goals as goal

pub loop-v-init : goal.loop-v-init
loop-v-init c = spell_begins c.args.n c.args.digits.now (omega arith) c.requires

pub loop-v-preserved : goal.loop-v-preserved
loop-v-preserved c = spell_goes c.args.n c.loop-v.digits c.loop-v.v c.loop-v.i (omega arith)
    c.loop-v.invariant

pub returns : goal.returns
returns c = (
  spell_ends c.args.n c.loop-v.digits c.loop-v.v c.loop-v.i (omega arith)
      c.loop-v.invariant,
  omega arith,
)
