-- `multi_keys::key_of` meets its contract: it computes the key as it is defined, and no key exceeds a word. Assumes nothing.
use mathlib.Core.Path.{◌≡◌}
use native.Mathlib.Omega.{arith}
use Rattle.multi_keys.proofs.KeyLaws.{key_none, key_some}
use Rattle.multi_keys.proofs.key_of.Goals as goal

pub returns-then-cells-eq0 : goal.returns-then-cells-eq0
returns-then-cells-eq0 c = let A = c.args in let e : A.cells ≡ 0 = omega arith in rw (e, key_none A.price A.i)

pub returns : goal.returns
returns c = let A = c.args in omega (arith, key_some A.price A.cells A.i (omega arith))
