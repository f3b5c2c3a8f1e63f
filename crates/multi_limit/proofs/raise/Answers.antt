-- `multi_limit::raise` meets its contract: the product of the bid's price and k's cells, divided by the bid's cells, and on a tie the bid
-- entered earlier is taken. Assumes nothing.
use Prim.Native.Nat.{◌*◌}
use mathlib.Core.Path.{refl}
use Rattle.multi_limit.specs.RaiseLaws.{product_small, raise_zero, raise_late, raise_early}
use Rattle.multi_limit.proofs.raise.Goals as goal

pub returns-then-x-eq0 : goal.returns-then-x-eq0
returns-then-x-eq0 c = let P = c.requires in let A = c.args in
    raise_zero A.k A.i A.price A.cells A.mine (A.price * A.mine) refl P.1.1.0
    (product_small A.price A.mine P.0 P.1.1.1) c.if-i-k.true c.if-x-eq0.true

pub returns-then-i-k : goal.returns-then-i-k
returns-then-i-k c = let P = c.requires in let A = c.args in
    raise_late A.k A.i A.price A.cells A.mine (A.price * A.mine) refl P.1.1.0
    (product_small A.price A.mine P.0 P.1.1.1) c.if-i-k.true c.if-x-eq0.false

pub returns : goal.returns
returns c = let P = c.requires in let A = c.args in
    raise_early A.k A.i A.price A.cells A.mine (A.price * A.mine) refl P.1.1.0
    (product_small A.price A.mine P.0 P.1.1.1) c.if-i-k.false
