-- `cells::span` meets its contract: the first hi bits without the first lo. Assumes nothing.
use Rattle.cells.proofs.StoreLaws.{span_of}
use mathlib.Core.Path.{◌≡◌}
use Prim.Native.Nat.{◌-◌, ◌^◌}
use native.Mathlib.Omega.{arith}
use Rattle.cells.proofs.span.Goals as goal

pub returns : goal.returns
returns c =
    let args = c.args in
    let e1 : c.first_bits.result ≡ 2 ^ args.hi - 1 = c.first_bits.ensures.value in
    let e2 : c.first_bits-2.result ≡ 2 ^ args.lo - 1 = c.first_bits-2.ensures.value in
    rw (e1, e2) (span_of args.lo args.hi (omega arith) (omega arith))
