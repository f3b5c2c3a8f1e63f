-- `cells::add_bits` meets its contract: one word gets the bits of a span. Assumes nothing.
use native.Mathlib.Omega.{arith}
use Rattle.cells.proofs.StoreLaws.{bits_added}
use Rattle.cells.proofs.add_bits.Goals as goal

pub returns : goal.returns
returns c =
    let args = c.args in
    bits_added args.words.now args.w (omega arith) args.lo args.hi c.span.result (omega arith) (omega arith)
    c.span.ensures
