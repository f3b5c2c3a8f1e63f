-- `cells::add` meets its contract: the word that holds cell x gets one bit more. Assumes nothing.
use native.Mathlib.Omega.{arith}
use Rattle.cells.proofs.StoreLaws.{one_added}
use Rattle.cells.proofs.add.Goals as goal

pub returns : goal.returns
returns c =
    let args = c.args in
    one_added args.words.now args.x (omega arith)
