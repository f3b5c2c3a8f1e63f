-- `cells::holds` meets its contract: the word shifted down by x % 64, its lowest bit. Assumes nothing.
use mathlib.Core.Path.{ap}
use Prim.Native.Nat.{ℕ, ◌/◌, ◌%◌, ◌^◌}
use lib.ListN.{get_or}
use lib.Dec.{eqb}
use lib.Bits.{and_mask}
use Rattle.cells.specs.Cells.{cell}
use Rattle.cells.proofs.holds.Goals as goal

pub returns : goal.returns
unfolding cell
returns c =
    let args = c.args in
    ap (λ (v : ℕ). eqb v 1) (and_mask (get_or args.words.now (args.x / 64) 0 / 2 ^ (args.x % 64)) 1)
