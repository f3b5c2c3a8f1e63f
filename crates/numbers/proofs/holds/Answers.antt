-- `numbers::holds` meets its contract: the word turned back and shifted down by x % 64, its lowest bit. Assumes nothing.
use mathlib.Core.Path.{sym, ap, ◌∙◌}
use Prim.Native.Nat.{ℕ, ◌/◌, ◌%◌, ◌^◌}
use native.Mathlib.Omega.{arith}
use lib.ListN.{get_or}
use lib.Dec.{eqb}
use lib.Bits.{bit_xor, and_mask}
use Rattle.cells.specs.Cells.{cell}
use Rattle.numbers.specs.MembersLaws.{member_word}
use Rattle.numbers.proofs.holds.Goals as goal

pub returns : goal.returns
unfolding cell
returns c =
    let args = c.args in
    let set = args.set.now in
    let x = args.x in
    ap (λ (v : ℕ). eqb v 1) (and_mask (bit_xor (get_or set (x / 64) 0) 1 / 2 ^ (x % 64)) 1
    ∙ ap (λ (w : ℕ). w / 2 ^ (x % 64) % 2) (sym (member_word set (x / 64) (omega (arith, c.requires)))))
