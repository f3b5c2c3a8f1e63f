-- The words of a set from those that are kept: the lowest bit of each is turned.
use Rattle.std.specs.Prelude.{ℕ, List, map}
use Rattle.std.specs.Int.Bits.{bit_xor}

unfoldable pub members : List ℕ → List ℕ
members ws = map (λ w. bit_xor w 1) ws
