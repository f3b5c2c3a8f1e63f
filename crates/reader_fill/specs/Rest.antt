-- Where the lines of a text end, and what the bytes past that place are.
use Rattle.std.specs.Prelude.{◌≡◌, List, [], ◌∷◌, Bool, true, false, ℕ, ◌-◌, ◌≤◌, ◌<◌, length, get_or, drop}
use Rattle.std.proofs.Math.Option.{Option, none}
use Rattle.reader_parts.specs.Words.{among}
use Rattle.reader_forms.specs.Line.{Line}

-- the last byte 10 stands before e, which is 0 where there is none
pub record LinesEnd (text : List ℕ) (e : ℕ) : Type 0 where
  pub inside : e ≤ length text
  pub last : 0 < e → get_or text (e - 1) 0 ≡ 10
  pub none_after : among 10 (drop e text) ≡ false

-- a rest, which no byte 10 ends, is a line of no form
unfoldable pub rest_line : Bool → List (Option Line)
rest_line true = none ∷ []
rest_line false = []
