-- What the lines of a bid text and of a list have in common: one space between parts, a bracket and byte 10 at the end.
use Rattle.std.specs.Prelude.{List, [], ◌∷◌, ◌++◌, ℕ}
use Rattle.tender.specs.declared.Kind.{Kind}
use Rattle.tender.specs.declared.Kind.TheVariants.{Single, Multi}
use Rattle.tender.specs.declared.Refusal.{Refusal}
use Rattle.tender.specs.Refusals.{number_of, place_of}
use Rattle.tender.specs.Keywords.{bytes, single_word, multi_word}
use Rattle.spelling.specs.Decimal.{decimal}

-- the bytes that end a line
unfoldable pub closing : List ℕ
unfolding bytes
closing = bytes ")\n"

-- the two numbers that end a line
unfoldable pub numbers : ℕ → ℕ → List ℕ
unfolding decimal closing
numbers a b = (32 ∷ decimal a) ++ (32 ∷ decimal b) ++ closing

-- (word a b)
unfoldable pub pair_line : List ℕ → ℕ → ℕ → List ℕ
unfolding numbers
pair_line word a b = (40 ∷ []) ++ word ++ numbers a b

-- (word p), both as bytes
abbrev pub one_line_as : List ℕ → List ℕ → List ℕ
one_line_as word p = (40 ∷ []) ++ word ++ (32 ∷ p) ++ closing

-- (word a)
unfoldable pub one_line : List ℕ → ℕ → List ℕ
unfolding decimal closing
one_line word a = one_line_as word (decimal a)

unfoldable pub kind_word : Kind → List ℕ
unfolding single_word multi_word
kind_word Single = single_word
kind_word Multi = multi_word

unfoldable pub refused_word : List ℕ
unfolding bytes
refused_word = bytes "refused"

-- the line of a refusal: its number and place
unfoldable pub refused_line : Refusal → List ℕ
unfolding pair_line refused_word
refused_line r = pair_line refused_word (number_of r) (place_of r)
