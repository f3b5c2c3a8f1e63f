-- The keywords of the bid text and of the list, as bytes (paper 01, "The bid text").
use Rattle.std.specs.Prelude.{ℕ, List, [], ◌∷◌}
use Prim.Native.Char.{code}
use Prim.Native.String.{String}
use Prim.Native.String as S

-- the bytes of a quoted text
unfoldable pub bytes : String → List ℕ
bytes S.[] = []
bytes (S.◌∷◌ c s) = code c ∷ bytes s

unfoldable pub tender_word : List ℕ
unfolding bytes
tender_word = bytes "tender"

unfoldable pub reserve_word : List ℕ
unfolding bytes
reserve_word = bytes "reserve"

unfoldable pub bid_word : List ℕ
unfolding bytes
bid_word = bytes "bid"

unfoldable pub single_word : List ℕ
unfolding bytes
single_word = bytes "single"

unfoldable pub multi_word : List ℕ
unfolding bytes
multi_word = bytes "multi"
