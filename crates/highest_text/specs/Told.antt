-- What is written to who asks with which price a bid of a text would win (paper 02, request 8), and the promise of the call for C.
use Rattle.std.specs.Prelude.{List, ◌∷◌, ◌++◌, ℕ, length, Some, None, Ok, Err}
use Rattle.tender.specs.Types.{Highest}
use Rattle.tender.specs.Keywords.{bytes}
use Rattle.tender.specs.Tables.{flat_rows, flat_windows}
use Rattle.reader_text.specs.Read.{ReadOutcome, accepted, refused, read_text}
use Rattle.spelling.specs.Decimal.{decimal}
use Rattle.spelling.specs.Lines.{pair_line, refused_line}
use Rattle.spelling.specs.Delivered.{Delivered}
use Rattle.highest_rule.specs.Highest.{highest_of}

unfoldable pub highest_word : List ℕ
unfolding bytes
highest_word = bytes "highest"

-- (highest bidder none)
unfoldable pub none_line : ℕ → List ℕ
unfolding bytes decimal
none_line bidder = bytes "(highest" ++ (32 ∷ decimal bidder) ++ bytes " none)\n"

-- (highest bidder price), that no price wins, or the line of the refusal
unfoldable pub highest_line : ℕ → Highest → List ℕ
unfolding pair_line highest_word none_line refused_line
highest_line bidder (Ok (Some p)) = pair_line highest_word bidder p
highest_line bidder (Ok None) = none_line bidder
highest_line bidder (Err r) = refused_line r

-- by what reading the text answers: of what was read
unfoldable pub highest_in : ReadOutcome → ℕ → List ℕ
unfolding refused_line highest_line highest_of flat_rows flat_windows
highest_in (refused r) bidder = refused_line r
highest_in (accepted t R W) bidder = highest_line bidder (highest_of t (length R) (flat_rows R) (flat_windows W) bidder)

-- The promise of a call with the text, a bidder number and a lent buffer of the bytes `old`: it answers r and leaves the bytes `new`.
-- Where the line is longer than the buffer the answer is 0 and the buffer unchanged
pub record HighestTold (text : List ℕ) (bidder : ℕ) (old new : List ℕ) (r : ℕ) : Type 0 where
  pub delivers : Delivered (highest_in (read_text text) bidder) old new r
