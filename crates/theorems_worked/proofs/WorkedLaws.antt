-- The starred tenders of paper 01 from text to list, by computation from the definitions. Assumes nothing.
use Rattle.std.specs.Prelude.{◌≡◌, refl, Bool, true, false, ◌&&◌, List, [], ◌∷◌, map, ℕ, length, get_or}
use Rattle.tender.specs.Tables.{flat_rows, flat_windows}
use Rattle.cover.specs.Sets.{covers, cells}
use Rattle.cover.specs.Sets as sets
use Rattle.cover.proofs.SetLaws.{and_split}
use Rattle.cover.specs.Greedy.{Rounds, stop, round, run, bids}
use Rattle.reader_parts.specs.Words.{equal_bytes}
use Rattle.reader_text.specs.Read.{ReadOutcome, accepted, refused, read_text}
use Rattle.award_check.specs.Cells.{no_row}
use Rattle.award_check.specs.Auction.{auction_of}
use Rattle.listing_text.specs.List.{list_of}
use Rattle.reader_parts.proofs.GivenLaws.{same_is}
use Rattle.theorems_worked.specs.WorkedCases.{Case, third, cases}

-- the list is the one defined
unfoldable pub right : Case → Bool
unfolding equal_bytes list_of read_text
right c = equal_bytes (list_of (read_text c.text)) c.list

unfoldable pub all_right : List Case → Bool
unfolding right
all_right [] = true
all_right (c ∷ cs) = right c && all_right cs

abbrev pub AllListed : List Case → Type 0
AllListed [] = Unit {0}
AllListed (c ∷ cs) = (list_of (read_text c.text) ≡ c.list) × AllListed cs

all_listed : (cs : List Case) → all_right cs ≡ true → AllListed cs
unfolding all_right right
all_listed [] e = tt
all_listed (c ∷ cs) e = let s = and_split (right c) (all_right cs) e in
    (same_is (list_of (read_text c.text)) c.list s.0, all_listed cs s.1)

tested : all_right cases ≡ true
unfolding all_right cases
tested = refl

-- each starred tender has the list of paper 01
pub worked : AllListed cases
worked = all_listed cases tested

-- the third tender

taken_in : Rounds → List ℕ
taken_in (stop O) = []
taken_in (round i c O t) = i ∷ taken_in t

-- the bidders in the order in which the rounds take them
unfoldable pub in_rounds : ReadOutcome → List ℕ
unfolding taken_in run bids auction_of cells no_row flat_rows flat_windows
in_rounds (refused r) = []
in_rounds (accepted t R W) = let A = auction_of t (length R) (flat_rows R) (flat_windows W) in
    map (λ i. (get_or R i no_row).bidder) (taken_in (run (bids A.has A.prices) (length R) A.cells (cells A.cells)))

-- whether a set of bids covers, and what it costs: bid i is bit i of the set
unfoldable pub set_covers : ReadOutcome → ℕ → Bool
unfolding covers auction_of flat_rows flat_windows
set_covers (refused r) s = false
set_covers (accepted t R W) s = let A = auction_of t (length R) (flat_rows R) (flat_windows W) in covers A.has (length R) A.cells s

unfoldable pub set_cost : ReadOutcome → ℕ → ℕ
unfolding sets.cost auction_of flat_rows flat_windows
set_cost (refused r) s = 0
set_cost (accepted t R W) s = sets.cost (auction_of t (length R) (flat_rows R) (flat_windows W)).prices s

-- taken: 21, 24, 22
pub third_rounds : in_rounds (read_text third.text) ≡ 21 ∷ 24 ∷ 22 ∷ []
unfolding in_rounds third read_text
third_rounds = refl

-- the cover 21 and 22, bits 0 and 1, costs 27, and the award 36: greedy is not least
pub third_cover : set_covers (read_text third.text) 3 ≡ true
unfolding set_covers third read_text
third_cover = refl

pub third_cost : set_cost (read_text third.text) 3 ≡ 27
unfolding set_cost third read_text
third_cost = refl
