-- Tenders that are refused with 11 or 12, each at its earliest minute, by computation. Assumes nothing.
use Rattle.std.specs.Prelude.{◌≡◌, refl, List, [], ◌∷◌, ◌++◌, true, ℕ}
use Rattle.tender.specs.declared.Kind.TheVariants.{Single, Multi}
use Rattle.test_cases.specs.FaultCases.{refuses, try, bid_row, all_true}

-- four bids of one window each
unfoldable pub four_of_one : List ℕ
unfolding bid_row
four_of_one = bid_row 1 1 0 1 ++ bid_row 2 1 1 1 ++ bid_row 3 1 2 1 ++ bid_row 4 1 3 1

pub thin : all_true (
    -- minutes 500 to 509 in no bid, the others in two
    refuses 11 500 (try Single Single 480 600 4 four_of_one (480 ∷ 500 ∷ 480 ∷ 500 ∷ 510 ∷ 600 ∷ 510 ∷ 600 ∷ []))
    -- minute 3 in one bid, and the later minute 7 in none
    ∷ refuses 11 7 (try Multi Multi 0 9 2 (bid_row 1 1 0 1 ++ bid_row 2 1 1 3) (0 ∷ 7 ∷ 0 ∷ 3 ∷ 4 ∷ 7 ∷ 8 ∷ 9 ∷ []))
    -- the first minute of a word, and the last
    ∷ refuses 11 64 (try Multi Multi 0 128 4 four_of_one (0 ∷ 64 ∷ 0 ∷ 64 ∷ 65 ∷ 128 ∷ 65 ∷ 128 ∷ []))
    ∷ refuses 12 63 (try Multi Multi 0 128 3 (bid_row 1 1 0 1 ++ bid_row 2 1 1 1 ++ bid_row 3 1 2 1)
    (0 ∷ 63 ∷ 0 ∷ 128 ∷ 64 ∷ 128 ∷ []))
    ∷ []) ≡ true
unfolding all_true refuses try bid_row four_of_one
thin = refl
