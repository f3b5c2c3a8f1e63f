-- Tables that are refused with 9 or 10, by computation. Assumes nothing.
use Rattle.std.specs.Prelude.{◌≡◌, refl, List, [], ◌∷◌, ◌++◌, Bool, true, ◌&&◌, ℕ, zero, suc, ◌+◌, eqb}
use Rattle.std.proofs.Math.Option.{some}
use Rattle.tender.specs.declared.Kind.{Kind}
use Rattle.tender.specs.declared.Kind.TheVariants.{Single, Multi}
use Rattle.tender.specs.Plain.{plain_tender}
use Rattle.award_check.specs.Faults.{fault_of}
use Rattle.award_rule.specs.Award.{Outcome, award_of, outcome_number, outcome_place}

unfoldable pub refuses : ℕ → ℕ → Outcome → Bool
unfolding outcome_number outcome_place
refuses m p a = eqb (outcome_number a) m && eqb (outcome_place a) p

-- an award of the kind k to a tender of the kind l from s to e, n bids stated and n award rows lent
unfoldable pub try : Kind → Kind → ℕ → ℕ → ℕ → List ℕ → List ℕ → Outcome
unfolding award_of
try k l s e n bids windows = award_of k (plain_tender l s e) n bids windows n

unfoldable pub bid_row : ℕ → ℕ → ℕ → ℕ → List ℕ
bid_row b p f c = b ∷ p ∷ f ∷ c ∷ []

unfoldable pub all_true : List Bool → Bool
all_true [] = true
all_true (b ∷ bs) = b && all_true bs

pub nine : all_true (
    -- the tender, the kind, the stated count
    refuses 9 0 (try Single Multi 0 10 0 [] []) ∷ refuses 9 0 (try Multi Single 0 10 0 [] [])
    ∷ refuses 9 0 (try Single Single 10 10 0 [] []) ∷ refuses 9 0 (try Single Single 0 10081 0 [] [])
    ∷ refuses 9 0 (try Single Single 0 10 1 [] []) ∷ refuses 9 0
    (try Single Single 0 10 2 (bid_row 1 5 0 1 ++ 2 ∷ 5 ∷ 1 ∷ []) (0 ∷ 10 ∷ 0 ∷ 10 ∷ []))
    -- the tender stands before a row
    ∷ refuses 9 0 (try Single Single 10 10 1 (bid_row 0 5 0 1) (0 ∷ 10 ∷ []))
    -- limits
    ∷ refuses 9 1 (try Single Single 0 10 1 (bid_row 0 5 0 1) (0 ∷ 10 ∷ []))
    ∷ refuses 9 1 (try Single Single 0 10 1 (bid_row 1000000 5 0 1) (0 ∷ 10 ∷ []))
    ∷ refuses 9 1 (try Single Single 0 10 1 (bid_row 1 100000001 0 1) (0 ∷ 10 ∷ []))
    ∷ refuses 9 1 (try Single Single 0 10 1 (bid_row 1 5 0 1) (10 ∷ 10 ∷ []))
    ∷ refuses 9 1 (try Single Single 0 10 1 (bid_row 1 5 0 1) (0 ∷ 10081 ∷ []))
    -- number of windows
    ∷ refuses 9 1 (try Single Single 0 10 1 (bid_row 1 5 0 0) [])
    ∷ refuses 9 1 (try Single Single 0 10 1 (bid_row 1 5 0 2) (0 ∷ 5 ∷ 5 ∷ 10 ∷ []))
    -- bidder number new, windows where the row before ended, inside the lent rows
    ∷ refuses 9 2 (try Multi Multi 0 10 2 (bid_row 1 5 0 1 ++ bid_row 1 6 1 1) (0 ∷ 10 ∷ 0 ∷ 10 ∷ []))
    ∷ refuses 9 2 (try Multi Multi 0 10 2 (bid_row 1 5 0 1 ++ bid_row 2 6 0 1) (0 ∷ 10 ∷ 0 ∷ 10 ∷ []))
    ∷ refuses 9 1 (try Multi Multi 0 10 1 (bid_row 1 5 1 1) (0 ∷ 10 ∷ 0 ∷ 10 ∷ []))
    ∷ refuses 9 2 (try Multi Multi 0 10 2 (bid_row 1 5 0 1 ++ bid_row 2 6 1 1) (0 ∷ 10 ∷ 0 ∷ []))
    -- rows past the stated count, and cells past the last whole row, say nothing
    ∷ refuses 12 0 (try Multi Multi 0 10 1 (bid_row 1 5 0 1 ++ bid_row 0 0 0 0 ++ 7 ∷ []) (0 ∷ 10 ∷ 5 ∷ 5 ∷ 3 ∷ []))
    ∷ []) ≡ true
unfolding all_true refuses try bid_row
nine = refl

unfoldable pub short_rows : Outcome
unfolding award_of bid_row
short_rows = award_of Single (plain_tender Single 0 10) 1 (bid_row 1 5 0 1) (0 ∷ 5 ∷ []) 0

-- 10 after 9 and before 11
pub ten : refuses 10 0 short_rows ≡ true
unfolding refuses short_rows
ten = refl

-- n bids on (0 10), the first by bidder b + 1
unfoldable pub many : ℕ → ℕ → List ℕ
many zero b = []
many (suc n) b = (b + 1) ∷ 1 ∷ b ∷ 1 ∷ many n (b + 1)

unfoldable pub same_windows : ℕ → List ℕ
same_windows zero = []
same_windows (suc n) = 0 ∷ 10 ∷ same_windows n

-- too many bids; a faulty row before stands
pub bids_too_many : fault_of Multi (plain_tender Multi 0 10) 1001 (many 1001 0) (same_windows 1001)
    ≡ some 1001
unfolding fault_of many same_windows
bids_too_many = refl

pub row_first : fault_of Multi (plain_tender Multi 0 10) 1001 (many 3 0 ++ many 998 5)
    (same_windows 1001)
    ≡ some 4
unfolding fault_of many same_windows
row_first = refl
