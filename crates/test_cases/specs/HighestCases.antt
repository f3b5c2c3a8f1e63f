-- With which price a bid would win, by computation: ties in either kind, a bid that wins only with 0, one that wins with none, the house
-- beside owners, and what is refused. Assumes nothing.
use Rattle.std.specs.Prelude.{◌≡◌, refl, List, [], ◌∷◌, ◌++◌, Bool, true, false, ◌&&◌, ℕ, eqb, Some, None, Ok, Err}
use Rattle.tender.specs.declared.Kind.{Kind}
use Rattle.tender.specs.declared.Kind.TheVariants.{Single, Multi}
use Rattle.tender.specs.Types.{Reserve}
use Rattle.tender.specs.Types.{Highest}
use Rattle.tender.specs.Refusals.{number_of, place_of}
use Rattle.highest_rule.specs.Highest.{highest_of}
use Rattle.test_cases.specs.FaultCases.{bid_row, all_true}

-- answered with this price
unfoldable pub up_to : ℕ → Highest → Bool
up_to p (Ok (Some q)) = eqb p q
up_to p (Ok None) = false
up_to p (Err r) = false

-- that none wins
unfoldable pub with_none : Highest → Bool
with_none (Ok (Some q)) = false
with_none (Ok None) = true
with_none (Err r) = false

-- refused with this number and place
unfoldable pub declines : ℕ → ℕ → Highest → Bool
declines n at (Ok (Some q)) = false
declines n at (Ok None) = false
declines n at (Err r) = eqb n (number_of r) && eqb at (place_of r)

-- the tender from minute 0 on
unfoldable pub asks : Kind → ℕ → Reserve → ℕ → List ℕ → List ℕ → ℕ → Highest
unfolding highest_of
asks k end r n bids windows bidder =
    highest_of (record { kind = k; window = record { start = 0; end = end }; reserve = r }) n bids windows bidder

-- two bids with one window each, on the tender's one minute
unfoldable pub two : ℕ → ℕ → List ℕ
unfolding bid_row
two p q = bid_row 1 p 0 1 ++ bid_row 2 q 1 1

pub answers : all_true (
    -- the second is paid 4 and wins up to 3, since a tie is the first's; the first wins up to 3 too
    up_to 3 (asks Single 1 None 2 (two 4 3) (0 ∷ 1 ∷ 0 ∷ 1 ∷ []) 2)
    ∷ up_to 3 (asks Single 1 None 2 (two 4 3) (0 ∷ 1 ∷ 0 ∷ 1 ∷ []) 1)
    ∷ up_to 3 (asks Multi 1 None 2 (two 4 3) (0 ∷ 1 ∷ 0 ∷ 1 ∷ []) 2)
    ∷ up_to 3 (asks Multi 1 None 2 (two 4 3) (0 ∷ 1 ∷ 0 ∷ 1 ∷ []) 1)
    -- two at 0: the first wins with 0, the second with none
    ∷ up_to 0 (asks Single 1 None 2 (two 0 0) (0 ∷ 1 ∷ 0 ∷ 1 ∷ []) 1)
    ∷ with_none (asks Single 1 None 2 (two 0 0) (0 ∷ 1 ∷ 0 ∷ 1 ∷ []) 2)
    ∷ up_to 0 (asks Multi 1 None 2 (two 0 0) (0 ∷ 1 ∷ 0 ∷ 1 ∷ []) 1)
    ∷ with_none (asks Multi 1 None 2 (two 0 0) (0 ∷ 1 ∷ 0 ∷ 1 ∷ []) 2)
    -- no minute in the tender
    ∷ with_none (asks Single 1 (Some 2) 2 (two 0 1) (5 ∷ 6 ∷ 0 ∷ 1 ∷ []) 1)
    -- half the minutes beside the house
    ∷ up_to 1 (asks Multi 2 (Some 2) 1 (bid_row 1 3 0 1) (0 ∷ 1 ∷ []) 1)
    ∷ with_none (asks Single 2 (Some 2) 1 (bid_row 1 3 0 1) (0 ∷ 1 ∷ []) 1)
    -- a tie with the house, which is later
    ∷ up_to 2 (asks Single 1 (Some 2) 1 (bid_row 1 3 0 1) (0 ∷ 1 ∷ []) 1)
    ∷ []) ≡ true
unfolding all_true up_to with_none asks two bid_row
answers = refl

pub refusals : all_true (
    -- a number that no bid has, and one that stands past the count
    declines 17 0 (asks Single 1 None 2 (two 4 3) (0 ∷ 1 ∷ 0 ∷ 1 ∷ []) 3)
    ∷ declines 17 0 (asks Multi 1 None 2 (two 4 3 ++ bid_row 3 0 0 1) (0 ∷ 1 ∷ 0 ∷ 1 ∷ []) 3)
    -- before 17 stand 12, 11 and 9
    ∷ declines 12 0 (asks Single 1 None 1 (two 4 3) (0 ∷ 1 ∷ 0 ∷ 1 ∷ []) 2)
    ∷ declines 11 1 (asks Multi 2 None 2 (two 4 3) (0 ∷ 1 ∷ 0 ∷ 1 ∷ []) 3)
    ∷ declines 9 2 (asks Single 1 None 2 (two 4 3) (0 ∷ 1 ∷ 1 ∷ 1 ∷ []) 3)
    ∷ declines 9 0 (asks Single 1 None 3 (two 4 3) (0 ∷ 1 ∷ 0 ∷ 1 ∷ []) 1)
    ∷ []) ≡ true
unfolding all_true declines asks two bid_row
refusals = refl
