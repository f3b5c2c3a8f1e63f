-- Tenders with a reserve and the near misses of paper 02's request 5, by computation. Assumes nothing.
use Rattle.std.specs.Prelude.{◌≡◌, refl, List, [], ◌∷◌, ◌++◌, true, false, ℕ, Some}
use Rattle.std.proofs.Math.Option.{some, none}
use Rattle.tender.specs.declared.Kind.{Kind}
use Rattle.tender.specs.declared.Kind.TheVariants.{Single, Multi}
use Rattle.tender.specs.declared.Tender.{Tender}
use Rattle.tender.specs.declared.AwardRow.{AwardRow}
use Rattle.award_check.specs.Faults.{fault_of}
use Rattle.award_rule.specs.Award.{Outcome, awarded, award_of}
use Rattle.test_cases.specs.FaultCases.{refuses, try, bid_row, all_true}

-- a tender of the kind k from s to e with the reserve p
abbrev pub reserved_tender : Kind → ℕ → ℕ → ℕ → Tender
reserved_tender k s e p = record { kind = k; window = record { start = s; end = e }; reserve = Some p }

-- its award, n bids stated and n award rows lent
unfoldable pub try_reserve : Kind → ℕ → ℕ → ℕ → ℕ → List ℕ → List ℕ → Outcome
unfolding award_of
try_reserve k s e p n bids windows = award_of k (reserved_tender k s e p) n bids windows n

abbrev pub win : ℕ → AwardRow
win c = record { won = true; cents = c }

abbrev pub lose : AwardRow
lose = record { won = false; cents = 0 }

-- an award with this cost and sum paid that the house wins, or does not
abbrev pub with_house : List AwardRow → ℕ → ℕ → Outcome
with_house rows cost paid = awarded rows (record { cost = cost; paid = paid; house = true })

abbrev pub without_house : List AwardRow → ℕ → ℕ → Outcome
without_house rows cost paid = awarded rows (record { cost = cost; paid = paid; house = false })

-- no bids: the house
pub no_bids : try_reserve Single 0 1 5000 0 [] [] ≡ with_house [] 5000 0
unfolding try_reserve
no_bids = refl

pub no_bids_multi : try_reserve Multi 0 1 5000 0 [] [] ≡ with_house [] 5000 0
unfolding try_reserve
no_bids_multi = refl

-- one bid on (0 5) of (0 10) beside the reserve 100, at this price
unfoldable pub half : Kind → ℕ → Outcome
unfolding try_reserve bid_row
half k p = try_reserve k 0 10 100 1 (bid_row 1 p 0 1) (0 ∷ 5 ∷ [])

-- in a multi tender it wins beside the house up to half of the reserve
pub half_cheap : half Multi 10 ≡ with_house (win 50 ∷ []) 110 50
unfolding half
half_cheap = refl

pub half_even : half Multi 50 ≡ with_house (win 50 ∷ []) 150 50
unfolding half
half_even = refl

pub half_dear : half Multi 51 ≡ with_house (lose ∷ []) 100 0
unfolding half
half_dear = refl

-- in a single tender it cannot lower the cost
pub half_single : half Single 10 ≡ with_house (lose ∷ []) 100 0
unfolding half
half_single = refl

-- one bid on all of (0 10) beside the reserve 20, at this price: the house is later, and loses the tie
unfoldable pub whole : Kind → ℕ → Outcome
unfolding try_reserve bid_row
whole k p = try_reserve k 0 10 20 1 (bid_row 1 p 0 1) (0 ∷ 10 ∷ [])

pub tie_single : whole Single 20 ≡ without_house (win 20 ∷ []) 20 20
unfolding whole
tie_single = refl

pub tie_multi : whole Multi 20 ≡ without_house (win 20 ∷ []) 20 20
unfolding whole
tie_multi = refl

pub above_single : whole Single 21 ≡ with_house (lose ∷ []) 20 0
unfolding whole
above_single = refl

pub above_multi : whole Multi 21 ≡ with_house (lose ∷ []) 20 0
unfolding whole
above_multi = refl

-- 10 on (0 5) and 10 on (5 10) beside the reserve 20: each winner has a payment, though no other bid has its minutes
unfoldable pub halves : Kind → Outcome
unfolding try_reserve bid_row
halves k = try_reserve k 0 10 20 2 (bid_row 1 10 0 1 ++ bid_row 2 10 1 1) (0 ∷ 5 ∷ 5 ∷ 10 ∷ [])

pub halves_single : halves Single ≡ without_house (win 10 ∷ win 10 ∷ []) 20 20
unfolding halves
halves_single = refl

pub halves_multi : halves Multi ≡ without_house (win 20 ∷ win 20 ∷ []) 20 40
unfolding halves
halves_multi = refl

-- three bids with a lone owner: without a reserve 12, beside the reserve 5000 an award
unfoldable pub lone_bids : List ℕ
unfolding bid_row
lone_bids = bid_row 31 1200 0 1 ++ bid_row 32 900 1 1 ++ bid_row 33 1500 2 1

unfoldable pub lone_windows : List ℕ
lone_windows = 480 ∷ 560 ∷ 540 ∷ 600 ∷ 500 ∷ 600 ∷ []

pub lone_refused : refuses 12 480 (try Single Single 480 600 3 lone_bids lone_windows) ≡ true
unfolding refuses try lone_bids lone_windows
lone_refused = refl

pub lone_awarded : try_reserve Single 480 600 5000 3 lone_bids lone_windows
    ≡ without_house (win 4100 ∷ win 1500 ∷ lose ∷ []) 2100 5600
unfolding try_reserve lone_bids lone_windows
lone_awarded = refl

-- the reserve 0 beside a bid at 0 on all, and in a multi tender beside dearer bids
pub nothing_single : try_reserve Single 0 10 0 1 (bid_row 1 0 0 1) (0 ∷ 10 ∷ []) ≡ without_house (win 0 ∷ []) 0 0
unfolding try_reserve bid_row
nothing_single = refl

pub nothing_multi : try_reserve Multi 0 10 0 1 (bid_row 1 0 0 1) (0 ∷ 10 ∷ []) ≡ without_house (win 0 ∷ []) 0 0
unfolding try_reserve bid_row
nothing_multi = refl

pub nothing_beside : try_reserve Multi 0 10 0 2 (bid_row 1 1 0 1 ++ bid_row 2 2 1 1) (0 ∷ 10 ∷ 0 ∷ 5 ∷ [])
    ≡ with_house (lose ∷ lose ∷ []) 0 0
unfolding try_reserve bid_row
nothing_beside = refl

-- a reserve above its limit is a fault of the tender, and stands before one of a row; at its limit it is none
pub above_limit : fault_of Single (reserved_tender Single 0 10 100000001) 0 [] [] ≡ some 0
unfolding fault_of
above_limit = refl

pub at_limit : fault_of Single (reserved_tender Single 0 10 100000000) 0 [] [] ≡ none
unfolding fault_of
at_limit = refl

pub limits : all_true (
    refuses 9 0 (try_reserve Multi 0 10 100000001 1 (bid_row 0 5 0 1) (0 ∷ 10 ∷ []))
    ∷ refuses 9 1 (try_reserve Multi 0 10 100000000 1 (bid_row 0 5 0 1) (0 ∷ 10 ∷ []))
    -- the house takes no row, and a bid without one is still 10
    ∷ refuses 10 0 (award_of Single (reserved_tender Single 0 10 5) 1 (bid_row 1 5 0 1) (0 ∷ 10 ∷ []) 0)
    ∷ []) ≡ true
unfolding all_true refuses try_reserve bid_row award_of
limits = refl
