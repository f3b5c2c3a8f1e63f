-- The whole answer of either award to its tables (paper 01, "Who wins and what is paid" and "What each operation declines").
use Rattle.std.specs.Prelude.{List, Bool, cond, ◌&&◌, ℕ, length, get_or, ltb}
use Rattle.std.proofs.Math.Option.{Option, none, some}
use Rattle.tender.specs.declared.Kind.{Kind}
use Rattle.tender.specs.declared.Kind.TheVariants.{Single, Multi}
use Rattle.tender.specs.declared.Tender.{Tender}
use Rattle.tender.specs.declared.Totals.{Totals}
use Rattle.tender.specs.declared.Refusal.{Refusal}
use Rattle.tender.specs.declared.Refusal.TheVariants.{BadTables, RowsTooFew, MinuteUncovered, OneBidder}
use Rattle.tender.specs.Refusals.{number_of, place_of}
use Rattle.cover.specs.Sets.{when, Found, nothing, found, bit, covers, cells}
use Rattle.cover.specs.LeastCover.{winners, vcg_paid}
use Rattle.cover.specs.Greedy.{wins}
use Rattle.cover.specs.CriticalPrice.{critical_paid, sum}
use Rattle.cover.specs.Settled.{listed}
use Rattle.award_check.specs.Faults.{fault_of}
use Rattle.award_check.specs.Cells.{minute_of}
use Rattle.award_check.specs.Auction.{Auction, auction_of, reserved, thin_cell}
use Rattle.tender.specs.declared.AwardRow.{AwardRow}

-- the rules by which tenders are awarded
pub data Rule : Type 0 where
  least_cost : Rule
  greedy : Rule

-- the rule of a kind
abbrev pub rule : Kind → Rule
rule Single = least_cost
rule Multi = greedy

-- whether a set of entries, entry i its bit i, covers the tender
abbrev pub covers_in : Auction → ℕ → Bool
covers_in A = covers A.has (length A.prices) A.cells

-- by least cost entry i wins if it is in the least cover, by the greedy rule if the greedy run takes it
unfoldable pub won : Rule → Auction → ℕ → Bool
unfolding bit covers winners cells wins
won least_cost A i = bit (winners (covers_in A) A.prices) i
won greedy A i = wins A.has A.prices (cells A.cells) i

-- and is paid by document 000's formula 8, or the largest whole price with which it would still win
unfoldable pub cents : Rule → Auction → ℕ → ℕ
unfolding covers vcg_paid cells critical_paid
cents least_cost A i = vcg_paid (covers_in A) A.prices i
cents greedy A i = critical_paid A.has A.prices (cells A.cells) i

pub data Outcome : Type 0 where
  -- the rows filled, and the totals
  awarded : List AwardRow → Totals → Outcome
  refused : Refusal → Outcome

-- one award row for each owner's bid, in entry order
unfoldable pub award_rows : Rule → Auction → List AwardRow
unfolding won cents listed
award_rows r A = listed A.owners (λ i. record { won = won r A i; cents = cents r A i })

-- the winners' cost, the house's price among it where it wins, the sum paid to owners, and whether the house wins
unfoldable pub totals_of : Rule → Auction → Totals
unfolding won cents listed sum reserved
totals_of r A = record {
  cost = sum (listed (length A.prices) (λ i. when (won r A i) (get_or A.prices i 0)));
  paid = sum (listed A.owners (cents r A));
  house = reserved A && won r A A.owners;
}

-- 11 of a cell: it is named by its minute
unfoldable pub uncovered : Tender → ℕ → Refusal
unfolding minute_of
uncovered t x = MinuteUncovered (minute_of t x)

-- and 12
unfoldable pub lone : Tender → ℕ → Refusal
unfolding minute_of
lone t x = OneBidder (minute_of t x)

-- one refusal at the cell found in no bid, else the other at the cell found in one alone, else the outcome
unfoldable pub thinned : (ℕ → Refusal) → (ℕ → Refusal) → Found → Found → Outcome → Outcome
thinned bare alone (found x) y o = refused (bare x)
thinned bare alone nothing (found x) o = refused (alone x)
thinned bare alone nothing nothing o = o

-- refused at the earliest cell in no bid, else at the earliest in exactly one, else the award; with a reserve the award
unfoldable pub settled : Rule → Auction → (ℕ → Refusal) → (ℕ → Refusal) → Outcome
unfolding thinned thin_cell award_rows totals_of
settled r A bare alone = thinned bare alone (thin_cell A 0) (thin_cell A 1) (awarded (award_rows r A) (totals_of r A))

unfoldable pub judged : Option ℕ → Outcome → Outcome
judged none o = o
judged (some row) o = refused (BadTables row)

-- the award of the kind k, where n bids are stated and `lent` award rows are lent: first 9, then 10, then the tender itself
unfoldable pub award_of : Kind → Tender → ℕ → List ℕ → List ℕ → ℕ → Outcome
unfolding judged fault_of settled auction_of uncovered lone
award_of k t n bids windows lent = judged (fault_of k t n bids windows)
    (cond (ltb lent n) (refused RowsTooFew) (settled (rule k) (auction_of t n bids windows) (uncovered t) (lone t)))

-- the refusal's number and place; 0 of an award
unfoldable pub outcome_number : Outcome → ℕ
outcome_number (awarded rows totals) = 0
outcome_number (refused r) = number_of r

unfoldable pub outcome_place : Outcome → ℕ
outcome_place (awarded rows totals) = 0
outcome_place (refused r) = place_of r
