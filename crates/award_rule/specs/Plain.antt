-- The award over two lists: for each bid a flag, 1 for a winner and 0 for a loser, and the cents paid, in two lent lists.
use Rattle.std.specs.Prelude.{◌≡◌, List, ◌++◌, map, ℕ, length, get_or, drop, eqb, Ok, Err}
use Rattle.tender.specs.declared.Kind.{Kind}
use Rattle.tender.specs.declared.Tender.{Tender}
use Rattle.cover.specs.Sets.{when}
use Rattle.cover.specs.Settled.{listed}
use Rattle.tender.specs.declared.AwardRow.{AwardRow}
use Rattle.tender.specs.Types.{Answer}
use Rattle.award_rule.specs.Award.{Outcome, awarded, refused, award_of}

-- the award row that a bid's flag and cents say
abbrev pub row_of : ℕ → ℕ → AwardRow
row_of flag paid = record { won = eqb flag 1; cents = paid }

-- the award rows that the flags and cents of n bids say
unfoldable pub rows_in : ℕ → List ℕ → List ℕ → List AwardRow
unfolding listed
rows_in n won cents = listed n (λ i. row_of (get_or won i 0) (get_or cents i 0))

-- what a call on n bids told: its answer, and the flags and cents of the n bids where it awards
unfoldable pub told_in : ℕ → List ℕ → List ℕ → Answer → Outcome
unfolding rows_in
told_in n won cents (Ok totals) = awarded (rows_in n won cents) totals
told_in n won cents (Err r) = refused r

-- the lent lists after the call: places past the last bid stay, and all of them where the award declines
unfoldable pub won_after : List ℕ → Outcome → List ℕ
won_after old (awarded rows totals) = map (λ r. when r.won 1) rows ++ drop (length rows) old
won_after old (refused r) = old

unfoldable pub cents_after : List ℕ → Outcome → List ℕ
cents_after old (awarded rows totals) = map (λ r. r.cents) rows ++ drop (length rows) old
cents_after old (refused r) = old

-- the promise of a call, with `lent` award rows: it leaves the lists won' and cents' and answers a
pub record PlainPromise (k : Kind) (t : Tender) (n : ℕ) (bids windows : List ℕ) (lent : ℕ) (won cents won' cents' : List ℕ)
    (a : Answer) : Type 0 where
  pub answers : told_in n won' cents' a ≡ award_of k t n bids windows lent
  pub won_are : won' ≡ won_after won (told_in n won' cents' a)
  pub cents_are : cents' ≡ cents_after cents (told_in n won' cents' a)
