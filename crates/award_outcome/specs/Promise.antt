-- What a call of an award promises on its lent award rows (paper 01, "Who wins and what is paid").
use Rattle.std.specs.Prelude.{◌≡◌, List, ◌++◌, ℕ, length, take, drop, Ok, Err}
use Rattle.tender.specs.declared.Kind.{Kind}
use Rattle.tender.specs.declared.Tender.{Tender}
use Rattle.tender.specs.declared.AwardRow.{AwardRow}
use Rattle.tender.specs.Types.{Answer}
use Rattle.award_rule.specs.Award.{Outcome, awarded, refused, award_of}

-- the lent award rows after the call: rows past the last bid stay, and all of them where the award declines
unfoldable pub lent_after : List AwardRow → Outcome → List AwardRow
lent_after old (awarded rows totals) = rows ++ drop (length rows) old
lent_after old (refused r) = old

-- what a call on n bids told: its answer, and the first n of the lent rows where it awards
unfoldable pub told_award : ℕ → List AwardRow → Answer → Outcome
told_award n rows (Ok totals) = awarded (take n rows) totals
told_award n rows (Err r) = refused r

-- the promise of a call: it leaves the lent rows `new` and answers a
pub record Promise (k : Kind) (t : Tender) (n : ℕ) (bids windows : List ℕ) (old new : List AwardRow) (a : Answer) : Type 0 where
  pub answers : told_award n new a ≡ award_of k t n bids windows (length old)
  pub rows : new ≡ lent_after old (told_award n new a)

-- the award rows that an answer on n bids fills: one for each bid where it awards, none where it declines
unfoldable pub rows_filled : Answer → ℕ → ℕ
rows_filled (Ok totals) n = n
rows_filled (Err r) n = 0
