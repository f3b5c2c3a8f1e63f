-- What a tender's reserve is, and what its calls answer, by the library's own types.
use Rattle.std.specs.Prelude.{ℕ, Option, Result}
use Rattle.tender.specs.declared.Totals.{Totals}
use Rattle.tender.specs.declared.Refusal.{Refusal}

-- what the house asks for covering the whole tender itself, where it offers to
abbrev pub Reserve : Type 0
Reserve = Option ℕ

-- what an award answers: the totals, or why it declines
abbrev pub Answer : Type 0
Answer = Result Totals Refusal

-- what is answered to who asks with which price a bid would win: the largest such price, that no price would, or why it is declined
abbrev pub Highest : Type 0
Highest = Result (Option ℕ) Refusal
