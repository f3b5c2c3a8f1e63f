-- A bidder's gain (paper 01, "Time, price and place"; the field's term: utility).
use Rattle.std.specs.Prelude.{false, cond, ℕ, ◌≤◌, get_or, ℤ, pos, negsuc}
use Rattle.std.proofs.Math.IntN.{sub_ℕ}
use Rattle.tender.specs.declared.AwardRow.{AwardRow}
use Rattle.award_rule.specs.Award.{Outcome, awarded, refused}

-- a loser's row
unfoldable pub lost : AwardRow
lost = record { won = false; cents = 0 }

-- the row of bid i; in a refused tender nobody wins
unfoldable pub row_for : Outcome → ℕ → AwardRow
unfolding lost
row_for (awarded rows totals) i = get_or rows i lost
row_for (refused r) i = lost

-- the payment less the true cost for a winner, and 0 for a loser or in a refused tender
unfoldable pub gain : ℕ → AwardRow → ℤ
gain cost r = cond r.won (sub_ℕ r.cents cost) (pos 0)

-- the order of whole numbers, where `negsuc a` is - (a + 1)
abbrev pub AtMost : ℤ → ℤ → Type 0
AtMost (pos a) (pos b) = a ≤ b
AtMost (pos a) (negsuc b) = ⊥
AtMost (negsuc a) (pos b) = Unit {0}
AtMost (negsuc a) (negsuc b) = b ≤ a
