-- How the rounds begin: the first cells open. Assumes nothing.
use Rattle.std.specs.Prelude.{◌≡◌, List, ℕ, ◌*◌, ◌≤◌, length}
use Rattle.std.proofs.Common.{◌∙◌, arith}
use Rattle.cells.specs.Cells.{cell, common, Cleared, RangeAdded}
use Rattle.cells.proofs.FillingLaws.{no_cell}
use Rattle.cover.specs.Sets.{cells}
use Rattle.cells_count.specs.SumLaws.{total_both_le}
use Rattle.multi_market.proofs.OpensLaws.{opens_first}
use Rattle.multi_market.specs.Market.{First}
use Rattle.multi_market.specs.Opens.{open_of}

-- the first cells set where there was none
pub first_of : (n : ℕ) (a b : List ℕ) → Cleared a → RangeAdded 0 n a b → First n b
first_of n a b c f = record { inside = λ x l. f.inside x (omega arith) l; above = λ x l. f.above x l ∙ no_cell a c x }

pub open_first : {n : ℕ} {held : List ℕ} → First n held → n ≤ 64 * length held → open_of held ≡ cells n
unfolding open_of
open_first {n} {held} f l = opens_first (cell held) n (64 * length held) l f.inside f.above

pub common_few : (a b : List ℕ) → length a ≤ 158 → common a b ≤ 10112
unfolding common
common_few a b l = omega (arith, total_both_le a b (64 * length a))
