-- The greedy cover (paper 01, "Multi"): each round takes, among the bids with reach above 0, the one with the least price divided by reach,
-- as exact fractions, on a tie the earlier entry; its cells close; the rounds end when no bid reaches an open cell.
use Rattle.std.specs.Prelude.{Bool, true, false, ◌||◌, List, [], ◌∷◌, ℕ, zero, suc, ◌+◌, ◌*◌, length, get_or, ltb, eqb}
use Rattle.cover.specs.Sets.{when, Found, nothing, found}
use Rattle.cover.specs.LeastCover.{choose}

pub record Entry : Type 0 where
  pub price : ℕ
  pub has : ℕ → Bool

-- how many of the open cells a bid has: its reach (the field's term: marginal coverage)
unfoldable pub reach : (ℕ → Bool) → List ℕ → ℕ
reach h [] = 0
reach h (x ∷ xs) = when (h x) 1 + reach h xs

unfoldable pub keep : Bool → ℕ → List ℕ → List ℕ
keep true x xs = xs
keep false x xs = x ∷ xs

-- the cells it leaves open
unfoldable pub close : (ℕ → Bool) → List ℕ → List ℕ
unfolding keep
close h [] = []
close h (x ∷ xs) = keep (h x) x (close h xs)

-- the price p s for r s cells is less than the price p b for r b cells: fractions compared by cross-multiplication
unfoldable pub cheaper : (ℕ → ℕ) → (ℕ → ℕ) → ℕ → Found → Bool
cheaper p r s nothing = true
cheaper p r s (found b) = ltb (p s * r b) (p b * r s)

-- of the bids below n with reach above 0, the first with the least price for each cell
unfoldable pub pick : (ℕ → ℕ) → (ℕ → ℕ) → ℕ → Found
unfolding choose cheaper
pick p r zero = nothing
pick p r (suc n) = let b = pick p r n in choose (ltb 0 (r n)) (cheaper p r n b) b n

unfoldable pub best : (ℕ → Entry) → ℕ → List ℕ → Found
unfolding pick reach
best B n O = pick (λ i. (B i).price) (λ i. reach (B i).has O) n

-- the rounds, each with the bid taken, its number first, and the cells open before it; last the cells that stay open
pub data Rounds : Type 0 where
  stop : List ℕ → Rounds
  round : ℕ → Entry → List ℕ → Rounds → Rounds

unfoldable pub grow_run : (ℕ → Entry) → List ℕ → Found → (ℕ → Rounds) → Rounds
grow_run B O nothing t = stop O
grow_run B O (found i) t = round i (B i) O (t i)

-- the first f rounds of the bids below n, from the open cells O
unfoldable pub run : (ℕ → Entry) → ℕ → ℕ → List ℕ → Rounds
unfolding best grow_run close
run B n zero O = stop O
run B n (suc f) O = grow_run B O (best B n O) (λ i. run B n f (close (B i).has O))

unfoldable pub taken : ℕ → Rounds → Bool
taken k (stop O) = false
taken k (round i c O t) = eqb i k || taken k t

-- the cells that stay open
unfoldable pub left : Rounds → List ℕ
left (stop O) = O
left (round i c O t) = left t

unfoldable pub bids : (ℕ → ℕ → Bool) → List ℕ → ℕ → Entry
bids has ps i = record { price = get_or ps i 0; has = has i }

-- bid k wins where the run over the open cells takes it: each round closes a cell, so as many rounds as cells are enough
unfoldable pub wins : (ℕ → ℕ → Bool) → List ℕ → List ℕ → ℕ → Bool
unfolding run taken bids
wins has ps open_cells k = taken k (run (bids has ps) (length ps) (length open_cells) open_cells)
