-- The bids that still reach the cells to come, in a list that is thinned out in place.
use Rattle.std.specs.Prelude.{◌≡◌, cond, List, ℕ, ◌+◌, ◌≤◌, ◌<◌, leb, length, get_or}
use Rattle.cover.specs.Intervals.{At}

abbrev pub On : List ℕ → ℕ → ℕ → Type 0
On xs m i = At (λ q. get_or xs q 0) m i

-- one more where the cells up to e reach t
unfoldable pub counted : ℕ → ℕ → ℕ → ℕ
counted e t x = cond (leb t e) (x + 1) x

-- of the places below j, those whose bids reach t are now at the places below x
pub record Thinned (b old act : List ℕ) (t j x : ℕ) : Type 0 where
  pub sized : length act ≡ length old
  pub short : x ≤ j
  pub rest : (i : ℕ) → j ≤ i → get_or act i 0 ≡ get_or old i 0
  pub from : (i : ℕ) → i < x → On old j (get_or act i 0)
  pub kept : (i : ℕ) → i < j → t ≤ get_or b (get_or old i 0) 0 → On act x (get_or old i 0)

-- `act` has bids at the positions below k of `order`, and of those each one that reaches `at`
pub record Live (order b act : List ℕ) (k m at : ℕ) : Type 0 where
  pub few : m ≤ k
  pub inside : (j : ℕ) → j < m → On order k (get_or act j 0)
  pub every : (q : ℕ) → q < k → at ≤ get_or b (get_or order q 0) 0 → On act m (get_or order q 0)
