-- Bids that have one run of cells each: the least sets and costs by scans over the bids in order of start.
use Rattle.std.specs.Prelude.{◌≡◌, Bool, cond, not, ◌&&◌, ◌||◌, ℕ, zero, suc, ◌+◌, ◌^◌, ◌≤◌, ◌<◌, ltb}
use Rattle.std.specs.Prelude.{leb, eqb}
use Rattle.cover.specs.Sets.{Found, all, found, hit, nothing}
use Rattle.cover.specs.LeastCover.{first}
pub mod Bids

-- a is before b
unfoldable pub earlier : (ℕ → ℕ) → ℕ → ℕ → Bool
earlier cost a b = ltb (cost a) (cost b) || (eqb (cost a) (cost b) && ltb a b)

unfoldable pub lesser : (ℕ → ℕ) → Found → Found → Found
unfolding earlier
lesser cost nothing r = r
lesser cost (found a) nothing = found a
lesser cost (found a) (found b) = cond (earlier cost a b) (found a) (found b)

unfoldable pub scan : (ℕ → ℕ) → (ℕ → Bool) → (ℕ → Found) → ℕ → Found
unfolding lesser
scan cost test v zero = nothing
scan cost test v (suc k) = let r = scan cost test v k in cond (test k) (lesser cost (v k) r) r

-- the costs alone
unfoldable pub found_cost : (ℕ → ℕ) → Found → Found
found_cost cost nothing = nothing
found_cost cost (found s) = found (cost s)

unfoldable pub lesser_cost : Found → Found → Found
lesser_cost nothing r = r
lesser_cost (found a) nothing = found a
lesser_cost (found a) (found b) = cond (ltb a b) (found a) (found b)

unfoldable pub scan_cost : (ℕ → Bool) → (ℕ → Found) → ℕ → Found
unfolding lesser_cost
scan_cost test v zero = nothing
scan_cost test v (suc k) = let r = scan_cost test v k in cond (test k) (lesser_cost (v k) r) r

unfoldable pub raise : ℕ → Found → Found
raise p nothing = nothing
raise p (found c) = found (c + p)

-- what comes before, the price, and what comes after
unfoldable pub across : ℕ → Found → Found → Found
across p nothing y = nothing
across p (found x) nothing = nothing
across p (found x) (found y) = found (x + p + y)

unfoldable pub least_set : (ℕ → ℕ → Bool) → (ℕ → ℕ) → ℕ → ℕ → Found
unfolding first
least_set ok cost n t = first (ok t) cost (2 ^ n)

-- with bid i
unfoldable pub plus : ℕ → Found → Found
plus i nothing = nothing
plus i (found m) = found (m + 2 ^ i)

-- the bid at a position may be used, begins before t and reaches t
unfoldable pub reaches : (ℕ → ℕ) → (ℕ → ℕ) → (ℕ → Bool) → (ℕ → ℕ) → ℕ → ℕ → Bool
reaches a b may at t q = may (at q) && (ltb (a (at q)) t && leb t (b (at q)))

pub record At (at : ℕ → ℕ) (k i : ℕ) : Type 0 where
  pub place : ℕ
  pub inside : place < k
  pub is : at place ≡ i

-- the bids below n in order of start: bid `at q` is at position q
pub record Order (n : ℕ) (a at : ℕ → ℕ) : Type 0 where
  pub bids : (q : ℕ) → q < n → at q < n
  pub every : (i : ℕ) → i < n → At at n i
  pub sorted : (q r : ℕ) → q ≤ r → r < n → a (at q) ≤ a (at r)

-- a scan for the cells from o to t, where there are any
unfoldable pub begin : ℕ → ℕ → Found → Found
begin o t r = cond (leb t o) (found 0) r

-- bid `at k` and the least set before it, from the values at the positions below k
unfoldable pub grow_set : ℕ → (ℕ → ℕ) → (ℕ → ℕ) → (ℕ → ℕ) → (ℕ → Bool) → (ℕ → ℕ)
    → (ℕ → Found) → ℕ → Found
unfolding plus begin scan reaches
grow_set o a b cost may at v k = plus (at k) (begin o (a (at k)) (scan cost (reaches a b may at (a (at k))) v k))

-- the cells from o to t, cell x at place f x
unfoldable pub covers_from : (ℕ → ℕ) → ℕ → (ℕ → ℕ → Bool) → ℕ → ℕ → ℕ → Bool
unfolding all hit
covers_from f o has n t s = all t (λ x. ltb x o || hit has n s (f x))

unfoldable pub may_but : ℕ → (ℕ → Bool) → ℕ → Bool
may_but k may i = may i && not (eqb i k)
