-- How the award goes along the written run: the bids of the first h rounds are marked and paid.
use Rattle.std.specs.Prelude.{◌≡◌, Bool, false, ◌||◌, List, ℕ, zero, suc, ◌-◌, ◌≤◌, ◌<◌, length, set, eqb}
use Rattle.cover.specs.Sets.{when, cells}
use Rattle.cover.specs.Greedy.{wins}
use Rattle.cover.specs.CriticalPrice.{limit, rounds_paid}
use Rattle.cover.specs.Settled.{listed, most_cents}
use Rattle.cover.specs.Spare.{Spare}
use Rattle.cells.specs.Cells.{cell}
use Rattle.cells_pairs.specs.Pairs.{Shut}
use Rattle.multi_keys.specs.Keys.{at, out}
use Rattle.multi_market.specs.Seats.{key_at, Seats}
use Rattle.multi_rounds.specs.Trace.{bid_on, before, Trace}
use Rattle.multi_limit.specs.Follow.{Limited}

-- bid k is taken in one of the first h rounds
unfoldable pub picked : List ℕ → ℕ → ℕ → Bool
picked run zero k = false
picked run (suc h) k = picked run h k || eqb (bid_on run h) k

-- the keys of the bids in `ever`, none above the bid's own where the cells held are open; the other bids are out
pub record Listed (has : ℕ → ℕ → Bool) (ps held ever keys : List ℕ) : Type 0 where
  pub seats : Seats has ps held keys
  pub outs : (i : ℕ) → i < length ps → cell ever i ≡ 0 → at keys i ≡ out
  pub bound : (i : ℕ) → i < length ps → 0 < cell ever i → at keys i ≤ key_at has ps held i

-- the written run, of which round h is to come, and the cells held as it then stands
pub record Ready (has : ℕ → ℕ → Bool) (ps run tape : List ℕ) (h : ℕ) (held : List ℕ) : Type 0 where
  pub n : ℕ
  pub rounds : ℕ
  pub main : Trace has ps (length held) n run tape rounds
  pub here : h < rounds
  pub stands : (x : ℕ) → cell held x ≡ before has n run h x

-- bid k is marked and paid, one less than `price`, and its cells are closed
pub record Payment (has : ℕ → ℕ → Bool) (ps : List ℕ) (k : ℕ) (held won cents held' won' cents' : List ℕ) : Type 0 where
  pub price : ℕ
  pub limited : Limited has ps k held price
  pub flag : won' ≡ set won k 1
  pub sum : cents' ≡ set cents k (price - 1)
  pub shuts : Shut held (has k) held'

-- the bids of the first h rounds are marked and their cells closed, the others not; each that the others spare has its payment so far
pub record Paying (has : ℕ → ℕ → Bool) (ps : List ℕ) (n : ℕ) (run : List ℕ) (h : ℕ)
    (held won cents : List ℕ) : Type 0 where
  pub stands : (x : ℕ) → cell held x ≡ before has n run h x
  pub as_won : length won ≡ length ps
  pub as_cents : length cents ≡ length ps
  pub flags : (k : ℕ) → k < length ps → at won k ≡ when (picked run h k) 1
  pub payments : (k : ℕ) → k < length ps → Spare has (length ps) n k
      → at cents k ≡ when (picked run h k) (limit has ps (cells n) k - 1)
  pub small : (k : ℕ) → at cents k ≤ most_cents

-- who wins, and what each is paid that the others spare
pub record Paid (has : ℕ → ℕ → Bool) (ps : List ℕ) (n : ℕ) (won cents : List ℕ) : Type 0 where
  pub flags : won ≡ listed (length ps) (λ k. when (wins has ps (cells n) k) 1)
  pub as_cents : length cents ≡ length ps
  pub payments : (k : ℕ) → k < length ps → Spare has (length ps) n k → at cents k ≡ rounds_paid has ps (cells n) k
  pub small : (k : ℕ) → at cents k ≤ most_cents
