-- How a payment is found: the run without bid k follows the main run as written down, but for the bids that are marked.
use Rattle.std.specs.Prelude.{◌≡◌, Bool, true, false, ◌&&◌, ◌⊎◌, List, ℕ, suc, ◌+◌, ◌-◌, ◌*◌, ◌/◌}
use Rattle.std.specs.Prelude.{◌≤◌, ◌<◌, max, length, set, ltb, leb}
use Rattle.cover.specs.Sets.{when}
use Rattle.cover.specs.Greedy.{run, reach, bids}
use Rattle.cover.specs.CriticalPrice.{late, withdrawn, bar}
use Rattle.cover.specs.Spare.{Another}
use Rattle.cells.specs.Cells.{cell}
use Rattle.cells_pairs.specs.Pairs.{in_pairs, Unheld, Shut}
use Rattle.multi_keys.specs.Keys.{at, out}
use Rattle.multi_market.specs.Opens.{open_of}
use Rattle.multi_market.specs.Seats.{key_at, Seats}
use Rattle.multi_rounds.specs.Trace.{bid_on, tape_on, before, Trace}

-- one more than the highest price at which bid k, with m cells, is taken before bid i, which asks q for its c cells
unfoldable pub raised_to : ℕ → ℕ → ℕ → ℕ → ℕ → ℕ
unfolding late
raised_to k i q c m = when (ltb 0 m && leb (late k i) (q * m)) (suc ((q * m - late k i) / c))

pub record Raised (k i q c m r : ℕ) : Type 0 where
  pub is : r ≡ raised_to k i q c m
  pub small : r ≤ 1011200000001

-- one more than the highest price at which bid k is taken in the run without it from the open cells O
unfoldable pub bar_from : (ℕ → ℕ → Bool) → List ℕ → ℕ → List ℕ → ℕ
unfolding bar run
bar_from has ps k O = bar k (has k) (run (withdrawn k (bids has ps)) (length ps) (length O) O)

-- each cell that f says is another bid's too
abbrev pub Spared : (ℕ → ℕ → Bool) → List ℕ → ℕ → (ℕ → ℕ) → Type 0
Spared has ps k f = (x : ℕ) → f x ≡ 1 → Another has (length ps) k x

-- og x: whether cell x is open in the main run. What a bid without mark has open in the run without k it has open in the main run; it is
-- out. The key of a bid with a mark is no more than it is in the run without k, and k itself is out
pub record Strayed (has : ℕ → ℕ → Bool) (ps : List ℕ) (k : ℕ) (alt keys mark : List ℕ) (og : ℕ → ℕ) : Type 0 where
  pub seats : Seats has ps alt keys
  pub own : 0 < cell mark k
  pub skip : at keys k ≡ out
  pub outs : (i : ℕ) → i < length ps → cell mark i ≡ 0 → at keys i ≡ out
  pub bound : (i : ℕ) → i < length ps → 0 < cell mark i → (i ≡ k → ⊥) → at keys i ≤ key_at has ps alt i
  pub within : (i : ℕ) → i < length ps → cell mark i ≡ 0 → (x : ℕ) → has i x ≡ true → cell alt x ≤ og x

-- the run without k has come as far as the main run before round g, and k has `mine` open cells
pub record Following (has : ℕ → ℕ → Bool) (ps : List ℕ) (k : ℕ) (run tape alt keys mark : List ℕ)
    (mine g : ℕ) : Type 0 where
  pub n : ℕ
  pub rounds : ℕ
  pub main : Trace has ps (length alt) n run tape rounds
  pub reached : g ≤ rounds
  pub inside : k < length ps
  pub strayed : Strayed has ps k alt keys mark (before has n run g)
  pub own : mine ≡ reach (has k) (open_of alt)
  pub few : mine ≤ 10112
  pub gone : (x : ℕ) → has k x ≡ true → before has n run g x ≡ 0

-- whether the bid of round g has no mark, and all cells of the tape there are open
pub record Alike (run tape : List ℕ) (g : ℕ) (alt mark : List ℕ) (r : Bool) : Type 0 where
  pub free : r ≡ true → cell mark (bid_on run g) ≡ 0
  pub held : r ≡ true → (x : ℕ) → in_pairs tape (tape_on run g) (tape_on run (g + 1) - tape_on run g) x ≡ true
      → cell alt x ≡ 1
  pub not : r ≡ false → (0 < cell mark (bid_on run g)) ⊎ Unheld alt tape (tape_on run g) (tape_on run (g + 1))

-- what the runs from the two rows of open cells say of bid k, with the maximum so far, is the same; each cell of k is another bid's too
abbrev pub SameBar : (ℕ → ℕ → Bool) → List ℕ → ℕ → List ℕ → List ℕ → ℕ → ℕ → Type 0
SameBar has ps k alt alt' top top' = Spared has ps k (cell alt)
    → max top (bar_from has ps k (open_of alt)) ≡ max top' (bar_from has ps k (open_of alt'))

-- the run goes from round g to round g', and takes what the main run takes
pub record Gone (has : ℕ → ℕ → Bool) (ps : List ℕ) (k : ℕ) (run tape alt alt' keys' mark' : List ℕ)
    (mine top g g' : ℕ) : Type 0 where
  pub goes : Following has ps k run tape alt' keys' mark' mine g'
  pub on : g < g'
  pub fewer : (x : ℕ) → cell alt' x ≤ cell alt x
  pub bar_is : SameBar has ps k alt alt' top top

-- bid b, at q for c cells, is taken: its cells are closed, it is out, k has `mine'` open cells then, and the maximum is `top'`
pub record Took (has : ℕ → ℕ → Bool) (k b q c : ℕ) (alt keys alt' keys' : List ℕ)
    (mine top mine' top' : ℕ) : Type 0 where
  pub shuts : Shut alt (has b) alt'
  pub takes : keys' ≡ set keys b out
  pub own : mine' ≡ reach (has k) (open_of alt')
  pub few : mine' ≤ 10112
  pub most : top' ≡ max top (raised_to k b q c mine)
  pub small : top' ≤ 1011200000001

-- one step with which the run goes on
pub record Stepped (has : ℕ → ℕ → Bool) (ps : List ℕ) (k : ℕ) (run tape alt alt' keys' mark' : List ℕ)
    (g top g' mine' top' : ℕ) : Type 0 where
  pub goes : Following has ps k run tape alt' keys' mark' mine' g'
  pub falls : length run - 3 * g' + length (open_of alt') < length run - 3 * g + length (open_of alt)
  pub fewer : (x : ℕ) → cell alt' x ≤ cell alt x
  pub bar_is : SameBar has ps k alt alt' top top'
  pub small : top' ≤ 1011200000001

-- the run without the bid of round h begins as the main run stands before it: that bid is out, and so are those without a mark; the key of
-- another bid is no more than it is
pub record Beginning (has : ℕ → ℕ → Bool) (ps : List ℕ) (run tape : List ℕ) (h : ℕ) (alt keys mark : List ℕ) : Type 0 where
  pub n : ℕ
  pub rounds : ℕ
  pub main : Trace has ps (length alt) n run tape rounds
  pub here : h < rounds
  pub stands : (x : ℕ) → cell alt x ≡ before has n run h x
  pub seats : Seats has ps alt keys
  pub skip : at keys (bid_on run h) ≡ out
  pub outs : (i : ℕ) → i < length ps → cell mark i ≡ 0 → at keys i ≡ out
  pub bound : (i : ℕ) → i < length ps → 0 < cell mark i → (i ≡ bid_on run h → ⊥) → at keys i ≤ key_at has ps alt i

-- r is one more than the highest price at which bid k is taken in the run without it from the cells of `alt`
pub record Limited (has : ℕ → ℕ → Bool) (ps : List ℕ) (k : ℕ) (alt : List ℕ) (r : ℕ) : Type 0 where
  pub is : Spared has ps k (cell alt) → r ≡ bar_from has ps k (open_of alt)
  pub small : r ≤ 1011200000001
