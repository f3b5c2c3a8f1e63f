-- The greedy run written down, three numbers a round: the key of the bid taken, the cells that it gains, and where on the tape these
-- begin. The tape has them as pairs, round after round. After the last round the key is `last`.
use Rattle.std.specs.Prelude.{◌≡◌, Bool, ◌&&◌, List, ℕ, zero, suc, ◌+◌, ◌-◌, ◌*◌, ◌%◌, ◌≤◌, ◌<◌}
use Rattle.std.specs.Prelude.{length, eqb, ltb}
use Rattle.cover.specs.Sets.{when, found}
use Rattle.cover.specs.Greedy.{reach, best, bids}
use Rattle.cells_pairs.specs.Pairs.{in_pairs, Paired}
use Rattle.multi_keys.specs.Keys.{at, last}
use Rattle.multi_market.specs.Opens.{opens}
use Rattle.multi_market.specs.Seats.{key_in}

-- the key of round g, its bid, the cells that it gains, and where they begin on the tape
abbrev pub key_on : List ℕ → ℕ → ℕ
key_on run g = at run (3 * g)

abbrev pub bid_on : List ℕ → ℕ → ℕ
bid_on run g = at run (3 * g) % 1024

abbrev pub gain_on : List ℕ → ℕ → ℕ
gain_on run g = at run (3 * g + 1)

abbrev pub tape_on : List ℕ → ℕ → ℕ
tape_on run g = at run (3 * g + 2)

-- whether cell x is open before round g: 1 or 0
unfoldable pub before : (ℕ → ℕ → Bool) → ℕ → List ℕ → ℕ → ℕ → ℕ
before has n run zero x = when (ltb x n) 1
before has n run (suc g) x = before has n run g x - when (has (bid_on run g) x) 1

-- the cells open before round g, of w words
abbrev pub open_on : (ℕ → ℕ → Bool) → ℕ → ℕ → List ℕ → ℕ → List ℕ
open_on has w n run g = opens (before has n run g) (64 * w)

-- round g takes the theory's best bid of the cells then open, and these are written down
pub record Round (has : ℕ → ℕ → Bool) (ps : List ℕ) (w n : ℕ) (run tape : List ℕ) (g : ℕ) : Type 0 where
  pub inside : bid_on run g < length ps
  pub takes : best (bids has ps) (length ps) (open_on has w n run g) ≡ found (bid_on run g)
  pub key : key_on run g ≡ key_in (bids has ps) (open_on has w n run g) (bid_on run g)
  pub gets : gain_on run g ≡ reach (has (bid_on run g)) (open_on has w n run g)
  pub few : gain_on run g ≤ 10112
  pub paired : Paired tape w (tape_on run g) (tape_on run (g + 1))
  pub cells : (x : ℕ) → in_pairs tape (tape_on run g) (tape_on run (g + 1) - tape_on run g) x
      ≡ (eqb (before has n run g x) 1 && has (bid_on run g) x)

-- each of the rounds, and after the last no bid reaches an open cell
pub record Trace (has : ℕ → ℕ → Bool) (ps : List ℕ) (w n : ℕ) (run tape : List ℕ) (rounds : ℕ) : Type 0 where
  pub room : 3 * rounds + 3 ≤ length run
  pub each : (g : ℕ) → g < rounds → Round has ps w n run tape g
  pub end : key_on run rounds ≡ last
  pub over : (i : ℕ) → i < length ps → reach (has i) (open_on has w n run rounds) ≡ 0
