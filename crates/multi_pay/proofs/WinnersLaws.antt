-- The bids of the written run are the winners. Assumes nothing.
use Rattle.std.specs.Prelude.{◌≡◌, Bool, true, false, ◌||◌, List, length, eqb}
use Rattle.std.proofs.Math.Path.{refl, sym, ap}
use Rattle.std.proofs.Common.{◌∙◌, arith}
use Rattle.std.proofs.Math.Bool.{or-false}
use Prim.Native.Nat.{ℕ, zero, suc, ◌*◌, ◌≤◌, ◌<◌}
use Rattle.cover.specs.Sets.{nothing, cells}
use Rattle.cover.specs.Greedy.{reach, Rounds, best, taken, bids, wins}
use Rattle.cover.proofs.GreedyLaws.{best_right}
use Rattle.multi_keys.specs.Keys.{at}
use Rattle.multi_market.proofs.RunLaws.{right_one, rounds_of, rounds_stop, rounds_more}
use Rattle.multi_rounds.specs.Trace.{bid_on, open_on, Trace}
use Rattle.multi_pay.specs.Paying.{picked}
use Rattle.multi_pay.proofs.PrefixLaws.{closes, opened}

or_assoc : (a b c : Bool) → (a || b) || c ≡ a || (b || c)
or_assoc true b c = refl
or_assoc false b c = refl

module _ {has : ℕ → ℕ → Bool} {ps : List ℕ} {w n : ℕ} {run tape : List ℕ} {rounds : ℕ}
    (tr : Trace has ps w n run tape rounds) where
  -- the rounds from round g on
  abbrev rest : ℕ → Rounds
  rest g = rounds_of (bids has ps) (length ps) (open_on has w n run g)

  one_more : (k g : ℕ) → g < rounds → taken k (rest g) ≡ eqb (bid_on run g) k || taken k (rest (suc g))
  unfolding taken bids
  one_more k g l = rw (
    rounds_more (bids has ps) (length ps) (open_on has w n run g) (bid_on run g) (tr.each g l).takes,
    closes has w n run g,
  )

  none_left : best (bids has ps) (length ps) (open_on has w n run rounds) ≡ nothing
  unfolding best bids
  none_left = right_one (at ps) (λ i. reach (has i) (open_on has w n run rounds)) (length ps)
      (best (bids has ps) (length ps) (open_on has w n run rounds)) nothing
      (best_right (bids has ps) (length ps) (open_on has w n run rounds)) (λ i l g. omega (arith, tr.over i l))

  split : (k g : ℕ) → g ≤ rounds → taken k (rest 0) ≡ picked run g k || taken k (rest g)
  unfolding picked
  split k zero l = refl
  split k (suc g) l = split k g (omega arith) ∙ ap (λ (t : Bool). picked run g k || t) (one_more k g (omega arith))
      ∙ sym (or_assoc (picked run g k) (eqb (bid_on run g) k) (taken k (rest (suc g))))

  -- whoever is taken in a round wins, and nobody else
  pub winners : n ≤ 64 * w → (k : ℕ) → picked run rounds k ≡ wins has ps (cells n) k
  unfolding wins rounds_of taken
  winners q k = sym (rw (← opened has w n run q) (split k rounds (omega arith))
      ∙ ap (λ (t : Rounds). picked run rounds k || taken k t)
      (rounds_stop (bids has ps) (length ps) (open_on has w n run rounds) none_left) ∙ or-false (picked run rounds k))
