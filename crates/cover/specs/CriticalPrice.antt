-- The critical price (paper 01, "Multi"): a winner is paid the largest whole price with which it would still win if all else stood.
-- It is defined so, and computed from the rounds of the run without the bid (document 000's maximum, in whole cents under the tie rule).
use Rattle.std.specs.Prelude.{Bool, true, false, cond, ◌&&◌, List, [], ◌∷◌, ℕ, zero, suc, ◌+◌, ◌-◌, ◌*◌, ◌/◌}
use Rattle.std.specs.Prelude.{max, length, set, leb, ltb, eqb}
use Rattle.cover.specs.Sets.{when, Found, nothing, found, value_of}
use Rattle.cover.specs.Greedy.{Entry, reach, Rounds, stop, round, run, bids, wins}

-- the largest number below n that passes
unfoldable pub largest : (ℕ → Bool) → ℕ → Found
largest ok zero = nothing
largest ok (suc n) = let below = largest ok n in cond (ok n) (found n) below

unfoldable pub sum : List ℕ → ℕ
sum [] = 0
sum (p ∷ ps) = p + sum ps

-- no price from here on wins against others that cover: in no round can k ask more than the others ask in all, for each cell
unfoldable pub ceiling : List ℕ → List ℕ → ℕ
unfolding sum
ceiling ps open_cells = suc (sum ps * length open_cells)

-- the prices with which bid k would win, all else held
unfoldable pub wins_at : (ℕ → ℕ → Bool) → List ℕ → List ℕ → ℕ → ℕ → Bool
unfolding wins
wins_at has ps open_cells k p = wins has (set ps k p) open_cells k

-- the largest of them
unfoldable pub critical : (ℕ → ℕ → Bool) → List ℕ → List ℕ → ℕ → ℕ
unfolding largest ceiling wins_at value_of
critical has ps open_cells k = value_of (largest (wins_at has ps open_cells k) (ceiling (set ps k 0) open_cells))

-- what bid k is paid
unfoldable pub critical_paid : (ℕ → ℕ → Bool) → List ℕ → List ℕ → ℕ → ℕ
unfolding wins critical
critical_paid has ps open_cells k = when (wins has ps open_cells k) (critical has ps open_cells k)

-- one where bid i was entered after bid j: on a tie it loses
unfoldable pub late : ℕ → ℕ → ℕ
late i j = when (ltb j i) 1

unfoldable pub mute : Bool → Entry → Entry
mute true b = record { price = 0; has = λ x. false }
mute false b = b

-- the bids without bid k: it stays in its place and has no cell
unfoldable pub withdrawn : ℕ → (ℕ → Entry) → ℕ → Entry
unfolding mute
withdrawn k B i = mute (eqb i k) (B i)

-- one more than the largest price at which bid k, with the cells h, is taken before bid i, which is c, where the cells O are
-- open; 0 where no price is
unfoldable pub share : ℕ → (ℕ → Bool) → ℕ → Entry → List ℕ → ℕ
unfolding reach late
share k h i c O = let x = c.price * reach h O in when (ltb 0 (reach h O) && leb (late k i) x) (suc ((x - late k i) / reach c.has O))

-- the maximum over the rounds
unfoldable pub bar : ℕ → (ℕ → Bool) → Rounds → ℕ
unfolding share
bar k h (stop O) = 0
bar k h (round i c O t) = max (share k h i c O) (bar k h t)

-- over the rounds of the run without bid k: one more than its critical price, 0 where no price wins
unfoldable pub limit : (ℕ → ℕ → Bool) → List ℕ → List ℕ → ℕ → ℕ
unfolding run bar withdrawn bids
limit has ps open_cells k = bar k (has k) (run (withdrawn k (bids has ps)) (length ps) (length open_cells) open_cells)

-- what bid k is paid, from the rounds: where the others cover it is `critical_paid`
unfoldable pub rounds_paid : (ℕ → ℕ → Bool) → List ℕ → List ℕ → ℕ → ℕ
unfolding wins limit
rounds_paid has ps open_cells k = when (wins has ps open_cells k) (limit has ps open_cells k - 1)
