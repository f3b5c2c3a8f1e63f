-- Sets of bids in rows of w words of 64 bits, the lowest first; a bid's weight, its cost and its set; and the lighter of two
-- bids. Where w is 0 every set is 0, and the costs alone decide.
use Rattle.std.specs.Prelude.{◌≡◌, Bool, cond, ◌&&◌, ◌||◌, List, ℕ, zero, suc, ◌+◌, ◌*◌, ◌-◌, ltb, leb, eqb}
use Rattle.std.specs.Prelude.{get_or}
use Rattle.cover.specs.Sets.{Found, nothing, found}
use Rattle.cover.specs.Intervals.{found_cost}
use Rattle.single_lead.specs.Costs.{no_cost, cost_in}

-- the number of m words, word j of which is f j
unfoldable pub of_words : (ℕ → ℕ) → ℕ → ℕ
of_words f zero = 0
of_words f (suc m) = f 0 + of_words (λ j. f (suc j)) m * 18446744073709551616

-- the set in row q
unfoldable pub set_in : ℕ → List ℕ → ℕ → ℕ
unfolding of_words
set_in w sets q = of_words (λ j. get_or sets (q * w + j) 0) w

-- and what its words from word k on are worth
unfoldable pub top_words : ℕ → List ℕ → ℕ → ℕ → ℕ
unfolding of_words
top_words w sets q k = of_words (λ j. get_or sets (q * w + k + j) 0) (w - k)

-- a set with its cost, or none
unfoldable pub weigh : ℕ → ℕ → Found
weigh c s = cond (eqb c no_cost) nothing (found s)

unfoldable pub weight : ℕ → List ℕ → List ℕ → ℕ → Found
unfolding weigh set_in
weight w costs sets q = weigh (get_or costs q 0) (set_in w sets q)

-- the cost is that of the set
abbrev pub Honest : (ℕ → ℕ) → ℕ → List ℕ → List ℕ → ℕ → Type 0
Honest cost w costs sets q = cost_in (get_or costs q 0) ≡ found_cost cost (weight w costs sets q)

-- bid q is before bid r: it costs less, or as much and its set stands in a tie
unfoldable pub is_before : ℕ → List ℕ → List ℕ → ℕ → ℕ → Bool
unfolding set_in
is_before w costs sets q r = ltb (get_or costs q 0) (get_or costs r 0)
    || (eqb (get_or costs q 0) (get_or costs r 0) && ltb (set_in w sets q) (set_in w sets r))

unfoldable pub prefer : ℕ → List ℕ → List ℕ → ℕ → ℕ → ℕ
unfolding is_before
prefer w costs sets q r = cond (is_before w costs sets q r) q r

-- x where the cells from s to e reach t, else r
unfoldable pub reached : ℕ → ℕ → ℕ → ℕ → ℕ → ℕ
reached s e t x r = cond (ltb s t && leb t e) x r
