-- Laws of sets in rows of words: their order, and the lighter of two bids. Assumes nothing.
use Rattle.std.specs.Prelude.{◌≡◌, Bool, ◌&&◌, ◌||◌, List, ℕ, zero, suc, ◌+◌, ◌*◌, ◌-◌, ◌≤◌, ◌<◌, ltb}
use Rattle.std.specs.Prelude.{eqb, get_or}
use Rattle.std.proofs.Math.Path.{refl, sym}
use Rattle.std.proofs.Common.{ap, ◌∙◌, mul-le-mul_right, arith}
use Rattle.std.proofs.Math.Bool.{true, false, cond}
use borrow.Author.Tests.{eqb-true, eqb-false, lt-ltb, le-ltb, le-leb, lt-leb, eq-eqb, ne_eqb}
use Rattle.cover.specs.Sets.{Found, nothing, found}
use Rattle.cover.specs.Intervals.{found_cost, lesser, lesser_cost, earlier}
use Rattle.cover.proofs.Intervals.ScanLaws.{found_one}
use Rattle.single_lead.specs.Costs.{no_cost, cost_in}
use Rattle.single_lead.specs.CostsLaws.{cost_least}
use Rattle.single_lead.specs.Rows.{of_words, set_in, top_words, weigh, weight, Honest, is_before, prefer, reached}

-- words

pub words_same : (m : ℕ) (f g : ℕ → ℕ) → ((j : ℕ) → j < m → f j ≡ g j) → of_words f m ≡ of_words g m
unfolding of_words
words_same zero f g h = refl
words_same (suc m) f g h = omega (
  arith,
  h 0 (omega arith),
  words_same m (λ j. f (suc j)) (λ j. g (suc j)) (λ j l. h (suc j) (omega arith)),
)

words_none : (m : ℕ) (f : ℕ → ℕ) → ((j : ℕ) → j < m → f j ≡ 0) → of_words f m ≡ 0
unfolding of_words
words_none zero f h = refl
words_none (suc m) f h = omega (arith, h 0 (omega arith), words_none m (λ j. f (suc j)) (λ j l. h (suc j) (omega arith)))

-- rows

pub row_none : (w : ℕ) (xs : List ℕ) (q : ℕ) → ((j : ℕ) → j < w → get_or xs (q * w + j) 0 ≡ 0) → set_in w xs q ≡ 0
unfolding set_in
row_none w xs q h = words_none w (λ j. get_or xs (q * w + j) 0) h

pub no_words : (xs : List ℕ) (q : ℕ) → set_in 0 xs q ≡ 0
no_words xs q = row_none 0 xs q (λ j l. absurd (omega arith))

-- the rows before one that is there are there
pub row_room : (w q n size : ℕ) → q ≤ n → n * w + w ≤ size → q * w + w ≤ size
row_room w q n size l d = omega (arith, mul-le-mul_right w l)

-- the order of two rows, from the highest word down

top_row : (w : ℕ) (xs : List ℕ) (q : ℕ) → top_words w xs q 0 ≡ set_in w xs q
unfolding top_words set_in
top_row w xs q = let z : w - 0 ≡ w = omega arith in
    ap (of_words (λ j. get_or xs (q * w + 0 + j) 0)) z ∙ words_same w (λ j. get_or xs (q * w + 0 + j) 0) (λ j. get_or xs (q * w + j) 0)
    (λ j l. let e : q * w + 0 + j ≡ q * w + j = omega arith in ap (λ x. get_or xs x 0) e)

top_step : (w : ℕ) (xs : List ℕ) (q k : ℕ) → k < w
    → top_words w xs q k ≡ get_or xs (q * w + k) 0 + top_words w xs q (k + 1) * 18446744073709551616
unfolding top_words of_words
top_step w xs q k l = go (w - k) (w - (k + 1)) (omega arith)
  where
    go : (m r : ℕ) → m ≡ suc r → of_words (λ j. get_or xs (q * w + k + j) 0) m ≡ get_or xs (q * w + k) 0
        + of_words (λ j. get_or xs (q * w + (k + 1) + j) 0) r * 18446744073709551616
    go m r e = ap (of_words (λ j. get_or xs (q * w + k + j) 0)) e
        ∙ omega (
          arith,
          head,
          words_same r (λ j. get_or xs (q * w + k + suc j) 0) (λ j. get_or xs (q * w + (k + 1) + j) 0)
              (λ j l. let e : q * w + k + suc j ≡ q * w + (k + 1) + j = omega arith in ap (λ x. get_or xs x 0) e),
        )
      where
        head : get_or xs (q * w + k + 0) 0 ≡ get_or xs (q * w + k) 0
        head = let e : q * w + k + 0 ≡ q * w + k = omega arith in ap (λ x. get_or xs x 0) e

module _ (w : ℕ) (xs : List ℕ) (f : (j : ℕ) → get_or xs j 0 < 18446744073709551616) (q r : ℕ) where
  top_down : (k : ℕ) → k ≤ w → top_words w xs q k < top_words w xs r k → set_in w xs q < set_in w xs r
  top_down zero l e = omega (arith, top_row w xs q, top_row w xs r)
  top_down (suc k) l e = let z : k + 1 ≡ suc k = omega arith in
      top_down k (omega arith) (omega (
        arith,
        top_step w xs q k (omega arith),
        top_step w xs r k (omega arith),
        ap (top_words w xs q) z,
        ap (top_words w xs r) z,
        f (q * w + k),
        f (r * w + k),
      ))

  -- the first word from above that tells them apart decides
  pub word_less : (k : ℕ) → k < w → top_words w xs q (k + 1) ≡ top_words w xs r (k + 1)
      → get_or xs (q * w + k) 0 < get_or xs (r * w + k) 0
      → set_in w xs q < set_in w xs r
  word_less k l e d = top_down k (omega arith) (omega (arith, top_step w xs q k l, top_step w xs r k l))

  pub word_same : (k : ℕ) → k < w → top_words w xs q (k + 1) ≡ top_words w xs r (k + 1)
      → get_or xs (q * w + k) 0 ≡ get_or xs (r * w + k) 0
      → top_words w xs q k ≡ top_words w xs r k
  word_same k l e d = omega (arith, top_step w xs q k l, top_step w xs r k l)

pub all_same : (w : ℕ) (xs : List ℕ) (q r k : ℕ) → k ≡ 0 → top_words w xs q k ≡ top_words w xs r k
    → set_in w xs q ≡ set_in w xs r
all_same w xs q r k z e = sym (top_row w xs q) ∙ ap (top_words w xs q) (sym z) ∙ e ∙ ap (top_words w xs r) z ∙ top_row w xs r

pub top_none : (w : ℕ) (xs : List ℕ) (q r : ℕ) → top_words w xs q w ≡ top_words w xs r w
unfolding top_words of_words
top_none w xs q r = go (w - w) (omega arith)
  where
    go : (m : ℕ) → m ≡ 0 → of_words (λ j. get_or xs (q * w + w + j) 0) m ≡ of_words (λ j. get_or xs (r * w + w + j) 0) m
    go m e = rw e

-- weights

-- the test that the code makes: by cost, and then by the sets' order
weigh_lesser : (cost : ℕ → ℕ) (c d s u : ℕ) → c ≤ no_cost → d ≤ no_cost → cost_in c ≡ found_cost cost (weigh c s)
    → cost_in d ≡ found_cost cost (weigh d u)
    → lesser cost (weigh c s) (weigh d u) ≡ cond (ltb c d || (eqb c d && ltb s u)) (weigh c s) (weigh d u)
unfolding weigh lesser found_cost cost_in earlier
weigh_lesser cost c d s u f g e h = go (eqb c no_cost) (eqb d no_cost) refl refl e h
  where
    same : (t : Bool) (r : Found) → r ≡ cond t r r
    same true r = refl
    same false r = refl

    go : (x y : Bool) → eqb c no_cost ≡ x → eqb d no_cost ≡ y
        → cond x nothing (found c) ≡ found_cost cost (cond x nothing (found s))
        → cond y nothing (found d) ≡ found_cost cost (cond y nothing (found u))
        → lesser cost (cond x nothing (found s)) (cond y nothing (found u))
        ≡ cond (ltb c d || (eqb c d && ltb s u)) (cond x nothing (found s)) (cond y nothing (found u))
    go true true x y e h = same (ltb c d || (eqb c d && ltb s u)) nothing
    go true false x y e h = rw (
      le-ltb c d (omega (arith, eqb-true c no_cost x)),
      ne_eqb c d (λ q. eqb-false d no_cost y (omega (arith, eqb-true c no_cost x))),
    )
    go false true x y e h = rw (lt-ltb c d (omega (arith, eqb-true d no_cost y, eqb-false c no_cost x)))
    go false false x y e h = rw (found_one e, found_one h)

module _ (cost : ℕ → ℕ) (w : ℕ) (costs sets : List ℕ) (q r : ℕ) (f : (j : ℕ) → get_or costs j 0 ≤ no_cost)
    (hq : Honest cost w costs sets q)
    (hr : Honest cost w costs sets r) where
  pub prefer_lesser : weight w costs sets (prefer w costs sets q r) ≡ lesser cost (weight w costs sets q) (weight w costs sets r)
  unfolding prefer is_before weight
  prefer_lesser = go (is_before w costs sets q r) ∙ sym
      (weigh_lesser cost (get_or costs q 0) (get_or costs r 0) (set_in w sets q) (set_in w sets r) (f q) (f r) hq hr)
    where
      go : (t : Bool) → weight w costs sets (cond t q r) ≡ cond t (weight w costs sets q) (weight w costs sets r)
      go true = refl
      go false = refl

  pub prefer_honest : Honest cost w costs sets (prefer w costs sets q r)
  unfolding prefer
  prefer_honest = go (is_before w costs sets q r)
    where
      go : (t : Bool) → Honest cost w costs sets (cond t q r)
      go true = hq
      go false = hr

-- whatever the sets, the costs alone are the lesser
pub prefer_cost : (w : ℕ) (costs sets : List ℕ) (q r : ℕ) → ((j : ℕ) → get_or costs j 0 ≤ no_cost)
    → cost_in (get_or costs (prefer w costs sets q r) 0) ≡ lesser_cost (cost_in (get_or costs q 0)) (cost_in (get_or costs r 0))
unfolding prefer is_before
prefer_cost w costs sets q r f = ap cost_in (go (ltb x y) (eqb x y) (ltb (set_in w sets q) (set_in w sets r)) refl)
    ∙ cost_least x y (f q) (f r)
  where
    x : ℕ
    x = get_or costs q 0

    y : ℕ
    y = get_or costs r 0

    go : (s t u : Bool) → eqb x y ≡ t → get_or costs (cond (s || (t && u)) q r) 0 ≡ cond s x y
    go true t u e = refl
    go false true true e = eqb-true x y e
    go false true false e = refl
    go false false u e = refl

-- the ways through `prefer` and `reached`
module _ (w : ℕ) (costs sets : List ℕ) (q r : ℕ) where
  pub prefer_less : get_or costs q 0 < get_or costs r 0 → q ≡ prefer w costs sets q r
  unfolding prefer is_before
  prefer_less l = rw (lt-ltb (get_or costs q 0) (get_or costs r 0) l)

  pub prefer_more : get_or costs r 0 ≤ get_or costs q 0 → (get_or costs q 0 ≡ get_or costs r 0 → ⊥)
      → r ≡ prefer w costs sets q r
  unfolding prefer is_before
  prefer_more l d = rw (le-ltb (get_or costs q 0) (get_or costs r 0) l, ne_eqb (get_or costs q 0) (get_or costs r 0) d)

  pub prefer_first : get_or costs q 0 ≡ get_or costs r 0 → ltb (set_in w sets q) (set_in w sets r) ≡ true
      → q ≡ prefer w costs sets q r
  unfolding prefer is_before
  prefer_first d e = rw (le-ltb (get_or costs q 0) (get_or costs r 0) (omega arith), eq-eqb (get_or costs q 0) (get_or costs r 0) d, e)

  pub prefer_last : get_or costs q 0 ≡ get_or costs r 0 → ltb (set_in w sets q) (set_in w sets r) ≡ false
      → r ≡ prefer w costs sets q r
  unfolding prefer is_before
  prefer_last d e = rw (le-ltb (get_or costs q 0) (get_or costs r 0) (omega arith), eq-eqb (get_or costs q 0) (get_or costs r 0) d, e)

module _ (s e t x r : ℕ) where
  pub reached_yes : s < t → t ≤ e → x ≡ reached s e t x r
  unfolding reached
  reached_yes l d = rw (lt-ltb s t l, le-leb t e d)

  pub reached_not : s < t → e < t → r ≡ reached s e t x r
  unfolding reached
  reached_not l d = rw (lt-ltb s t l, lt-leb t e d)

  pub reached_far : t ≤ s → r ≡ reached s e t x r
  unfolding reached
  reached_far l = rw (le-ltb s t l)
