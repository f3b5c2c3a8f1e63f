-- The sweep over bids of one window each in order of start: each cell before the second greatest end so far is in two of the bids
-- so far, and a cell from there on in one where it is before the greatest, else in none. Assumes nothing.
use Rattle.std.specs.Prelude.{◌≡◌, List, Bool, true, false, ℕ, zero, suc, ◌+◌, ◌-◌, ◌≤◌, ◌<◌, min, max, length}
use Rattle.std.specs.Prelude.{ltb}
use Rattle.std.proofs.Math.Path.{refl}
use Rattle.std.proofs.Common.{sym, ap, ◌∙◌, ⊎_elim, add-one}
use native.Mathlib.Omega.{arith}
use Rattle.std.proofs.Math.ListN.{get_or}
use borrow.Author.Tests.{lt-ltb, le-ltb, le-leb, lt-leb}
use Rattle.cells.proofs.StoreLaws.{lt_or_le}
use Rattle.cover.specs.Sets.{when, bidders}
use Rattle.cover.specs.Settled.{spans}
use Rattle.cover.specs.Intervals.{Order}
use Rattle.award_thin.specs.Thin.{Spans, fewer, FirstOf}
use Rattle.award_thin.specs.CountsLaws.{two_positions, two_at_positions}

-- which of the bids in order has the cell
abbrev placed : List ℕ → List ℕ → List ℕ → ℕ → ℕ → Bool
placed starts ends order q = spans starts ends (get_or order q 0)

-- the first q bids in order, and their two greatest ends, 0 for none
pub record Ends (starts ends order : List ℕ) (L q first second : ℕ) : Type 0 where
  pub upto : q ≤ length starts
  pub falling : second ≤ first
  pub inside : first ≤ L
  pub two : (x : ℕ) → x < second → 2 ≤ bidders (placed starts ends order) q x
  pub rest : (x : ℕ) → second ≤ x → bidders (placed starts ends order) q x ≡ when (ltb x first) 1

lies : (x y : ℕ) → x < y → when (ltb x y) 1 ≡ 1
lies x y l = ap (λ b. when b 1) (lt-ltb x y l)

past : (x y : ℕ) → y ≤ x → when (ltb x y) 1 ≡ 0
past x y l = ap (λ b. when b 1) (le-ltb x y l)

pub ends_begin : (starts ends order : List ℕ) (L : ℕ) → Ends starts ends order L 0 0 0
unfolding bidders
ends_begin starts ends order L = record {
  upto = omega arith;
  falling = omega arith;
  inside = omega arith;
  two = λ x l. absurd (omega arith);
  rest = λ x l. sym (past x 0 l);
}

one_more : (has : ℕ → ℕ → Bool) (q x : ℕ) → bidders has (q + 1) x ≡ when (has q x) 1 + bidders has q x
unfolding bidders
one_more has q x = ap (λ (m : ℕ). bidders has m x) (add-one q)

more_bidders : (has : ℕ → ℕ → Bool) (q d x : ℕ) → bidders has q x ≤ bidders has (q + d) x
more_bidders has q zero x = let e : q + 0 ≡ q = omega arith in rw e (omega arith)
more_bidders has q (suc d) x = let e : q + suc d ≡ q + d + 1 = omega arith in
    rw e (omega (arith, one_more has (q + d) x, more_bidders has q d x))

no_more_bidders : (has : ℕ → ℕ → Bool) (q d x : ℕ) → ((r : ℕ) → q ≤ r → r < q + d → has r x ≡ false)
    → bidders has (q + d) x ≡ bidders has q x
no_more_bidders has q zero x f = let e : q + 0 ≡ q = omega arith in ap (λ (m : ℕ). bidders has m x) e
no_more_bidders has q (suc d) x f = let e : q + suc d ≡ q + d + 1 = omega arith in
    ap (λ (m : ℕ). bidders has m x) e
    ∙ omega (
      arith,
      one_more has (q + d) x,
      ap (λ b. when b 1) (f (q + d) (omega arith) (omega arith)),
      no_more_bidders has q d x (λ r l m. f r l (omega arith)),
    )

module _ {starts ends order : List ℕ} {L q first second : ℕ} (g : Ends starts ends order L q first second)
    (s : Spans starts ends L) where
  abbrev begin : ℕ
  begin = get_or starts (get_or order q 0) 0

  abbrev end : ℕ
  end = get_or ends (get_or order q 0) 0

  -- one bid more, which begins where two still reach
  module _ (l : q < length starts) (open_there : begin ≤ second) where
    has_it : (x : ℕ) → second ≤ x → when (placed starts ends order q x) 1 ≡ when (ltb x end) 1
    unfolding spans
    has_it x m = rw (le-leb begin x (omega (arith, open_there))) refl

    here : (x : ℕ) → second ≤ x → bidders (placed starts ends order) (q + 1) x ≡ when (ltb x end) 1 + when (ltb x first) 1
    here x m = omega (arith, one_more (placed starts ends order) q x, has_it x m, g.rest x m)

    pub ends_more : Ends starts ends order L (q + 1) (max first end) (max second (min first end))
    ends_more = record {
      upto = omega arith;
      falling = omega (arith, g.falling);
      inside = omega (arith, g.inside, s.inside (get_or order q 0));
      two = λ x m. ⊎_elim (λ lt. omega (arith, one_more (placed starts ends order) q x, g.two x lt))
          (λ le. omega (arith, here x le, lies x end (omega arith), lies x first (omega arith))) (lt_or_le x second);
      rest = λ x m. here x (omega arith)
          ∙ ⊎_elim (λ lt. ⊎_elim (λ lt'. absurd (omega arith))
          (λ le. omega (arith, lies x end lt, past x first le, lies x (max first end) (omega arith))) (lt_or_le x first))
          (λ le. ⊎_elim (λ lt. omega (arith, past x end le, lies x first lt, lies x (max first end) (omega arith)))
          (λ le'. omega (arith, past x end le, past x first le', past x (max first end) (omega arith))) (lt_or_le x first))
          (lt_or_le x end);
    }

  -- no bid that is left begins before the second greatest end
  module _ (o : Order (length starts) (λ i. get_or starts i 0) (λ q. get_or order q 0))
      (later : (r : ℕ) → q ≤ r → r < length starts → second < get_or starts (get_or order r 0) 0) where
    all : q + (length starts - q) ≡ length starts
    all = omega (arith, g.upto)

    not_there : (r : ℕ) → q ≤ r → r < q + (length starts - q) → placed starts ends order r second ≡ false
    unfolding spans
    not_there r l m = rw (lt-leb (get_or starts (get_or order r 0) 0) second (later r l (omega (arith, all)))) refl

    one_at_most : bidders (placed starts ends order) (length starts) second ≤ 1
    one_at_most = omega (
      arith,
      rw all at (no_more_bidders (placed starts ends order) q (length starts - q) second not_there),
      g.rest second (omega arith),
      when_most (ltb second first),
    )
      where
        when_most : (b : Bool) → when b 1 ≤ 1
        when_most true = omega arith
        when_most false = omega arith

    pub ends_found : FirstOf (fewer (spans starts ends) (length starts) 2) L second
    unfolding fewer
    ends_found = record {
      inside = omega (arith, g.falling, g.inside);
      here = λ k. lt-ltb (bidders (spans starts ends) (length starts) second) 2 (⊎_elim (λ lt. lt)
          (λ le. absurd (omega (
            arith,
            one_at_most,
            two_positions (length starts) (λ i. get_or starts i 0) order o (spans starts ends) second le,
          ))) (lt_or_le (bidders (spans starts ends) (length starts) second) 2));
      before = λ x l. le-ltb (bidders (spans starts ends) (length starts) x) 2
          (two_at_positions (length starts) (λ i. get_or starts i 0) order o (spans starts ends) x
          (omega (arith, g.two x l, rw all at (more_bidders (placed starts ends order) q (length starts - q) x))));
    }
