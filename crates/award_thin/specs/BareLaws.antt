-- The earliest cell that no bid has: cell by cell, and bid by bid. Assumes nothing.
use Rattle.std.specs.Prelude.{◌≡◌, refl, Bool, true, false, ℕ, ◌+◌, ◌≤◌, ◌<◌}
use Rattle.std.proofs.Math.Path.{ap}
use Rattle.std.proofs.Math.Numerals.{add-one}
use Rattle.std.proofs.Common.{arith}
use borrow.Author.Tests.{lt-ltb, le-ltb}
use Rattle.cover.specs.Sets.{when, bidders}
use Rattle.award_thin.specs.Thin.{fewer, FirstOf}
use Rattle.award_thin.specs.CountsLaws.{some_bidder}
use Rattle.award_thin.specs.FirstsLaws.{one_more_before}

-- each cell before x has a bidder
pub record Looking (has : ℕ → ℕ → Bool) (n L x : ℕ) : Type 0 where
  pub inside : x ≤ L
  pub before : (y : ℕ) → y < x → fewer has n 1 y ≡ false

-- and of the first i bids none has cell x
pub record Asking (has : ℕ → ℕ → Bool) (n L x i : ℕ) : Type 0 where
  pub looking : Looking has n L x
  pub here : x < L
  pub upto : i ≤ n
  pub none : bidders has i x ≡ 0

pub looks_none : (has : ℕ → ℕ → Bool) (n L : ℕ) → Looking has n L 0
looks_none has n L = record { inside = omega arith; before = λ y l. absurd (omega arith) }

pub asks_none : (has : ℕ → ℕ → Bool) (n L x : ℕ) → Looking has n L x → x < L → Asking has n L x 0
unfolding bidders
asks_none has n L x h l = record { looking = h; here = l; upto = omega arith; none = refl }

module _ {has : ℕ → ℕ → Bool} {n L x i : ℕ} (a : Asking has n L x i) where
  pub looks_on : i < n → has i x ≡ true → Looking has n L (x + 1)
  unfolding fewer
  looks_on l e = record {
    inside = omega (arith, a.here);
    before = one_more_before (fewer has n 1) x a.looking.before (le-ltb (bidders has n x) 1 (some_bidder has n x i l e));
  }

  pub asks_on : i < n → has i x ≡ false → Asking has n L x (i + 1)
  unfolding bidders
  asks_on l e = record {
    looking = a.looking;
    here = a.here;
    upto = omega arith;
    none = rw add-one (omega (arith, a.none, ap (λ b. when b 1) e));
  }

  pub bare_found : n ≤ i → FirstOf (fewer has n 1) L x
  unfolding fewer
  bare_found l = let d : i ≡ n = omega (arith, a.upto) in
      record {
        inside = a.looking.inside;
        here = λ k. lt-ltb (bidders has n x) 1 (omega (arith, rw d at a.none));
        before = a.looking.before;
      }

pub bare_none : {has : ℕ → ℕ → Bool} {n L x : ℕ} → Looking has n L x → L ≤ x → FirstOf (fewer has n 1) L x
bare_none h l = record { inside = h.inside; here = λ k. absurd (omega arith); before = h.before }
