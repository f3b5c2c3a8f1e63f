-- Sums made one entry after the other, and the totals of a settled award. Assumes nothing.
use Rattle.std.specs.Prelude.{◌≡◌, refl, Bool, true, false, ◌&&◌, List, ℕ, ◌+◌, ◌*◌, ◌≤◌, ◌<◌, length, get_or}
use Rattle.std.specs.Prelude.{ltb, eqb}
use Rattle.std.proofs.Common.{ap, ◌∙◌, le_antisymm, arith, ltb-true}
use Rattle.tender.specs.declared.Totals.{Totals}
use Rattle.cover.specs.Sets.{when}
use Rattle.cover.specs.CriticalPrice.{sum}
use Rattle.cover.specs.Settled.{listed, most_cents}
use Rattle.cover.proofs.SettledLaws.{listed_same, sum_to, sum_none, sum_more, sum_listed}
use Rattle.award_check.specs.Auction.{Auction, reserved}
use Rattle.award_rule.specs.Award.{Rule, won, cents, totals_of}
use Rattle.award_rule.specs.Sums.{asked, cost_in, paid_in, house_in, totals_in}

-- s is the sum of f below k, of n numbers that are each no more than a payment can be
pub record Added (f : ℕ → ℕ) (n k s : ℕ) : Type 0 where
  pub inside : k ≤ n
  pub sum_is : s ≡ sum_to f k
  pub small : s ≤ most_cents * k

pub added_none : (f : ℕ → ℕ) (n : ℕ) → Added f n 0 0
added_none f n = record { inside = omega arith; sum_is = sum_none f; small = omega arith }

pub added_more : {f : ℕ → ℕ} {n k s : ℕ} (v : ℕ) → Added f n k s → k < n → v ≡ f k → v ≤ most_cents
    → Added f n (k + 1) (s + v)
added_more {f} {n} {k} {s} v a l e m = record {
  inside = omega arith;
  sum_is = ap (λ (x : ℕ). s + x) e ∙ sum_more f k s a.sum_is;
  small = omega (arith, a.small);
}

added_all : {f : ℕ → ℕ} {n k s : ℕ} → Added f n k s → n ≤ k → s ≡ sum (listed n f)
added_all {f} {n} {k} {s} a l = a.sum_is ∙ ap (sum_to f) (le_antisymm a.inside l) ∙ sum_listed n f

pub cost_all : (ps flags : List ℕ) {k s : ℕ} → Added (asked ps flags) (length ps) k s → length ps ≤ k → s ≡ cost_in ps flags
unfolding cost_in
cost_all ps flags a l = added_all a l

pub paid_all : (pays : List ℕ) {n k s : ℕ} → Added (λ i. get_or pays i 0) n k s → n ≤ k → s ≡ paid_in pays n
unfolding paid_in
paid_all pays a l = added_all a l

pub same_totals : (a b : Totals) → a.cost ≡ b.cost → a.paid ≡ b.paid → a.house ≡ b.house → a ≡ b
same_totals a b e f g = ap (λ (v : ℕ). record { cost = v; paid = a.paid; house = a.house }) e
    ∙ ap (λ (v : ℕ). record { cost = b.cost; paid = v; house = a.house }) f
    ∙ ap (λ (v : Bool). record { cost = b.cost; paid = b.paid; house = v }) g

pub totals_in_lem : (ps flags pays : List ℕ) (n : ℕ) (r : Totals) → r.cost ≡ cost_in ps flags → r.paid ≡ paid_in pays n
    → r.house ≡ house_in ps flags n → r ≡ totals_in ps flags pays n
unfolding totals_in
totals_in_lem ps flags pays n r e f g = same_totals r (totals_in ps flags pays n) e f g

-- flags and cents that are those of the definitions give the totals of the definitions
pub totals_are : (r : Rule) (A : Auction) (flags pays : List ℕ)
    → ((i : ℕ) → i < length A.prices → eqb (get_or flags i 0) 1 ≡ won r A i)
    → ((i : ℕ) → i < A.owners → get_or pays i 0 ≡ cents r A i) → totals_in A.prices flags pays A.owners ≡ totals_of r A
unfolding totals_in cost_in paid_in house_in totals_of reserved
totals_are r A flags pays w c = same_totals (totals_in A.prices flags pays A.owners) (totals_of r A)
    (ap sum (listed_same (length A.prices) (asked A.prices flags) (λ i. when (won r A i) (get_or A.prices i 0))
    (λ i l. ap (λ (b : Bool). when b (get_or A.prices i 0)) (w i l))))
    (ap sum (listed_same A.owners (λ i. get_or pays i 0) (cents r A) c))
    (house (ltb A.owners (length A.prices)) refl)
  where
    house : (b : Bool) → ltb A.owners (length A.prices) ≡ b
        → (b && eqb (get_or flags A.owners 0) 1) ≡ (b && won r A A.owners)
    house true u = w A.owners (ltb-true A.owners (length A.prices) u)
    house false u = refl
