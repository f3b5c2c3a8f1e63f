-- The payments of the bids with one window each, made one after the other. Assumes nothing.
use Rattle.std.specs.Prelude.{◌≡◌, refl, Bool, true, false, List, ℕ, ◌+◌, ◌-◌, ◌≤◌, ◌<◌, eqb, length, get_or, set}
use Rattle.std.specs.Prelude.{drop}
use Rattle.std.proofs.Common.{sym, ap, ◌∙◌, arith, get_or-set_same, get_or-set_other, eqb-true}
use Rattle.std.proofs.lemmas.Bool.{eqb-false}
use Rattle.cover.specs.Sets.{when, value_of, bit, cost, covers}
use Rattle.cover.specs.LeastCover.{winners, payment, vcg_paid}
use Rattle.cover.specs.CriticalPrice.{sum}
use Rattle.cover.specs.Settled.{spans, Settled, FilledTo}
use Rattle.cover.proofs.SettledLaws.{listed_at}
use Rattle.cover.specs.Intervals.Bids.{Bids, cost_without}
use Rattle.cover.proofs.Intervals.BidsLaws.{paid_of, without_most}
use Rattle.single_select.specs.Weighing.{Selected}
use Rattle.single_costs.specs.Across.{most_sum}
use Rattle.single.specs.Pay.{winners_of, vcg_paid_of}

-- the bids at the positions below q are paid
pub record PaidTo (f : ℕ → ℕ) (order old new : List ℕ) (n q : ℕ) : Type 0 where
  pub paid : (j : ℕ) → j < q → get_or new (get_or order j 0) 0 ≡ f (get_or order j 0)
  pub kept : (i : ℕ) → n ≤ i → get_or new i 0 ≡ get_or old i 0

pub paid_none : (f : ℕ → ℕ) (order old : List ℕ) (n : ℕ) → PaidTo f order old old n 0
paid_none f order old n = record { paid = λ j l. absurd (omega arith); kept = λ i l. refl }

pub paid_more : (f : ℕ → ℕ) (order old new : List ℕ) (n q v : ℕ) → get_or order q 0 < n → n ≤ length new
    → v ≡ f (get_or order q 0)
    → PaidTo f order old new n q → PaidTo f order old (set new (get_or order q 0) v) n (q + 1)
paid_more f order old new n q v l fit e h = record {
  paid = λ j d. go j d (eqb (get_or order j 0) (get_or order q 0)) refl;
  kept = λ i d. get_or-set_other new (get_or order q 0) i v 0 (λ z. omega arith) ∙ h.kept i d;
}
  where
    by : (j : ℕ) → j < q + 1 → (s : Bool) → eqb j q ≡ s → (get_or order j 0 ≡ get_or order q 0 → ⊥) → j < q
    by j d true z n = absurd (n (ap (λ z. get_or order z 0) (eqb-true j q z)))
    by j d false z n = omega (arith, eqb-false j q z)

    go : (j : ℕ) → j < q + 1 → (s : Bool) → eqb (get_or order j 0) (get_or order q 0) ≡ s
        → get_or (set new (get_or order q 0) v) (get_or order j 0) 0 ≡ f (get_or order j 0)
    go j d true z = rw (eqb-true (get_or order j 0) (get_or order q 0) z) (get_or-set_same new (get_or order q 0) v 0 (omega arith) ∙ e)
    go j d false z = get_or-set_other new (get_or order q 0) (get_or order j 0) v 0 (eqb-false (get_or order j 0) (get_or order q 0) z)
        ∙ h.paid j (by j d (eqb j q) refl (eqb-false (get_or order j 0) (get_or order q 0) z))

-- all of them
pub paid_all : (f : ℕ → ℕ) (a b ps order old new : List ℕ) → Bids a b ps order → length new ≡ length old → (q : ℕ)
    → q ≡ length ps
    → PaidTo f order old new (length ps) q → FilledTo f old new (length ps)
paid_all f a b ps order old new h e q z g = record {
  sized = e;
  values = λ i l. let y = h.sorted.every i l in rw y.is at (g.paid y.place (omega (arith, y.inside)));
  kept = g.kept;
}

-- a loser is paid nothing
pub pays_none : (a b ps : List ℕ) (L i : ℕ) (on : Bool) → on ≡ bit (winners_of a b ps L) i → on ≡ false
    → 0 ≡ vcg_paid_of a b ps L i
unfolding vcg_paid_of winners_of payment
pays_none a b ps L i on e z =
    let d : bit (winners (covers (spans a b) (length ps) L) ps) i ≡ false = sym e ∙ z in
    sym (paid_of i a b ps L ∙ rw d)

pub wins_bit : (a b ps : List ℕ) (L i : ℕ) (on : Bool) → on ≡ bit (winners_of a b ps L) i → on ≡ true
    → bit (winners (covers (spans a b) (length ps) L) ps) i ≡ true
unfolding winners_of
wins_bit a b ps L i on e z = sym e ∙ z

-- a flag of the list as a truth value
pub flag_is : (v : ℕ) (t : Bool) → v ≡ when t 1 → eqb v 1 ≡ t
flag_is v true e = rw e
flag_is v false e = rw e

-- a winner is paid the least cost without it, less what the others cost
pub pays_some : (a b ps : List ℕ) (L i : ℕ) (on : Bool) (rest all : ℕ) → on ≡ bit (winners_of a b ps L) i → on ≡ true
    → rest ≡ value_of (cost_without i a b ps L) → all ≡ cost ps (winners_of a b ps L)
    → rest - (all - get_or ps i 0) ≡ vcg_paid_of a b ps L i
unfolding vcg_paid_of winners_of payment
pays_some a b ps L i on rest all e z d q = sym (paid_of i a b ps L ∙ rw (wins_bit a b ps L i on e z, d, q))

pub pays_most : (a b ps : List ℕ) (L i : ℕ) → vcg_paid_of a b ps L i ≤ sum ps
unfolding vcg_paid_of payment
pays_most a b ps L i = rw (paid_of i a b ps L) (go (bit (winners (covers (spans a b) (length ps) L) ps) i))
  where
    go : (t : Bool) → payment t (value_of (cost_without i a b ps L)) (cost ps (winners (covers (spans a b) (length ps) L) ps))
        (get_or ps i 0)
        ≤ sum ps
    go true = omega (arith, without_most i a b ps L)
    go false = omega arith

-- what the selection says of the flags and of the winners' cost
pub selected_flags : (a b ps costs old_won new_won : List ℕ) (L all : ℕ) → Selected a b ps costs old_won new_won L all → (i : ℕ)
    → i < length ps → get_or new_won i 0 ≡ when (bit (winners_of a b ps L) i) 1
unfolding winners_of
selected_flags a b ps costs old_won new_won L all s i l =
    ap (λ xs. get_or xs i 0) s.flags ∙ listed_at (length ps) (λ i. when (bit (winners (covers (spans a b) (length ps) L) ps) i) 1)
    (drop (length ps) old_won) i l

pub selected_all : (a b ps costs old_won new_won : List ℕ) (L all : ℕ) → Selected a b ps costs old_won new_won L all
    → all ≡ cost ps (winners_of a b ps L)
unfolding winners_of
selected_all a b ps costs old_won new_won L all s = s.all_is

-- THE AWARD
pub award_settled : (a b ps old_won new_won costs old_cents new_cents : List ℕ) (L all : ℕ) → sum ps ≤ most_sum
    → Selected a b ps costs old_won new_won L all → FilledTo (vcg_paid_of a b ps L) old_cents new_cents (length ps)
    → Settled (λ _. Unit {0}) (λ i. bit (winners (covers (spans a b) (length ps) L) ps) i)
    (vcg_paid (covers (spans a b) (length ps) L) ps) ps old_won old_cents new_won new_cents
unfolding vcg_paid_of
award_settled a b ps old_won new_won costs old_cents new_cents L all l s w = record {
  flags = s.flags;
  payments = λ i d u. w.values i d;
  small = λ i d. omega (arith, w.values i d, pays_most a b ps L i);
  sized = w.sized;
  kept = w.kept;
}
