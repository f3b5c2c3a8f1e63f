-- Laws of costs in words. Assumes nothing.
use Rattle.std.specs.Prelude.{◌≡◌, refl, Bool, true, false, cond, ℕ, ◌+◌, ◌≤◌, ◌<◌, eqb, ltb}
use Rattle.std.proofs.Common.{ap, ◌∙◌, sym, arith, eqb-true, eq-eqb, ne_eqb, ltb-true, ltb-false}
use Rattle.std.proofs.lemmas.Bool.{eqb-false}
use Rattle.cover.specs.Sets.{nothing, found, value_of}
use Rattle.cover.specs.Intervals.{raise, lesser_cost}
use Rattle.single_lead.specs.Costs.{no_cost, cost_in, plus_price}

pub price_none : (c p : ℕ) → c ≡ no_cost → c ≡ plus_price c p
unfolding plus_price
price_none c p e = rw (eq-eqb c no_cost e)

pub price_some : (c p : ℕ) → (c ≡ no_cost → ⊥) → c + p ≡ plus_price c p
unfolding plus_price
price_some c p e = rw (ne_eqb c no_cost e)

pub cost_found : (c : ℕ) → (c ≡ no_cost → ⊥) → cost_in c ≡ found c
unfolding cost_in
cost_found c f = ap (λ z. cond z nothing (found c)) (ne_eqb c no_cost f)

pub cost_more : (c p : ℕ) → ((c ≡ no_cost → ⊥) → c + p < no_cost) → cost_in (plus_price c p) ≡ raise p (cost_in c)
unfolding cost_in plus_price raise
cost_more c p f = go (eqb c no_cost) refl
  where
    go : (t : Bool) → eqb c no_cost ≡ t → cost_in (cond t c (c + p)) ≡ raise p (cond t nothing (found c))
    go true e = ap (λ z. cond z nothing (found c)) e
    go false e = ap (λ z. cond z nothing (found (c + p))) (ne_eqb (c + p) no_cost (λ q. omega (arith, f (eqb-false c no_cost e))))

-- the lesser of two words is the lesser cost
pub cost_least : (x r : ℕ) → x ≤ no_cost → r ≤ no_cost → cost_in (cond (ltb x r) x r) ≡ lesser_cost (cost_in x) (cost_in r)
unfolding cost_in lesser_cost
cost_least x r u v = go (eqb x no_cost) (eqb r no_cost) (ltb x r) refl refl refl
  where
    go : (s t q : Bool) → eqb x no_cost ≡ s → eqb r no_cost ≡ t → ltb x r ≡ q
        → cost_in (cond q x r) ≡ lesser_cost (cond s nothing (found x)) (cond t nothing (found r))
    go true t true d e l = absurd (omega (arith, eqb-true x no_cost d, ltb-true x r l))
    go true t false d e l = ap (λ z. cond z nothing (found r)) e
    go false true true d e l = ap (λ z. cond z nothing (found x)) d
    go false true false d e l = absurd (omega (arith, eqb-true r no_cost e, ltb-false x r l, eqb-false x no_cost d))
    go false false true d e l = ap (λ z. cond z nothing (found x)) d ∙ ap (λ z. cond z (found x) (found r)) (sym l)
    go false false false d e l = ap (λ z. cond z nothing (found r)) e ∙ ap (λ z. cond z (found x) (found r)) (sym l)

-- the number that a cost is, 0 where there is none
pub value_none : (c : ℕ) → c ≡ no_cost → 0 ≡ value_of (cost_in c)
unfolding value_of cost_in
value_none c e = rw (eq-eqb c no_cost e)

pub value_some : (c : ℕ) → (c ≡ no_cost → ⊥) → c ≡ value_of (cost_in c)
unfolding value_of cost_in
value_some c e = rw (ne_eqb c no_cost e)
