-- How the list of the bids that take part in every payment is picked. Assumes nothing.
use Rattle.std.specs.Prelude.{◌≡◌, refl, ◌⊎◌, Bool, true, false, List, ℕ, ◌+◌, ◌*◌, ◌≤◌, ◌<◌, length, set}
use Rattle.std.specs.Prelude.{eqb}
use Rattle.std.proofs.Common.{sym, ◌∙◌, inl, inr, ⊎_elim, arith, length-set, get_or-set_same, get_or-set_other, eqb-true}
use Rattle.std.proofs.lemmas.Bool.{eqb-false}
use Rattle.cells.specs.Cells.{cell}
use Rattle.multi_keys.specs.Keys.{at, out}
use Rattle.multi_keys.specs.Tree.{leaves}
use Rattle.multi_keys.proofs.TreeLaws.{leaf_at, leaves_set, length_leaves}
use Rattle.multi_market.specs.Market.{Priced, First}
use Rattle.multi_market.specs.Opens.{open_of}
use Rattle.multi_market.proofs.OpensLaws.{two_way}
use Rattle.multi_market.proofs.BeginLaws.{open_first}
use Rattle.multi_market.specs.Seats.{Seat, Entered}
use Rattle.multi_market.proofs.KeyedLaws.{zero_or}
use Rattle.multi_rounds.specs.TracingLaws.{seats_of}
use Rattle.multi_pay.specs.Paying.{Listed}
use Rattle.multi.specs.Picked.{Picked}

-- the leaves below i are picked
pub record Picking (ever tree list : List ℕ) (i : ℕ) : Type 0 where
  pub size : length list ≡ 2048
  pub each : (j : ℕ) → j < i → 0 < cell ever j → at (leaves list) j ≡ at (leaves tree) j
  pub others : (j : ℕ) → j < i → cell ever j ≡ 0 → at (leaves list) j ≡ out

pub picks_none : (ever tree list : List ℕ) → length list ≡ 2048 → Picking ever tree list 0
picks_none ever tree list e = record { size = e; each = λ j l. absurd (omega arith); others = λ j l. absurd (omega arith) }

-- one leaf more
picks_more : {ever tree list : List ℕ} {i : ℕ} (v : ℕ) → Picking ever tree list i → i < 1024
    → (0 < cell ever i → v ≡ at (leaves tree) i) → (cell ever i ≡ 0 → v ≡ out)
    → Picking ever tree (set list (1024 + i) v) (i + 1)
picks_more {ever} {tree} {list} {i} v s l f g = record {
  size = simp length-set s.size;
  each = λ j m z. rw (leaves_set list i v) (go (λ (x : ℕ). 0 < cell ever j → x ≡ at (leaves tree) j) j m
      (λ e. rw e f) (λ k. s.each j k) (eqb j i) refl z);
  others = λ j m z. rw (leaves_set list i v) (go (λ (x : ℕ). cell ever j ≡ 0 → x ≡ out) j m
      (λ e. rw e g) (λ k. s.others j k) (eqb j i) refl z);
}
  where
    within : i < length (leaves list)
    within = omega (arith, length_leaves list s.size)

    go : (P : ℕ → Type 0) (j : ℕ) → j < i + 1 → (j ≡ i → P v) → (j < i → P (at (leaves list) j))
        → (t : Bool) → eqb j i ≡ t → P (at (set (leaves list) i v) j)
    go P j m here there true e = rw (eqb-true j i e, get_or-set_same (leaves list) i v 0 within) (here (eqb-true j i e))
    go P j m here there false e = rw (get_or-set_other (leaves list) i j v 0 (eqb-false j i e)) (there (omega (arith, eqb-false j i e)))

-- the leaf of a bid in `ever`
pub picks_bid : {ever tree list : List ℕ} {i : ℕ} → Picking ever tree list i → i < 1024 → eqb (cell ever i) 1 ≡ true
    → Picking ever tree (set list (1024 + i) (at tree (1024 + i))) (i + 1)
picks_bid {ever} {tree} {i = i} s l e =
    picks_more _ s l (λ z. sym (leaf_at tree i)) (λ z. absurd (omega (arith, eqb-true (cell ever i) 1 e)))

-- the leaf of another
pub picks_out : {ever tree list : List ℕ} {i : ℕ} → Picking ever tree list i → i < 1024 → eqb (cell ever i) 1 ≡ false
    → Picking ever tree (set list (1024 + i) out) (i + 1)
picks_out {ever} {i = i} s l e = picks_more out s l
    (λ z. absurd (⊎_elim (λ y. omega arith) (λ y. eqb-false (cell ever i) 1 e y) (two_way ever i))) (λ z. refl)

pub picks_all : {ever tree list : List ℕ} {i : ℕ} (new : List ℕ) → Picking ever tree list i → 1024 ≤ i
    → leaves new ≡ leaves list → Picked ever (leaves tree) (leaves new)
picks_all {list = list} new s l e = rw e (record {
  size = length_leaves list s.size;
  each = λ j m. s.each j (omega arith);
  others = λ j m. s.others j (omega arith);
})

-- the list is right for every row of words with the first n cells
pub listed_first : {has : ℕ → ℕ → Bool} {ps : List ℕ} {n : ℕ} {held ever keys new : List ℕ} → Priced ps → First n held
    → n ≤ 64 * length held → Entered has ps held keys → Picked ever keys new
    → (h : List ℕ) → First n h → length h ≡ length held → Listed has ps h ever new
listed_first {has} {ps} {n} {held} {ever} {keys} {new} p f l e k h g d = record {
  seats = record { size = k.size; each = λ i m. go i m (zero_or (cell ever i)) };
  outs = λ i m z. k.others i (omega (arith, p.count)) z;
  bound = λ i m z. rw same (omega (arith, k.each i (omega (arith, p.count)) z, e.each i m));
}
  where
    same : open_of h ≡ open_of held
    same = open_first g (omega (arith, d)) ∙ sym (open_first f l)

    go : (i : ℕ) → i < 1024 → (cell ever i ≡ 0) ⊎ (0 < cell ever i) → (at new i ≡ out) ⊎ Seat has ps h i (at new i)
    go i m (inl z) = inl (k.others i m z)
    go i m (inr z) = rw (k.each i m z) (⊎_elim (λ y. inl y) (λ y. inr (record {
      inside = y.inside;
      tells = y.tells;
      below = rw same y.below;
    })) ((seats_of p e).each i m))
