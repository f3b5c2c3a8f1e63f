-- A list filled from the front by the values of a function. Assumes nothing.
use Rattle.std.specs.Prelude.{◌≡◌, refl, Bool, true, false, List, ℕ, ◌+◌, ◌/◌, ◌%◌, ◌^◌, ◌≤◌, ◌<◌, length}
use Rattle.std.specs.Prelude.{get_or, set, eqb}
use Rattle.std.proofs.Common.{sym, ◌∙◌, arith, length-set, get_or-set_same, get_or-set_other, ext_get_or, eqb-true}
use Rattle.std.proofs.Math.Nat.{zero-div}
use Rattle.std.proofs.lemmas.Bool.{eqb-false}
use Rattle.cells.specs.Cells.{cell, Cleared}

-- the places below i of new have the values of f, and new is as long as old
pub record Filling (f : ℕ → ℕ) (old new : List ℕ) (i : ℕ) : Type 0 where
  pub inside : i ≤ length old
  pub same : length new ≡ length old
  pub done : (j : ℕ) → j < i → get_or new j 0 ≡ f j

module _ {f : ℕ → ℕ} where
  pub none : (old : List ℕ) → Filling f old old 0
  none old = record { inside = omega arith; same = refl; done = λ j l. omega arith }

  pub more : {old new : List ℕ} {i : ℕ} (v : ℕ) → v ≡ f i → i < length old → Filling f old new i
      → Filling f old (set new i v) (i + 1)
  more {old} {new} {i} v e l h = record { inside = omega arith; same = simp length-set h.same; done = λ j q. go j q (eqb j i) refl }
    where
      go : (j : ℕ) → j < i + 1 → (t : Bool) → eqb j i ≡ t → get_or (set new i v) j 0 ≡ f j
      go j q true d = rw (eqb-true j i d, get_or-set_same new i v 0 (omega (arith, h.same))) e
      go j q false d = rw (get_or-set_other new i j v 0 (eqb-false j i d)) (h.done j (omega (arith, eqb-false j i d)))

pub copied : {old new : List ℕ} (xs : List ℕ) {i : ℕ} → length new ≤ i → length xs ≡ length old
    → Filling (λ j. get_or xs j 0) old new i → new ≡ xs
copied {old} {new} xs {i} l e h = ext_get_or 0 new xs (h.same ∙ sym e) (λ j q. h.done j (omega arith))

pub no_cell : (xs : List ℕ) → Cleared xs → (x : ℕ) → cell xs x ≡ 0
unfolding cell
no_cell xs c x = rw (c.none (x / 64), zero-div (2 ^ (x % 64)))
