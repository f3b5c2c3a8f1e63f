-- What the test of a table of masks gives at each entry: its value, and its bits. Assumes nothing.
use Rattle.std.specs.Prelude.{◌≡◌, refl, Bool, true, false, ◌&&◌, List, [], ◌∷◌, ℕ, zero, suc, ◌+◌, ◌-◌, ◌^◌}
use Rattle.std.specs.Prelude.{◌≤◌, ◌<◌, eqb, length, get_or}
use Rattle.std.proofs.Common.{sym, ap, ◌∙◌, arith, add-zero, zero-add, eqb-true}
use Rattle.std.proofs.lemmas.Bool.{false≢true}
use Rattle.cells.specs.Cells.{Span}
use Rattle.cells.specs.Masks.{masks, masks_from}
use Rattle.cells.proofs.BitLaws.{ones_in, ones_out}

both_true : (a b : Bool) → a && b ≡ true → (a ≡ true) × (b ≡ true)
both_true true b e = (refl, e)
both_true false b e = absurd (false≢true e)

value_at : (j : ℕ) (ms : List ℕ) → masks_from j ms ≡ true → (k : ℕ) → k < length ms → get_or ms k 0 ≡ 2 ^ (j + k) - 1
unfolding masks_from
value_at j [] t k h = absurd (omega arith)
value_at j (m ∷ ms) t zero h =
    eqb-true m (2 ^ j - 1) (both_true (eqb m (2 ^ j - 1)) (masks_from (suc j) ms) t).0
    ∙ ap (λ (i : ℕ). 2 ^ i - 1) (sym (add-zero j))
value_at j (m ∷ ms) t (suc k) h =
    value_at (suc j) ms (both_true (eqb m (2 ^ j - 1)) (masks_from (suc j) ms) t).1 k (omega arith)
    ∙ ap (λ (i : ℕ). 2 ^ i - 1) (omega arith)

first_span : (k : ℕ) → Span 0 k (2 ^ k - 1)
first_span k = record { inside = λ j lo hi. ones_in k j hi; below = λ j l. absurd (omega arith); above = λ j l hi. ones_out k j l }

pub masks_length : length masks ≡ 65
unfolding masks
masks_length = refl

-- the test, computed once over the whole table
masks_pass : masks_from 0 masks ≡ true
unfolding masks masks_from
masks_pass = refl

-- what it gives at each entry: entry k is the number of k set bits, and has the bits of the first k cells and no other
pub mask_rule : (k : ℕ) → k ≤ 64 → (get_or masks k 0 ≡ 2 ^ k - 1) × Span 0 k (get_or masks k 0)
unfolding masks
mask_rule k h = (value, rw value (first_span k))
  where
    value : get_or masks k 0 ≡ 2 ^ k - 1
    value = value_at 0 masks masks_pass k (omega arith) ∙ ap (λ (i : ℕ). 2 ^ i - 1) (zero-add k)
