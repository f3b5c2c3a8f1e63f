-- Runs found one after the other: past minutes that do not pass, over minutes that pass up to one that does not. Assumes nothing.
use Rattle.std.specs.Prelude.{◌≡◌, refl, Bool, true, false, cond, List, [], ◌∷◌, ℕ, zero, suc, ◌+◌, ◌≤◌, ◌<◌}
use Rattle.std.proofs.Common.{ap, ◌∙◌, arith, eq-eqb}
use Rattle.tender.specs.declared.Window.{Window}
use Rattle.runs.specs.Runs.{extended, runs}
use Rattle.runs.proofs.RunsFewLaws.{begins_here, starts_here, runs_start}

-- k minutes that do not pass
pub runs_skip : (P : ℕ → Bool) (at k n : ℕ) → ((m : ℕ) → at ≤ m → m < at + k → P m ≡ false)
    → runs P at (k + n) ≡ runs P (at + k) n
unfolding runs
runs_skip P at zero n h = let a : 0 + n ≡ n = omega arith in let b : at + 0 ≡ at = omega arith in rw (a, b)
runs_skip P at (suc k) n h =
    let a : suc k + n ≡ suc (k + n) = omega arith in
    let b : at + 1 + k ≡ at + suc k = omega arith in
    ap (runs P at) a ∙ ap (λ b. cond b (extended at (runs P (at + 1) (k + n))) (runs P (at + 1) (k + n)))
    (h at (omega arith) (omega arith))
    ∙ runs_skip P (at + 1) k n (λ m l u. h m (omega arith) (omega arith)) ∙ ap (λ (x : ℕ). runs P x n) b

-- no minute passes
pub runs_none : (P : ℕ → Bool) (at n : ℕ) → ((m : ℕ) → at ≤ m → m < at + n → P m ≡ false) → runs P at n ≡ []
unfolding runs
runs_none P at n h = let a : n ≡ n + 0 = omega arith in ap (runs P at) a ∙ runs_skip P at n 0 h

extended_apart : (at : ℕ) (ws : List Window) → starts_here (at + 1) ws ≡ false
    → extended at ws ≡ record { start = at; end = at + 1 } ∷ ws
unfolding extended
extended_apart at [] e = refl
extended_apart at (w ∷ ws) e = rw e

extended_next : (at z : ℕ) (ws : List Window)
    → extended at (record { start = at + 1; end = z } ∷ ws) ≡ record { start = at; end = z } ∷ ws
unfolding extended
extended_next at z ws = rw (eq-eqb (at + 1) (at + 1) refl)

-- k + 1 minutes that pass, up to the end or one that does not
pub runs_run : (P : ℕ → Bool) (at k n : ℕ) → ((m : ℕ) → at ≤ m → m < at + suc k → P m ≡ true)
    → begins_here P (at + suc k) n ≡ false → runs P at (suc k + n) ≡ record { start = at; end = at + suc k } ∷ runs P
    (at + suc k) n
unfolding runs
runs_run P at zero n h e =
    let a : suc 0 + n ≡ suc n = omega arith in
    ap (runs P at) a ∙ ap (λ b. cond b (extended at (runs P (at + 1) n)) (runs P (at + 1) n)) (h at (omega arith) (omega arith))
    ∙ extended_apart at (runs P (at + 1) n) (runs_start P (at + 1) n ∙ e)
runs_run P at (suc k) n h e =
    let a : suc (suc k) + n ≡ suc (suc k + n) = omega arith in
    let b : at + 1 + suc k ≡ at + suc (suc k) = omega arith in
    ap (runs P at) a ∙ ap (λ b. cond b (extended at (runs P (at + 1) (suc k + n))) (runs P (at + 1) (suc k + n)))
    (h at (omega arith) (omega arith))
    ∙ ap (extended at) (runs_run P (at + 1) k n (λ m l u. h m (omega arith) (omega arith)) (rw b e))
    ∙ extended_next at (at + 1 + suc k) (runs P (at + 1 + suc k) n)
    ∙ ap (λ (z : ℕ). record { start = at; end = z } ∷ runs P z n) b
