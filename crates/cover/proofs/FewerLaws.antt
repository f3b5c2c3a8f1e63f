-- Bid i may have fewer cells, and every other bid the same: no more sets cover, and of the sets without bid i just those that did; no
-- cell has more bidders. Assumes nothing.
use Rattle.std.specs.Prelude.{◌≡◌, Bool, ◌&&◌, ◌||◌, eqb}
use Rattle.std.proofs.Math.Path.{refl, ap, fun_ext}
use Rattle.std.proofs.Common.{sym, ◌∙◌, eqb-true}
use Rattle.std.proofs.Math.Bool.{true, false, not, and-false, true≢false}
use Prim.Native.Nat.{ℕ, zero, suc, ◌+◌, ◌≤◌}
use native.Mathlib.Omega.{arith}
use Rattle.std.proofs.lemmas.Bool.{eqb-false}
use Rattle.cover.specs.Sets.{when, nothing, all, bit, hit, covers, bidders}
use Rattle.cover.specs.LeastCover.{without}
use Rattle.cover.specs.Earliest.{cell_with}
use Rattle.cover.proofs.SetLaws.{all_of, all_at, hit_of, hit_some}
use Rattle.cover.proofs.EarliestLaws.{cell_none, two_at}

module _ (has has' : ℕ → ℕ → Bool) (i : ℕ) (others : (j : ℕ) → (j ≡ i → ⊥) → has' j ≡ has j)
    (fewer : (x : ℕ) → has' i x ≡ true → has i x ≡ true) where
  has_fewer : (j x : ℕ) → has' j x ≡ true → has j x ≡ true
  has_fewer j x e = go (eqb j i) refl
    where
      go : (b : Bool) → eqb j i ≡ b → has j x ≡ true
      go true d = rw (eqb-true j i d) (fewer x (rw (eqb-true j i d) at e))
      go false d = rw (← others j (eqb-false j i d)) e

  pub covers_fewer : (n L s : ℕ) → covers has' n L s ≡ true → covers has n L s ≡ true
  unfolding covers
  covers_fewer n L s e = all_of (hit has n s) L (λ x l. let m = hit_some has' n s x (all_at (hit has' n s) L e x l) in
      hit_of has n s x m.who m.inside m.in_set (has_fewer m.who x m.covers_it))

  -- a set without bid i has the same cells
  hit_same : (n s x : ℕ) → bit s i ≡ false → hit has' n s x ≡ hit has n s x
  unfolding hit
  hit_same zero s x e = refl
  hit_same (suc n) s x e = rw (hit_same n s x e) (go (bit s n) refl)
    where
      go : (b : Bool) → bit s n ≡ b → (b && has' n x || hit has n s x) ≡ (b && has n x || hit has n s x)
      go true d = rw (others n (λ q. true≢false (sym d ∙ rw q e)))
      go false d = refl

  pub without_same : (n L : ℕ) → without i (covers has' n L) ≡ without i (covers has n L)
  unfolding without covers
  without_same n L = fun_ext (λ s. go s (bit s i) refl)
    where
      go : (s : ℕ) (b : Bool) → bit s i ≡ b → (all L (hit has' n s) && not b) ≡ (all L (hit has n s) && not b)
      go s true d = rw (and-false (all L (hit has' n s)), and-false (all L (hit has n s)))
      go s false d = ap (λ h. all L h && true) (fun_ext (λ x. hit_same n s x d))

  bidders_fewer : (n x : ℕ) → bidders has' n x ≤ bidders has n x
  unfolding bidders
  bidders_fewer zero x = omega arith
  bidders_fewer (suc n) x = go (has' n x) (has n x) (has_fewer n x) (bidders_fewer n x)
    where
      go : (a b : Bool) → (a ≡ true → b ≡ true) → bidders has' n x ≤ bidders has n x
          → when a 1 + bidders has' n x ≤ when b 1 + bidders has n x
      go true b f l = rw (f refl) (omega arith)
      go false true f l = omega arith
      go false false f l = omega arith

  -- where each cell had two bidders with fewer cells, it has them with all
  pub none_thin : (n L : ℕ) → cell_with has' n L 0 ≡ nothing → cell_with has' n L 1 ≡ nothing
      → (cell_with has n L 0 ≡ nothing) × (cell_with has n L 1 ≡ nothing)
  none_thin n L e f = (
    cell_none has n L 0 (λ x l q. omega (arith, bidders_fewer n x, two_at has' n L e f x l)),
    cell_none has n L 1 (λ x l q. omega (arith, bidders_fewer n x, two_at has' n L e f x l)),
  )
