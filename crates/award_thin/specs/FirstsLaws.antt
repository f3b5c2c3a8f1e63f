-- The first cell with fewer than m bidders, m one and two, decides whether each cell has two. Assumes nothing.
use Rattle.std.specs.Prelude.{◌≡◌, refl, Bool, true, false, ℕ, ◌+◌, ◌≤◌, ◌<◌, ltb}
use Rattle.std.proofs.Common.{ap, ◌∙◌, arith}
use borrow.Author.Tests.{ltb-true, ltb-false}
use Rattle.cover.specs.Sets.{nothing, found, bidders}
use Rattle.cover.specs.Earliest.{cell_with}
use Rattle.cover.proofs.EarliestLaws.{cell_is, cell_none}
use Rattle.award_thin.specs.Thin.{fewer, FirstOf}

pub one_more_before : (P : ℕ → Bool) (r : ℕ) → ((x : ℕ) → x < r → P x ≡ false) → P r ≡ false → (x : ℕ)
    → x < r + 1 → P x ≡ false
one_more_before P r f e x l = go (ltb x r) refl
  where
    go : (b : Bool) → ltb x r ≡ b → P x ≡ false
    go true t = f x (ltb-true x r t)
    go false t = let d : x ≡ r = omega (arith, ltb-false x r t) in ap P d ∙ e

module _ (has : ℕ → ℕ → Bool) (n L : ℕ) where
  -- no cell has as few as k bidders
  none_with : (m r k : ℕ) → FirstOf (fewer has n m) L r → L ≤ r → k < m → cell_with has n L k ≡ nothing
  unfolding fewer
  none_with m r k f l h = cell_none has n L k (λ x q e. omega (arith, ltb-false (bidders has n x) m (f.before x (omega arith))))

  pub enough : (r : ℕ) → FirstOf (fewer has n 2) L r → L ≤ r → (cell_with has n L 0 ≡ nothing)
      × (cell_with has n L 1 ≡ nothing)
  enough r f l = (none_with 2 r 0 f l (omega arith), none_with 2 r 1 f l (omega arith))

  pub bare : (r : ℕ) → FirstOf (fewer has n 1) L r → r < L → cell_with has n L 0 ≡ found r
  unfolding fewer
  bare r f l = cell_is has n L 0 r (record {
    inside = l;
    here = omega (arith, ltb-true (bidders has n r) 1 (f.here l));
    before = λ x q e. omega (arith, ltb-false (bidders has n x) 1 (f.before x q));
  })

  pub lone : (r s : ℕ) → FirstOf (fewer has n 2) L r → (r ≡ L → ⊥) → FirstOf (fewer has n 1) L s → L ≤ s
      → (cell_with has n L 0 ≡ nothing)
      × (cell_with has n L 1 ≡ found r)
  unfolding fewer
  lone r s f d g l = let h : r < L = omega (arith, f.inside) in (
    none_with 1 s 0 g l (omega arith),
    cell_is has n L 1 r (record {
      inside = h;
      here = omega (arith, ltb-true (bidders has n r) 2 (f.here h), ltb-false (bidders has n r) 1 (g.before r (omega arith)));
      before = λ x q e. omega (arith, ltb-false (bidders has n x) 2 (f.before x q));
    }),
  )
