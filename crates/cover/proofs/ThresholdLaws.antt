-- The prices with which a bid wins in a mechanism with a threshold. Assumes nothing.
use Rattle.std.proofs.Math.Path.{◌≡◌, refl, sym, ap}
use Rattle.std.proofs.Common.{◌∙◌, true≢false}
use Rattle.std.specs.Prelude.{Bool}
use Rattle.std.proofs.Math.Bool.{true, false}
use Rattle.std.proofs.lemmas.Bool.{false≢true}
use Prim.Native.Nat.{ℕ, ◌+◌}
use native.Mathlib.Omega.{arith}
use Rattle.std.proofs.Math.Dec.{ltb}
use borrow.Author.Tests.{lt-ltb, le-ltb, ltb-true, ltb-false}
use Rattle.cover.specs.Sets.{when}
use Rattle.cover.specs.Threshold.{Threshold}
use Rattle.cover.specs.Winning.{Below}

-- the prices that win in a mechanism with a threshold
pub prices_that_win : (won : ℕ → Bool) (θ : ℕ) → Threshold won θ → Below won (θ + when (won θ) 1)
prices_that_win won θ t q = go (won q) (won θ) refl refl
  where
    at : (a : Bool) → won q ≡ a → q ≡ θ → won θ ≡ a
    at a e f = ap won (sym f) ∙ e

    go : (a b : Bool) → won q ≡ a → won θ ≡ b → a ≡ ltb q (θ + when b 1)
    go true true e f = sym (lt-ltb q (θ + 1) (omega (arith, t.below q e)))
    go true false e f = side (ltb q (θ + 0)) refl
      where
        side : (c : Bool) → ltb q (θ + 0) ≡ c → true ≡ ltb q (θ + 0)
        side true d = sym d
        side false d = absurd (true≢false (sym (at true e (omega (arith, t.below q e, ltb-false q (θ + 0) d))) ∙ f))
    go false true e f = side (ltb q (θ + 1)) refl
      where
        side : (c : Bool) → ltb q (θ + 1) ≡ c → false ≡ ltb q (θ + 1)
        side false d = sym d
        side true d = absurd (false≢true (sym (at false e (omega (arith, t.above q e, ltb-true q (θ + 1) d))) ∙ f))
    go false false e f = sym (le-ltb q (θ + 0) (omega (arith, t.above q e)))
