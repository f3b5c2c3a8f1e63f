-- When a reserve's line is misplaced. Assumes nothing.
use Rattle.std.proofs.Math.Path.{◌≡◌, refl}
use Rattle.std.proofs.Common.{inl, inr, arith}
use Rattle.std.specs.Prelude.{◌⊎◌, Some, None}
use mathlib.Core.List.{List, [], ◌∷◌}
use Prim.Native.Nat.{ℕ, ◌<◌}
use Rattle.std.proofs.Math.ListN.{length}
use Rattle.tender.specs.Types.{Reserve}
use Rattle.reader_forms.specs.Line.{BidLine}

-- a reserve's line is misplaced where the tender has a reserve, or a bid stands before
pub misplaced : (r : Reserve) (done : List BidLine) → (r ≡ None → done ≡ [] → ⊥) → (r ≡ None → ⊥) ⊎ (0 < length done)
misplaced (Some p) done h = inl (λ e. let z : ◌≡◌ {A = ℕ} 0 1 = cc in omega arith)
misplaced None [] h = absurd (h refl refl)
misplaced None (b ∷ done) h = inr (omega arith)
