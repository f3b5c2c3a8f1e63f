-- The reserve's line after the tender's: within the limits, or not. Assumes nothing.
use Rattle.std.specs.Prelude.{Some, None}
use Rattle.std.proofs.Math.Path.{◌≡◌, refl}
use Rattle.std.proofs.Common.{inl, inr, arith}
use mathlib.Core.List.{[]}
use Rattle.std.proofs.Math.Option.{some}
use Prim.Native.Nat.{ℕ, ◌≤◌, ◌<◌}
use Rattle.reader_forms.specs.Line.{TenderLine, reserve}
use Rattle.reader_text.specs.Read.{tender_with}
use Rattle.theorems_calls.specs.OneReading.{after, LineFault, of_form, of_place}
use Rattle.theorems_calls.specs.OneReading.{of_count, of_limits, of_the_kind, of_minutes, of_week, of_bidder, page_order}
use Rattle.theorems_calls.specs.OneReading.{OnReserve}
use Rattle.theorems_calls.specs.OneReading.{FirstAmong, SoundReserve}

-- the reserve's line after the tender's: within the limits, or not

pub only_limits : (t : TenderLine) (p : ℕ) (f : LineFault) → OnReserve f (tender_with t None) [] p
    → (f ≡ of_limits) × (100000000 < p)
only_limits t p of_form h = absurd h
only_limits t p of_place (inl n) = absurd (n refl)
only_limits t p of_place (inr l) = absurd (omega arith)
only_limits t p of_count h = absurd h
only_limits t p of_limits h = (refl, h)
only_limits t p of_the_kind h = absurd h
only_limits t p of_minutes h = absurd h
only_limits t p of_week h = absurd h
only_limits t p of_bidder h = absurd h

pub sound_reserve : (t : TenderLine) (p : ℕ) → p ≤ 100000000 → SoundReserve t (Some p)
sound_reserve t p l f h = omega (arith, (only_limits t p f h).1)

pub high_reserve : (t : TenderLine) (p : ℕ) → 100000000 < p
    → FirstAmong page_order of_limits (after (tender_with t None) []) (some (reserve p))
high_reserve t p l = inr ((λ h. h), inr (placed, inr ((λ h. h), inl (refl, l))))
  where
    placed : OnReserve of_place (tender_with t None) [] p → ⊥
    placed (inl n) = n refl
    placed (inr m) = omega arith
