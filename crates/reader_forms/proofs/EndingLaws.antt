-- The end of a line at a place: a closing bracket and byte 10. Assumes nothing.
use Rattle.std.specs.Prelude.{◌≡◌, List, ℕ, ◌+◌, ◌<◌, length, drop, get_or}
use Rattle.std.proofs.Common.{◌∙◌}
use native.Mathlib.Omega.{arith}
use Rattle.reader_parts.specs.Front.{got, wrong}
use Rattle.reader_parts.proofs.PlaceLaws.{past_at, past_not}
use Rattle.reader_forms.specs.LineFront.{ending}

module _ {A : Type 0} (s : List ℕ) (i : ℕ) (h : i < length s) where
  pub ending_unclosed : (a : A) → (get_or s i 0 ≡ 41 → ⊥) → ending a (drop i s) ≡ wrong
  unfolding ending
  ending_unclosed a e = past_not 41 s i _ h e

  module _ (a : A) (d : get_or s i 0 ≡ 41) (k : i + 1 < length s) where
    pub ending_unended : (get_or s (i + 1) 0 ≡ 10 → ⊥) → ending a (drop i s) ≡ wrong
    unfolding ending
    ending_unended e = past_at 41 s i _ h d ∙ past_not 10 s (i + 1) _ k e

    pub ending_whole : get_or s (i + 1) 0 ≡ 10 → ending a (drop i s) ≡ got a (drop (i + 2) s)
    unfolding ending
    ending_whole e = let q : i + 1 + 1 ≡ i + 2 = omega arith in past_at 41 s i _ h d ∙ past_at 10 s (i + 1) _ k e ∙ rw q
