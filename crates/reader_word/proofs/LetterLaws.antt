-- What is left of a keyword and its space, byte by byte. Assumes nothing.
use Rattle.std.specs.Prelude.{ℕ, ◌+◌, ◌≤◌, ◌<◌, ◌≡◌, List, [], ◌∷◌, ◌++◌}
use Rattle.std.specs.Prelude.{Bool, ◌&&◌, length, drop, get_or, eqb}
use Rattle.std.proofs.Math.Path.{refl}
use Rattle.std.proofs.Math.Bool.{true, false}
use Rattle.std.proofs.Common.{drop_of_length-le, eq-eqb, ne_eqb}
use Rattle.reader_parts.specs.Scan.{starts_with}
use Rattle.reader_parts.proofs.ScanLaws.{drop_next}

module _ (w s : List ℕ) (i j : ℕ) (k : j < length s) where
  pub letter_same : i < length w → get_or s j 0 ≡ get_or w i 0
      → starts_with (drop i w ++ 32 ∷ []) (drop j s) ≡ starts_with (drop (i + 1) w ++ 32 ∷ []) (drop (j + 1) s)
  unfolding starts_with
  letter_same h e = rw (drop_next w i h, drop_next s j k) (rw (eq-eqb (get_or s j 0) (get_or w i 0) e))

  pub letter_other : i < length w → (get_or s j 0 ≡ get_or w i 0 → ⊥) → starts_with (drop i w ++ 32 ∷ []) (drop j s) ≡ false
  unfolding starts_with
  letter_other h e = rw (drop_next w i h, drop_next s j k) (rw (ne_eqb (get_or s j 0) (get_or w i 0) e))

  pub space_next : length w ≤ i → starts_with (drop i w ++ 32 ∷ []) (drop j s) ≡ eqb (get_or s j 0) 32
  unfolding starts_with
  space_next h = rw (drop_of_length-le w h, drop_next s j k) (go (eqb (get_or s j 0) 32))
    where
      go : (t : Bool) → t && true ≡ t
      go true = refl
      go false = refl
