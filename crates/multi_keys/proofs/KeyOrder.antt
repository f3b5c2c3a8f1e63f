-- Keys compare as the bids do, by price for each cell and then by entry. Assumes nothing.
use Rattle.std.specs.Prelude.{◌≡◌, refl, Bool, true, false, ℕ, ◌+◌, ◌*◌, ◌≤◌, ◌<◌, ltb}
use Rattle.std.proofs.Common.{arith, ltb-true, ltb-false}
use Rattle.cover.specs.CriticalPrice.{late}
use Rattle.cover.proofs.PickLaws.{late_no, late_yes, late_most}
use Rattle.multi_keys.specs.Keys.{key_of}
use Rattle.multi_keys.proofs.KeyLaws.{parts, key_some, parts_le, parts_lt}

module _ (p r i q s j : ℕ) (h : i < 1024) (k : j < 1024) (l : 0 < r) (m : 0 < s) (u : r ≤ 10112) (w : s ≤ 10112) where
  pub key_before : key_of p r i ≤ key_of q s j → p * s + late i j ≤ q * r
  key_before f = go (ltb (p * s) (q * r)) refl (ltb (q * r) (p * s)) refl
    where
      g : parts p r * 1024 + i ≤ parts q s * 1024 + j
      g = rw (key_some p r i l, key_some q s j m) at f

      go : (t : Bool) → ltb (p * s) (q * r) ≡ t → (b : Bool) → ltb (q * r) (p * s) ≡ b → p * s + late i j ≤ q * r
      go true e b d = omega (arith, ltb-true (p * s) (q * r) e, late_most i j)
      go false e true d = absurd (omega (arith, g, parts_lt q s p r m l w u (ltb-true (q * r) (p * s) d)))
      go false e false d =
          let a : p * s ≤ q * r = ltb-false (q * r) (p * s) d in
          let b : q * r ≤ p * s = ltb-false (p * s) (q * r) e in
          omega (arith, late_no i j (omega (arith, g, parts_le q s p r m l b)))

  pub before_key : p * s + late i j ≤ q * r → key_of p r i ≤ key_of q s j
  before_key f = rw (key_some p r i l, key_some q s j m) (go (ltb j i) refl)
    where
      go : (t : Bool) → ltb j i ≡ t → parts p r * 1024 + i ≤ parts q s * 1024 + j
      go true e = let y = ltb-true j i e in
          omega (arith, parts_lt p r q s l m u w (omega (arith, late_yes i j y)))
      go false e = omega (arith, ltb-false j i e, parts_le p r q s l m (omega arith))
