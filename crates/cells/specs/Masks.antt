-- The table of masks: entry k has the bits of a word's first k cells, k from 0 to 64.
use Rattle.std.specs.Prelude.{Bool, true, ◌&&◌, List, [], ◌∷◌, ℕ, suc, ◌-◌, ◌^◌, eqb}

unfoldable pub masks : List ℕ
masks =
    0x0 ∷ 0x1 ∷ 0x3 ∷ 0x7 ∷ 0xf ∷ 0x1f ∷ 0x3f ∷ 0x7f ∷ 0xff ∷ 0x1ff ∷ 0x3ff ∷ 0x7ff ∷ 0xfff ∷ 0x1fff ∷
    0x3fff ∷ 0x7fff ∷ 0xffff ∷ 0x1ffff ∷ 0x3ffff ∷ 0x7ffff ∷ 0xfffff ∷ 0x1fffff ∷ 0x3fffff ∷ 0x7fffff ∷
    0xffffff ∷ 0x1ffffff ∷ 0x3ffffff ∷ 0x7ffffff ∷ 0xfffffff ∷ 0x1fffffff ∷ 0x3fffffff ∷ 0x7fffffff ∷
    0xffffffff ∷ 0x1ffffffff ∷ 0x3ffffffff ∷ 0x7ffffffff ∷ 0xfffffffff ∷ 0x1fffffffff ∷ 0x3fffffffff ∷
    0x7fffffffff ∷ 0xffffffffff ∷ 0x1ffffffffff ∷ 0x3ffffffffff ∷ 0x7ffffffffff ∷ 0xfffffffffff ∷ 0x1fffffffffff ∷
    0x3fffffffffff ∷ 0x7fffffffffff ∷ 0xffffffffffff ∷ 0x1ffffffffffff ∷ 0x3ffffffffffff ∷ 0x7ffffffffffff ∷
    0xfffffffffffff ∷ 0x1fffffffffffff ∷ 0x3fffffffffffff ∷ 0x7fffffffffffff ∷ 0xffffffffffffff ∷ 0x1ffffffffffffff ∷
    0x3ffffffffffffff ∷ 0x7ffffffffffffff ∷ 0xfffffffffffffff ∷ 0x1fffffffffffffff ∷ 0x3fffffffffffffff ∷
    0x7fffffffffffffff ∷ 0xffffffffffffffff ∷ []

-- the rule of the table as a test of all its entries: those from place k on are the numbers of k, k + 1, .. set bits
unfoldable pub masks_from : ℕ → List ℕ → Bool
masks_from k [] = true
masks_from k (m ∷ ms) = eqb m (2 ^ k - 1) && masks_from (suc k) ms
