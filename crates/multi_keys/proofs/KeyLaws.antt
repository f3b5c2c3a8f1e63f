-- Laws of keys: how large they are, whose they are, and that more parts of a price are a higher price for each cell. Assumes nothing.
use Rattle.std.specs.Prelude.{◌≡◌, refl, ℕ, zero, suc, ◌+◌, ◌*◌, ◌/◌, ◌%◌, ◌≤◌, ◌<◌}
use Rattle.std.proofs.Common.{add-mul, div-le_self, div-mul-le_self, le-div_iff_mul-le, le_of_mul-le-mul_right, mul-le-mul, mul-le-mul_left}
use Rattle.std.proofs.Common.{mul-le-mul_right, mul_right_comm, arith}
use Rattle.std.proofs.Math.Dec.{eqb-suc-zero}
use Rattle.multi_keys.specs.Keys.{out, last, key_of}

-- 2²⁷, which is more than the product of any two numbers of cells
abbrev pub scale : ℕ
scale = 134217728

-- the price for each cell in parts
abbrev pub parts : ℕ → ℕ → ℕ
parts p r = p * scale / r

pub key_none : (p i : ℕ) → key_of p 0 i ≡ out
unfolding key_of
key_none p i = refl

pub key_some : (p r i : ℕ) → 0 < r → key_of p r i ≡ p * 134217728 / r * 1024 + i
unfolding key_of
key_some p zero i l = absurd (omega arith)
key_some p (suc r) i l = rw (eqb-suc-zero r)

pub key_low : (p r i : ℕ) → p ≤ 100000000 → 0 < r → i < 1024 → key_of p r i < last
key_low p r i h l m = rw (key_some p r i l) (omega (arith, div-le_self (p * scale) r))

pub key_most : (p r i : ℕ) → p ≤ 100000000 → i < 1024 → key_of p r i ≤ out
key_most p zero i h m = rw (key_none p i) (omega arith)
key_most p (suc r) i h m = omega (arith, key_low p (suc r) i h (omega arith) m)

pub key_bid : (p r i : ℕ) → 0 < r → i < 1024 → key_of p r i % 1024 ≡ i
key_bid p r i l m = rw (key_some p r i l) (omega arith)

-- a fraction that is not above another has not more parts
pub parts_le : (p r q s : ℕ) → 0 < r → 0 < s → p * s ≤ q * r → parts p r ≤ parts q s
parts_le p r q s l m h = (le-div_iff_mul-le m).1 (le_of_mul-le-mul_right (omega (
  arith,
  mul-le-mul_right s (div-mul-le_self (p * scale) r),
  mul_right_comm (parts p r) r s,
  mul_right_comm p scale s,
  mul_right_comm q scale r,
)) l)

-- one that is below another has fewer: over 10,112 cells at most they differ by more than one part
pub parts_lt : (p r q s : ℕ) → 0 < r → 0 < s → r ≤ 10112 → s ≤ 10112 → p * s < q * r → parts p r < parts q s
parts_lt p r q s l m k n h =
    let e : (parts p r + 1) * s ≤ q * scale = le_of_mul-le-mul_right (omega (
      arith,
      mul-le-mul n k,
      mul-le-mul_right s (div-mul-le_self (p * scale) r),
      mul_right_comm (parts p r) r s,
      mul_right_comm p scale s,
      mul_right_comm q scale r,
      add-mul (parts p r) 1 s,
      add-mul (parts p r * s) s r,
    )) l in
    omega (arith, (le-div_iff_mul-le m).1 e)

pub key_rises : (p r s i : ℕ) → p ≤ 100000000 → i < 1024 → s ≤ r → key_of p r i ≤ key_of p s i
key_rises p r zero i h m l = rw (key_none p i) (key_most p r i h m)
key_rises p r (suc s) i h m l =
    let z : 0 < r = omega arith in
    rw (key_some p r i z, key_some p (suc s) i (omega arith))
    (omega (arith, parts_le p r p (suc s) z (omega arith) (mul-le-mul_left p l)))
