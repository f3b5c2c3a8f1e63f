-- One more than the highest price at which bid k is taken before bid i, in the three cases of the code: on a tie the bid entered earlier
-- is taken. Assumes nothing.
use Rattle.std.specs.Prelude.{◌≡◌, ℕ, ◌+◌, ◌-◌, ◌*◌, ◌/◌, ◌≤◌, ◌<◌}
use Rattle.std.proofs.Math.Nat.{div-le_self}
use Rattle.std.proofs.Common.{mul-le-mul}
use native.Mathlib.Omega.{arith}
use borrow.Author.Tests.{lt-ltb, le-leb}
use Rattle.cover.proofs.PickLaws.{late_no, late_yes}
use Rattle.multi_limit.specs.Follow.{raised_to, Raised}

-- a price for each of at most 10,112 cells
pub product_small : (q m : ℕ) → q ≤ 100000000 → m ≤ 10112 → q * m ≤ 1011200000000
product_small q m h l = mul-le-mul h l

module _ (k i q c m : ℕ) (x : ℕ) (e : x ≡ q * m) (p : 0 < m) (fits : x ≤ 1011200000000) where
  pub raise_zero : i < k → x ≡ 0 → Raised k i q c m 0
  unfolding raised_to
  raise_zero l z = record { is = rw (lt-ltb 0 m p, late_yes k i l, ← e, z); small = omega arith }

  pub raise_late : i < k → (x ≡ 0 → ⊥) → Raised k i q c m ((x - 1) / c + 1)
  unfolding raised_to
  raise_late l z = record {
    is = rw (lt-ltb 0 m p, late_yes k i l, ← e, le-leb 1 x (omega arith)) (omega arith);
    small = omega (arith, div-le_self (x - 1) c);
  }

  pub raise_early : k ≤ i → Raised k i q c m (x / c + 1)
  unfolding raised_to
  raise_early l = record {
    is = let z : x - 0 ≡ x = omega arith in
        rw (lt-ltb 0 m p, late_no k i l, ← e, le-leb 0 x (omega arith), z) (omega arith);
    small = omega (arith, div-le_self x c);
  }
