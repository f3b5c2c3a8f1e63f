-- How many digits a number has, by its value. Assumes nothing.
use Rattle.std.specs.Prelude.{ℕ, suc, ◌+◌, ◌-◌, ◌*◌, ◌^◌, ◌≤◌, ◌<◌, ◌≡◌, refl, List, [], ◌∷◌, Bool}
use Rattle.std.specs.Prelude.{true, false, not, ◌&&◌, length, eqb, leb}
use Rattle.std.proofs.Math.Option.{some}
use Rattle.std.proofs.Common.{arith, pow-suc, lit<, leb-true, leb-false}
use Rattle.std.proofs.Math.Nat.{pow-le-pow_right}
use Rattle.std.proofs.lemmas.Bool.{eqb-false, not-true}
use Rattle.tender.specs.Limits.{within}
use Rattle.reader_parts.specs.Words.{digits, leading_zero, numeral_of}
use Rattle.reader_parts.proofs.GivenLaws.{both_true, cond_some}
use Rattle.reader_parts.proofs.DigitsLaws.{ten_more}
use Rattle.reader_parts.proofs.NumberFrontLaws.{within_both}

digits_most : (v k : ℕ) (w : List ℕ) (u : ℕ) → v < 10 ^ k → digits v w ≡ some u → u < 10 ^ (k + length w)
unfolding digits
digits_most v k [] u h e = let q : v ≡ u = cc in
    let n : k + length {A = ℕ} [] ≡ k = omega arith in
    rw n (omega (arith, q, h))
digits_most v k (b ∷ w) u h e =
    let c = cond_some (within 48 57 b) (digits (v * 10 + (b - 48)) w) u e in
    let i = within_both 48 57 b c.0 in
    let n : k + 1 + length w ≡ k + length (b ∷ w) = omega arith in
    rw (← n) (digits_most (v * 10 + (b - 48)) (k + 1) w u (ten_more v k (b - 48) h (omega arith)) c.1)

digits_least : (v k : ℕ) (w : List ℕ) (u : ℕ) → 10 ^ k ≤ v → digits v w ≡ some u → 10 ^ (k + length w) ≤ u
unfolding digits
digits_least v k [] u h e = let q : v ≡ u = cc in
    let n : k + length {A = ℕ} [] ≡ k = omega arith in
    rw n (omega (arith, q, h))
digits_least v k (b ∷ w) u h e =
    let c = cond_some (within 48 57 b) (digits (v * 10 + (b - 48)) w) u e in
    let n : suc k + length w ≡ k + length (b ∷ w) = omega arith in
    rw (← n) (digits_least (v * 10 + (b - 48)) (suc k) w u (rw pow-suc (omega arith)) c.1)

-- a number is below the power of ten of its digits
pub number_below : (w : List ℕ) (x : ℕ) → numeral_of w ≡ some x → x < 10 ^ length w
unfolding numeral_of
number_below w x e =
    let n : 0 + length w ≡ length w = omega arith in
    rw n at (digits_most 0 0 w x (omega arith) (cond_some (within 1 9 (length w) && not (leading_zero w)) (digits 0 w) x e).1)

pub number_most : (w : List ℕ) (x : ℕ) → numeral_of w ≡ some x → x < 1000000000
unfolding numeral_of
number_most w x e =
    let c = cond_some (within 1 9 (length w) && not (leading_zero w)) (digits 0 w) x e in
    let i = within_both 1 9 (length w) (both_true (within 1 9 (length w)) (not (leading_zero w)) c.0).0 in
    omega (arith, number_below w x e, pow-le-pow_right {n = 10} (lit< tt) i.1)

pub number_small : (w : List ℕ) (x : ℕ) → numeral_of w ≡ some x → length w ≤ 7 → x < 10000000
number_small w x e l = omega (arith, number_below w x e, pow-le-pow_right {n = 10} (lit< tt) l)

-- and one below 10,000,000 has seven of them at the most
pub number_few : (w : List ℕ) (x : ℕ) → numeral_of w ≡ some x → x < 10000000 → length w ≤ 7
unfolding numeral_of leading_zero digits
number_few [] x e l = omega arith
number_few (b ∷ []) x e l = omega arith
number_few (b ∷ c ∷ w) x e l =
    let a = cond_some (within 1 9 (length (b ∷ c ∷ w)) && not (eqb b 48)) (digits 0 (b ∷ c ∷ w)) x e in
    let t = both_true (within 1 9 (length (b ∷ c ∷ w))) (not (eqb b 48)) a.0 in
    let f = cond_some (within 48 57 b) (digits (0 * 10 + (b - 48)) (c ∷ w)) x a.1 in
    let k = within_both 48 57 b f.0 in
    let z = eqb-false b 48 (not-true (eqb b 48) t.1) in
    let n : 0 + length (c ∷ w) ≡ length (c ∷ w) = omega arith in
    go (rw n at (digits_least (0 * 10 + (b - 48)) 0 (c ∷ w) x (omega arith) f.1)) (leb 7 (length (c ∷ w))) refl
  where
    go : 10 ^ length (c ∷ w) ≤ x → (t : Bool) → leb 7 (length (c ∷ w)) ≡ t → length (b ∷ c ∷ w) ≤ 7
    go h true q = absurd (omega (arith, h, l, pow-le-pow_right {n = 10} (lit< tt) (leb-true 7 (length (c ∷ w)) q)))
    go h false q = omega (arith, leb-false 7 (length (c ∷ w)) q)
