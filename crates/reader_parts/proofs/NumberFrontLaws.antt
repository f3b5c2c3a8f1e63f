-- A number read from the front of bytes is that of the word there: what a word gives is read where no digit follows (`..-read`), and
-- what is read comes from a word that gives it (`..-from`). Assumes nothing.
use Rattle.std.specs.Prelude.{ℕ, suc, ◌+◌, ◌-◌, ◌*◌, ◌^◌, ◌≤◌, ◌<◌, ◌≡◌, refl, List, [], ◌∷◌}
use Rattle.std.specs.Prelude.{◌++◌, Bool, true, false, cond, not, ◌&&◌, length, eqb, leb, ltb}
use Rattle.std.proofs.Common.{sym, ap, ◌∙◌, arith, pow-suc, lit<, ltb-true, leb-true, leb-false, eqb-true, lt-ltb, ne_eqb}
use Rattle.std.proofs.Math.Bool.{and-false}
use Rattle.std.proofs.Math.Option.{Option, some}
use Rattle.std.proofs.Math.Nat.{pow-le-pow_right}
use Rattle.std.proofs.lemmas.Bool.{eqb-false, not-true}
use Rattle.tender.specs.Limits.{within}
use Rattle.reader_parts.specs.Words.{among, digits, leading_zero, numeral_of}
use Rattle.reader_parts.specs.Front.{got, wrong, digits_front, number_front}
use Rattle.reader_parts.proofs.GivenLaws.{both_true, cond_some}
use Rattle.reader_parts.proofs.NumberFirstLaws.{number_first, number_zero_first}
use Rattle.reader_parts.proofs.DigitsLaws.{inside, digits_below, ten_more, ten_below, leading_other, number_digits}

-- the bytes s begin with a word that gives a, and r stands after it
pub record Led {A : Type 0} (of : List ℕ → Option A) (s : List ℕ) (a : A) (r : List ℕ) : Type 0 where
  pub word : List ℕ
  pub are : s ≡ word ++ r
  pub is : of word ≡ some a

pub within_both : (a z b : ℕ) → within a z b ≡ true → (a ≤ b) × (b ≤ z)
unfolding within
within_both a z b e = let t = both_true (leb a b) (leb b z) e in (leb-true a b t.0, leb-true b z t.1)

digits_more : (v b : ℕ) (w : List ℕ) → within 48 57 b ≡ true → digits v (b ∷ w) ≡ digits (v * 10 + (b - 48)) w
unfolding digits
digits_more v b w e = rw e

-- the digits of a number are no other bytes

pub digits_without : (d v : ℕ) (w : List ℕ) (u : ℕ) → d < 48 → digits v w ≡ some u → among d w ≡ false
unfolding digits among
digits_without d v [] u l e = refl
digits_without d v (b ∷ w) u l e =
    let c = cond_some (within 48 57 b) (digits (v * 10 + (b - 48)) w) u e in
    let k = within_both 48 57 b c.0 in
    rw (ne_eqb b d (λ q. omega arith)) (digits_without d (v * 10 + (b - 48)) w u l c.1)

pub number_without : (d : ℕ) (w : List ℕ) (v : ℕ) → d < 48 → numeral_of w ≡ some v → among d w ≡ false
unfolding numeral_of
number_without d w v l e =
    digits_without d 0 w v l (cond_some (within 1 9 (length w) && not (leading_zero w)) (digits 0 w) v e).1

-- the digits of a word, and a byte after them that is none

digits_read : (v k : ℕ) (w : List ℕ) (u d : ℕ) (r : List ℕ) → v < 10 ^ k → k + length w ≤ 9 → d < 48
    → digits v w ≡ some u → digits_front v (w ++ d ∷ r) ≡ got u (d ∷ r)
unfolding digits digits_front
digits_read v k [] u d r h n l e = let q : v ≡ u = cc in rw (digits_below d l, and-false (ltb v 100000000), q)
digits_read v k (b ∷ w) u d r h n l e =
    let c = cond_some (within 48 57 b) (digits (v * 10 + (b - 48)) w) u e in
    let i = within_both 48 57 b c.0 in
    rw (lt-ltb v 100000000 (ten_below v k h (omega arith)), c.0)
    (digits_read (v * 10 + (b - 48)) (k + 1) w u d r (ten_more v k (b - 48) h (omega arith)) (omega arith) l c.1)

record Digits (v k : ℕ) (s : List ℕ) (u : ℕ) (r : List ℕ) : Type 0 where
  word : List ℕ
  are : s ≡ word ++ r
  is : digits v word ≡ some u
  few : k + length word ≤ 8

few_digits : (v k : ℕ) → 10 ^ k ≤ v → v < 100000000 → k < 8
few_digits v k h l = go (leb 8 k) refl
  where
    go : (t : Bool) → leb 8 k ≡ t → k < 8
    go true e = omega (arith, pow-le-pow_right {n = 10} (lit< tt) (leb-true 8 k e))
    go false e = leb-false 8 k e

digits_from : (v k : ℕ) (s : List ℕ) (u : ℕ) (r : List ℕ) → 10 ^ k ≤ v → k ≤ 8
    → digits_front v s ≡ got u r → Digits v k s u r
unfolding digits digits_front
digits_from v k [] u r h l e = record { word = []; are = cc; is = cc; few = omega arith }
digits_from v k (b ∷ s) u r h l e =
    go (ltb v 100000000 && within 48 57 b) refl e (digits_from (v * 10 + (b - 48)) (suc k) s u r)
  where
    go : (t : Bool) → ltb v 100000000 && within 48 57 b ≡ t
        → cond t (digits_front (v * 10 + (b - 48)) s) (got v (b ∷ s)) ≡ got u r
        → (10 ^ suc k ≤ v * 10 + (b - 48) → suc k ≤ 8 → digits_front (v * 10 + (b - 48)) s ≡ got u r
        → Digits (v * 10 + (b - 48)) (suc k) s u r)
        → Digits v k (b ∷ s) u r
    go true q x ih =
        let t = both_true (ltb v 100000000) (within 48 57 b) q in
        let f = few_digits v k h (ltb-true v 100000000 t.0) in
        let d = ih (rw pow-suc (omega arith)) f x in
        record {
          word = b ∷ d.word;
          are = ap (λ l. b ∷ l) d.are;
          is = digits_more v b d.word t.1 ∙ d.is;
          few = omega (arith, d.few);
        }
    go false q x ih = record { word = []; are = cc; is = cc; few = omega arith }

-- a number

pub number_read : (w : List ℕ) (v d : ℕ) (r : List ℕ) → d < 48 → numeral_of w ≡ some v
    → number_front (w ++ d ∷ r) ≡ got v (d ∷ r)
unfolding numeral_of number_front within leading_zero digits
number_read [] v d r l e = let z : ◌≡◌ {A = ℕ} 0 1 = cc in absurd (omega arith)
number_read (b ∷ w) v d r l e =
    let c = cond_some (within 1 9 (length (b ∷ w)) && not (leading_zero (b ∷ w))) (digits 0 (b ∷ w)) v e in
    let t = both_true (within 1 9 (length (b ∷ w))) (not (leading_zero (b ∷ w))) c.0 in
    let i = within_both 1 9 (length (b ∷ w)) t.0 in
    let f = cond_some (within 48 57 b) (digits (0 * 10 + (b - 48)) w) v c.1 in
    let k = within_both 48 57 b f.0 in
    let o : 0 * 10 + (b - 48) ≡ b - 48 = omega arith in
    go w (eqb b 48) refl (not-true (leading_zero (b ∷ w)) t.1) i.1 k.0 k.1 (ap (λ n. digits n w) (sym o) ∙ f.1)
  where
    go : (x : List ℕ) (t : Bool) → eqb b 48 ≡ t → leading_zero (b ∷ x) ≡ false → suc (length x) ≤ 9 → 48 ≤ b
        → b ≤ 57
        → digits (b - 48) x ≡ some v → number_front (b ∷ (x ++ d ∷ r)) ≡ got v (d ∷ r)
    go x false q z n h k e = number_first b (x ++ d ∷ r) (omega (arith, eqb-false b 48 q)) k
        ∙ digits_read (b - 48) 1 x v d r (omega arith) (omega arith) l e
    go [] true q z n h k e =
        let p = eqb-true b 48 q in
        let u : b - 48 ≡ v = cc in
        let o : 0 ≡ v = omega arith in
        number_zero_first b (d ∷ r) p ∙ ap (λ n. got n (d ∷ r)) o
    go (a ∷ x) true q z n h k e = let y : true ≡ false = sym q ∙ z in let m : ◌≡◌ {A = ℕ} 0 1 = cc in absurd (omega arith)

pub number_from : (s : List ℕ) (v : ℕ) (r : List ℕ) → number_front s ≡ got v r → Led numeral_of s v r
unfolding number_front numeral_of within leading_zero digits
number_from [] v r e = let z : ◌≡◌ {A = ℕ} 0 1 = cc in absurd (omega arith)
number_from (b ∷ s) v r e = go (within 49 57 b) refl e
  where
    digit : 49 ≤ b → b ≤ 57 → digits_front (b - 48) s ≡ got v r → Led numeral_of (b ∷ s) v r
    digit h k x =
        let d = digits_from (b - 48) 0 s v r (omega arith) (omega arith) x in
        let w = b ∷ d.word in
        let o : 0 * 10 + (b - 48) ≡ b - 48 = omega arith in
        record {
          word = w;
          are = ap (λ l. b ∷ l) d.are;
          is = number_digits w (λ q. omega arith) (omega (arith, d.few)) (leading_other w (λ q. omega arith))
              ∙ digits_more 0 b d.word (inside b (omega arith) (omega arith)) ∙ ap (λ n. digits n d.word) o ∙ d.is;
        }

    zero_only : (t : Bool) → eqb b 48 ≡ t → cond t (got 0 s) wrong ≡ got v r → Led numeral_of (b ∷ s) v r
    zero_only true q x =
        let p = eqb-true b 48 q in
        let o : 0 ≡ v = cc in
        record { word = 48 ∷ []; are = cc; is = ap (λ n. some n) o }
    zero_only false q x = let z : ◌≡◌ {A = ℕ} 0 1 = cc in absurd (omega arith)

    go : (t : Bool) → within 49 57 b ≡ t → cond t (digits_front (b - 48) s) (cond (eqb b 48) (got 0 s) wrong) ≡ got v r
        → Led numeral_of (b ∷ s) v r
    go true q x = let k = within_both 49 57 b q in digit k.0 k.1 x
    go false q x = zero_only (eqb b 48) refl x
