-- A price is a number of cents, or a number of at most seven digits, a point and two digits; what each form gives. Callers go by the
-- two forms and not by the pieces that the definition cuts. Assumes nothing.
use Rattle.std.specs.Prelude.{ℕ, ◌+◌, ◌-◌, ◌*◌, ◌≤◌, ◌≡◌, refl, List, [], ◌∷◌, ◌++◌, true, ◌&&◌}
use Rattle.std.specs.Prelude.{length, eqb, leb}
use Rattle.std.proofs.Common.{sym, ap, ◌∙◌, arith, leb-true, eqb-true, le-leb, eq-eqb}
use Rattle.std.proofs.Math.Option.{some}
use Rattle.tender.specs.Limits.{within}
use Rattle.reader_parts.specs.Words.{and_then, cut, digits, numeral_of, price_in, price_of}
use Rattle.reader_parts.proofs.GivenLaws.{both_true, then_some, cond_some}
use Rattle.reader_parts.proofs.RejoinedLaws.{rejoined, rejoined_cut, cut_rejoined}
use Rattle.reader_parts.proofs.NumberFrontLaws.{digits_without, number_without}

-- before the point x, after it y
pub record Pointed (w : List ℕ) (v : ℕ) : Type 0 where
  pub whole : List ℕ
  pub cents : List ℕ
  pub x : ℕ
  pub y : ℕ
  pub are : w ≡ whole ++ 46 ∷ cents
  pub few : length whole ≤ 7
  pub two : length cents ≡ 2
  pub whole_is : numeral_of whole ≡ some x
  pub cents_are : digits 0 cents ≡ some y
  pub value : v ≡ x * 100 + y

pub data PriceForm (w : List ℕ) (v : ℕ) : Type 0 where
  plainly : numeral_of w ≡ some v → PriceForm w v
  pointed : Pointed w v → PriceForm w v

-- a price has one of them
pub price_form : (w : List ℕ) (v : ℕ) → price_of w ≡ some v → PriceForm w v
unfolding price_of price_in rejoined
price_form w v e = go (cut 46 w) (rejoined_cut 46 w) e
  where
    go : (ps : List (List ℕ)) → rejoined 46 ps ≡ w → price_in ps ≡ some v → PriceForm w v
    go [] r q = let z : ◌≡◌ {A = ℕ} 0 1 = cc in absurd (omega arith)
    go (a ∷ []) r q = plainly (ap numeral_of (sym r) ∙ q)
    go (a ∷ b ∷ []) r q =
        let c = cond_some (leb (length a) 7 && eqb (length b) 2) _ v q in
        let t = both_true (leb (length a) 7) (eqb (length b) 2) c.0 in
        let i = then_some (numeral_of a) _ v c.1 in
        let j = then_some (digits 0 b) _ v i.2 in
        let u : i.0 * 100 + j.0 ≡ v = cc j.2 in
        pointed (record {
          whole = a;
          cents = b;
          x = i.0;
          y = j.0;
          are = sym r;
          few = leb-true (length a) 7 t.0;
          two = eqb-true (length b) 2 t.1;
          whole_is = i.1;
          cents_are = j.1;
          value = sym u;
        })
    go (a ∷ b ∷ c ∷ ps) r q = let z : ◌≡◌ {A = ℕ} 0 1 = cc in absurd (omega arith)

-- and each of them is a price

pub price_plainly : (w : List ℕ) (v : ℕ) → numeral_of w ≡ some v → price_of w ≡ some v
unfolding price_of price_in rejoined
price_plainly w v e = ap price_in (cut_rejoined 46 w [] (number_without 46 w v (omega arith) e, tt)) ∙ e

pub price_pointed : (w : List ℕ) (v : ℕ) → Pointed w v → price_of w ≡ some v
unfolding price_of price_in rejoined and_then
price_pointed w v p =
    let c = cut_rejoined 46 p.whole (p.cents ∷ []) (
      number_without 46 p.whole p.x (omega arith) p.whole_is,
      (digits_without 46 0 p.cents p.y (omega arith) p.cents_are, tt),
    ) in
    ap (λ l. price_in (cut 46 l)) p.are ∙ ap price_in c
    ∙ rw (le-leb (length p.whole) 7 p.few, eq-eqb (length p.cents) 2 p.two, p.whole_is, p.cents_are)
    (ap some (sym p.value))

-- two digits after the point

pub record Cents (cs : List ℕ) (y : ℕ) : Type 0 where
  pub tens : ℕ
  pub ones : ℕ
  pub are : cs ≡ tens ∷ ones ∷ []
  pub tens_digit : within 48 57 tens ≡ true
  pub ones_digit : within 48 57 ones ≡ true
  pub value : y ≡ (tens - 48) * 10 + (ones - 48)

pub two_cents : (cs : List ℕ) (y : ℕ) → length cs ≡ 2 → digits 0 cs ≡ some y → Cents cs y
unfolding digits
two_cents [] y n e = absurd (omega arith)
two_cents (a ∷ []) y n e = absurd (omega arith)
two_cents (a ∷ b ∷ []) y n e =
    let c = cond_some (within 48 57 a) (digits (0 * 10 + (a - 48)) (b ∷ [])) y e in
    let d = cond_some (within 48 57 b) (digits ((0 * 10 + (a - 48)) * 10 + (b - 48)) []) y c.1 in
    let q : (0 * 10 + (a - 48)) * 10 + (b - 48) ≡ y = cc d.1 in
    record { tens = a; ones = b; are = refl; tens_digit = c.0; ones_digit = d.0; value = omega arith }
two_cents (a ∷ b ∷ c ∷ cs) y n e = absurd (omega arith)

pub cents_two : (a b : ℕ) → within 48 57 a ≡ true → within 48 57 b ≡ true
    → digits 0 (a ∷ b ∷ []) ≡ some ((a - 48) * 10 + (b - 48))
unfolding digits
cents_two a b h k =
    let o : (0 * 10 + (a - 48)) * 10 + (b - 48) ≡ (a - 48) * 10 + (b - 48) = omega arith in
    rw (h, k) (ap (λ n. some n) o)
