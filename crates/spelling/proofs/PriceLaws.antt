-- How a price may be written: in whole cents, or with a point; and that whole cents are no longer. Assumes nothing.
use Rattle.std.specs.Prelude.{◌≡◌, refl, ◌⊎◌, List, [], ◌∷◌, ◌++◌, ℕ, suc, ◌+◌, ◌-◌, ◌*◌, ◌/◌}
use Rattle.std.specs.Prelude.{◌%◌, ◌^◌, ◌≤◌, ◌<◌, length}
use Rattle.std.proofs.Common.{ap, ◌∙◌, inl, inr, pow-suc, arith, length-append}
use Rattle.std.proofs.Math.Option.{some}
use Rattle.reader_parts.specs.Words.{price_of}
use Rattle.reader_parts.proofs.DigitsLaws.{inside}
use Rattle.reader_parts.proofs.NumberFrontLaws.{within_both}
use Rattle.reader_parts.proofs.NumberSizeLaws.{number_below, number_most, number_small}
use Rattle.reader_parts.proofs.PriceFormLaws.{Pointed, PriceForm, plainly, pointed, price_form, price_plainly, price_pointed}
use Rattle.reader_parts.proofs.PriceFormLaws.{Cents, two_cents, cents_two}
use Rattle.spelling.specs.Decimal.{decimal, with_point}
use Rattle.spelling.proofs.DecimalLaws.{decimal_few, numeral_decimal, numeral_spelling}

pub price_decimal : (n : ℕ) → n < 1000000000 → price_of (decimal n) ≡ some n
price_decimal n l = price_plainly (decimal n) n (numeral_decimal n l)

price_with_point : (n : ℕ) → n < 1000000000 → price_of (with_point n) ≡ some n
unfolding with_point
price_with_point n l =
    let a = 48 + n % 100 / 10 in
    let b = 48 + n % 10 in
    let few : n / 100 < 10 ^ 7 = omega arith in
    price_pointed (with_point n) n (record {
      whole = decimal (n / 100);
      cents = a ∷ b ∷ [];
      x = n / 100;
      y = (a - 48) * 10 + (b - 48);
      are = refl;
      few = decimal_few 7 (n / 100) few (omega arith);
      two = refl;
      whole_is = numeral_decimal (n / 100) (omega arith);
      cents_are = cents_two a b (inside a (omega arith) (omega arith)) (inside b (omega arith) (omega arith));
      value = omega arith;
    })

pub written_price : (w : List ℕ) (n : ℕ) → (n < 1000000000) × ((w ≡ decimal n) ⊎ (w ≡ with_point n)) → price_of w ≡ some n
written_price w n (l, inl e) = ap price_of e ∙ price_decimal n l
written_price w n (l, inr e) = ap price_of e ∙ price_with_point n l

-- a price is written in one of the two ways

put_together : (w u cs v : List ℕ) (a b c d : ℕ) → w ≡ u ++ 46 ∷ cs → u ≡ v → cs ≡ a ∷ b ∷ [] → a ≡ c → b ≡ d
    → w ≡ v ++ 46 ∷ c ∷ d ∷ []
put_together w u cs v a b c d e f g h k = e ∙ rw (f, g, h, k)

pub price_written : (w : List ℕ) (n : ℕ) → price_of w ≡ some n → (n < 1000000000) × ((w ≡ decimal n) ⊎ (w ≡ with_point n))
unfolding with_point
price_written w n e = go (price_form w n e)
  where
    with_cents : (p : Pointed w n) → Cents p.cents p.y → (n < 1000000000) × ((w ≡ decimal n) ⊎ (w ≡ with_point n))
    with_cents p c =
        let i = within_both 48 57 c.tens c.tens_digit in
        let j = within_both 48 57 c.ones c.ones_digit in
        let v = p.value in
        let y = c.value in
        let whole : p.x ≡ n / 100 = omega (arith, v, y, i, j) in
        let tens : c.tens ≡ 48 + n % 100 / 10 = omega (arith, v, y, i, j) in
        let ones : c.ones ≡ 48 + n % 10 = omega (arith, v, y, i, j) in (
          omega (arith, number_small p.whole p.x p.whole_is p.few, v, y, i, j),
          inr (put_together w p.whole p.cents _ _ _ _ _ p.are
              (numeral_spelling p.whole p.x p.whole_is ∙ ap decimal whole) c.are tens ones),
        )

    go : PriceForm w n → (n < 1000000000) × ((w ≡ decimal n) ⊎ (w ≡ with_point n))
    go (plainly h) = (number_most w n h, inl (numeral_spelling w n h))
    go (pointed p) = with_cents p (two_cents p.cents p.y p.two p.cents_are)

-- in whole cents it is no longer
pub price_short : (w : List ℕ) (n : ℕ) → price_of w ≡ some n → length (decimal n) ≤ length w
price_short w n e = go (price_form w n e)
  where
    go : PriceForm w n → length (decimal n) ≤ length w
    go (plainly h) = omega (arith, ap length (numeral_spelling w n h))
    go (pointed p) =
        let k = length p.whole in
        let c = two_cents p.cents p.y p.two p.cents_are in
        let i = within_both 48 57 c.tens c.tens_digit in
        let j = within_both 48 57 c.ones c.ones_digit in
        let below : n < 10 ^ suc (suc k) = rw (pow-suc 10 (suc k), pow-suc 10 k)
        (omega (arith, number_below p.whole p.x p.whole_is, p.value, c.value, i, j)) in
        omega (
          arith,
          decimal_few (suc (suc k)) n below (omega arith),
          ap length p.are,
          length-append p.whole (46 ∷ p.cents),
          p.two,
        )
