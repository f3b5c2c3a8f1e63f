-- Numbers in base ten (paper 01, "The bid text" and "One list in full").
use Rattle.std.specs.Prelude.{cond, List, [], ◌∷◌, ◌++◌, ℕ, zero, suc, ◌+◌, ◌/◌, ◌%◌, ltb}

-- the last digits of n, f of them at the most, before the digits already written
unfoldable pub digits_before : ℕ → ℕ → List ℕ → List ℕ
digits_before zero n done = done
digits_before (suc f) n done =
    let more = digits_before f (n / 10) ((48 + n % 10) ∷ done) in
    cond (ltb n 10) ((48 + n % 10) ∷ done) more

-- n in base ten; a number of 64 bits has at most 20 digits
unfoldable pub decimal : ℕ → List ℕ
unfolding digits_before
decimal n = digits_before 20 n []

-- n cents with a point, as "2.50"
unfoldable pub with_point : ℕ → List ℕ
unfolding decimal
with_point n = decimal (n / 100) ++ 46 ∷ (48 + n % 100 / 10) ∷ (48 + n % 10) ∷ []
