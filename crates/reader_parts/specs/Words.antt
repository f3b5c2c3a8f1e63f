-- The parts of a bid text: pieces between two bytes, words, numbers.
use Rattle.std.specs.Prelude.{ℕ, ◌+◌, ◌-◌, ◌*◌, List, [], ◌∷◌, Bool, true, false, cond, not, ◌&&◌, ◌||◌, length}
use Rattle.std.specs.Prelude.{eqb, leb}
use Rattle.std.proofs.Math.Option.{Option, none, some}
use Rattle.tender.specs.Limits.{within}

unfoldable pub and_then : {A B : Type 0} → Option A → (A → Option B) → Option B
and_then none f = none
and_then (some a) f = f a

-- one of the numbers is n
unfoldable pub among : ℕ → List ℕ → Bool
among n [] = false
among n (m ∷ ms) = eqb m n || among n ms

unfoldable pub grow_first : ℕ → List (List ℕ) → List (List ℕ)
grow_first b [] = (b ∷ []) ∷ []
grow_first b (p ∷ ps) = (b ∷ p) ∷ ps

-- the pieces of s before, between and after its bytes d
unfoldable pub cut : ℕ → List ℕ → List (List ℕ)
unfolding grow_first
cut d [] = [] ∷ []
cut d (b ∷ s) = let ps = cut d s in let new = [] ∷ ps in let more = grow_first b ps in cond (eqb b d) new more

-- the two words have the same bytes
unfoldable pub equal_bytes : List ℕ → List ℕ → Bool
equal_bytes [] [] = true
equal_bytes [] (b ∷ t) = false
equal_bytes (a ∷ s) [] = false
equal_bytes (a ∷ s) (b ∷ t) = let more = equal_bytes s t in cond (eqb a b) more false

-- what stands after an opening bracket
unfoldable pub opened : List ℕ → Option (List ℕ)
opened [] = none
opened (b ∷ w) = cond (eqb b 40) (some w) none

-- what stands before a closing bracket
unfoldable pub closed : List ℕ → Option (List ℕ)
unfolding and_then
closed [] = none
closed (b ∷ []) = cond (eqb b 41) (some []) none
closed (b ∷ c ∷ w) = and_then (closed (c ∷ w)) (λ r. some (b ∷ r))

-- the digits w, after digits of value v
unfoldable pub digits : ℕ → List ℕ → Option ℕ
unfolding within
digits v [] = some v
digits v (b ∷ w) = let more = digits (v * 10 + (b - 48)) w in cond (within 48 57 b) more none

unfoldable pub leading_zero : List ℕ → Bool
leading_zero [] = false
leading_zero (b ∷ []) = false
leading_zero (b ∷ c ∷ w) = eqb b 48

-- a number has 1 to 9 digits and no leading zero, except 0 itself
unfoldable pub numeral_of : List ℕ → Option ℕ
unfolding within leading_zero digits
numeral_of w = cond (within 1 9 (length w) && not (leading_zero w)) (digits 0 w) none

-- a number of cents; or one to seven digits, a point and two digits
unfoldable pub price_in : List (List ℕ) → Option ℕ
unfolding and_then digits numeral_of
price_in [] = none
price_in (a ∷ []) = numeral_of a
price_in (a ∷ b ∷ []) = cond (leb (length a) 7 && eqb (length b) 2)
    (and_then (numeral_of a) (λ x. and_then (digits 0 b) (λ y. some (x * 100 + y)))) none
price_in (a ∷ b ∷ c ∷ ps) = none

-- a price in cents, by what stands before and after its point
unfoldable pub price_of : List ℕ → Option ℕ
unfolding cut price_in
price_of w = price_in (cut 46 w)
