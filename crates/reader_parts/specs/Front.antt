-- What is read from the front of bytes, byte by byte, with the bytes after it: numbers and windows. `NumberFrontLaws` and
-- `WindowFrontLaws` say that this is what the words there give.
use Rattle.std.specs.Prelude.{ℕ, ◌+◌, ◌-◌, ◌*◌, List, [], ◌∷◌, cond, ◌&&◌, eqb, ltb}
use Rattle.tender.specs.declared.Span.{Span}
use Rattle.tender.specs.declared.Window.{Window}
use Rattle.tender.specs.Limits.{within, as_window}

pub data Front (A : Type 0) : Type 0 where
  -- a value, and the bytes after what spells it
  got : A → List ℕ → Front A
  wrong : Front A

unfoldable pub onward : {A B : Type 0} → Front A → (A → List ℕ → Front B) → Front B
onward (got a s) f = f a s
onward wrong f = wrong

-- the byte d, and what is read after it
unfoldable pub past : {A : Type 0} → ℕ → List ℕ → (List ℕ → Front A) → Front A
past d [] f = wrong
past d (b ∷ s) f = cond (eqb b d) (f s) wrong

-- digits after others of value v, which have no leading zero, nine in all: nine of them make 100,000,000 at least
unfoldable pub digits_front : ℕ → List ℕ → Front ℕ
unfolding within
digits_front v [] = got v []
digits_front v (b ∷ s) =
    let more = digits_front (v * 10 + (b - 48)) s in cond (ltb v 100000000 && within 48 57 b) more (got v (b ∷ s))

-- a number of at most nine digits without a leading zero
unfoldable pub number_front : List ℕ → Front ℕ
unfolding within digits_front
number_front [] = wrong
number_front (b ∷ s) = cond (within 49 57 b) (digits_front (b - 48) s) (cond (eqb b 48) (got 0 s) wrong)

-- one of two, by whether the byte d stands next
unfoldable pub fork : {A : Type 0} → ℕ → List ℕ → Front A → Front A → Front A
fork d [] x y = y
fork d (b ∷ s) x y = cond (eqb b d) x y

-- one digit after a number of value v
unfoldable pub digit_front : ℕ → List ℕ → Front ℕ
unfolding within
digit_front v [] = wrong
digit_front v (b ∷ s) = cond (within 48 57 b) (got (v * 10 + (b - 48)) s) wrong

-- a point and two digits after a number x, which has seven digits at the most
unfoldable pub cents_front : ℕ → List ℕ → Front ℕ
unfolding onward past digit_front
cents_front x s = cond (ltb x 10000000) (past 46 s (λ r. onward (digit_front x r) (λ v t. digit_front v t))) wrong

-- a number of cents; or one of at most seven digits, a point and two digits
unfoldable pub price_front : List ℕ → Front ℕ
unfolding onward fork number_front cents_front
price_front s = onward (number_front s) (λ x r. fork 46 r (cents_front x r) (got x r))

-- "S E)"
unfoldable pub span_front : List ℕ → Front Span
unfolding onward past number_front
span_front s = onward (number_front s) (λ a r. past 32 r (λ t. onward (number_front t)
    (λ z u. past 41 u (λ v. got (record { start = a; end = z }) v))))

-- " (S E)"
unfoldable pub window_front : List ℕ → Front Window
unfolding onward past span_front
window_front s = past 32 s (λ r. past 40 r (λ t. onward (span_front t) (λ w u. got (as_window w) u)))
