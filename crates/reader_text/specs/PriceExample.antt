-- Texts read by the definition: prices with a point, and near misses. Assumes nothing.
use Rattle.std.specs.Prelude.{◌≡◌, refl, ℕ, [], ◌∷◌, ◌++◌, Some}
use Prim.Native.String.{String}
use Rattle.tender.specs.declared.Kind.TheVariants.{Single}
use Rattle.tender.specs.declared.Refusal.TheVariants.{BadForm, OutsideLimits, ReserveMisplaced}
use Rattle.tender.specs.Keywords.{bytes}
use Rattle.tender.specs.Plain.{plain_tender}
use Rattle.reader_text.specs.Read.{ReadOutcome, accepted, refused, read_text}

read : String → ReadOutcome
unfolding bytes read_text
read s = read_text (bytes s)

-- what reading answers where the word is the price of a bid, and where it is the reserve of a text without bids
price : String → ReadOutcome × ReadOutcome
unfolding bytes read_text
price w = (
  read_text (bytes "(tender single 0 100)\n(bid 11 " ++ bytes w ++ bytes " (0 50))\n"),
  read_text (bytes "(tender single 0 100)\n(reserve " ++ bytes w ++ bytes ")\n"),
)

-- either is read as so many cents
cents : ℕ → ReadOutcome × ReadOutcome
cents p = (
  accepted (plain_tender Single 0 100) (record { bidder = 11; price = p; first = 0; count = 1 } ∷ [])
      (record { start = 0; end = 50 } ∷ []),
  accepted (record { kind = Single; window = record { start = 0; end = 100 }; reserve = Some p }) [] [],
)

-- either is above the limit
high : ReadOutcome × ReadOutcome
high = (refused (OutsideLimits 2), refused (OutsideLimits 2))

-- neither has the form
misspelt : ReadOutcome × ReadOutcome
misspelt = (refused (BadForm 2), refused (BadForm 2))

two_fifty : price "2.50" ≡ cents 250
unfolding price cents
two_fifty = refl

whole_cents : price "250" ≡ cents 250
unfolding price cents
whole_cents = refl

five_cents : price "0.05" ≡ cents 5
unfolding price cents
five_cents = refl

nothing : price "0.00" ≡ cents 0
unfolding price cents
nothing = refl

a_cent_short : price "999999.99" ≡ cents 99999999
unfolding price cents
a_cent_short = refl

at_the_limit : price "1000000.00" ≡ cents 100000000
unfolding price cents
at_the_limit = refl

a_cent_above : price "1000000.01" ≡ high
unfolding price high
a_cent_above = refl

seven_digits : price "9999999.99" ≡ high
unfolding price high
seven_digits = refl

no_digit_before : price ".50" ≡ misspelt
unfolding price misspelt
no_digit_before = refl

no_digit_after : price "2." ≡ misspelt
unfolding price misspelt
no_digit_after = refl

one_digit_after : price "2.5" ≡ misspelt
unfolding price misspelt
one_digit_after = refl

three_digits_after : price "2.500" ≡ misspelt
unfolding price misspelt
three_digits_after = refl

leading_zero_lem : price "02.50" ≡ misspelt
unfolding price misspelt
leading_zero_lem = refl

two_zeros : price "00.50" ≡ misspelt
unfolding price misspelt
two_zeros = refl

eight_digits : price "12345678.00" ≡ misspelt
unfolding price misspelt
eight_digits = refl

two_points : price "2.5.0" ≡ misspelt
unfolding price misspelt
two_points = refl

points_beside : price "2..50" ≡ misspelt
unfolding price misspelt
points_beside = refl

point_last : price "2.50." ≡ misspelt
unfolding price misspelt
point_last = refl

point_alone : price "." ≡ misspelt
unfolding price misspelt
point_alone = refl

comma : price "2,50" ≡ misspelt
unfolding price misspelt
comma = refl

letter_after : price "2.5x" ≡ misspelt
unfolding price misspelt
letter_after = refl

sign_before : price "-2.50" ≡ misspelt
unfolding price misspelt
sign_before = refl

-- a point in another number

bidder_with_point : read "(tender single 0 100)\n(bid 1.00 30 (0 50))\n" ≡ refused (BadForm 2)
unfolding read
bidder_with_point = refl

start_with_point : read "(tender single 0 100)\n(bid 11 30 (0.00 5))\n" ≡ refused (BadForm 2)
unfolding read
start_with_point = refl

end_with_point : read "(tender single 0 100)\n(bid 11 30 (0 5.00))\n" ≡ refused (BadForm 2)
unfolding read
end_with_point = refl

tender_start_with_point : read "(tender single 0.00 5)\n" ≡ refused (BadForm 1)
unfolding read
tender_start_with_point = refl

-- near misses: the reserve stands after a bid, and its price is above the limit, or has not the form

reserve_late_and_high : read "(tender single 0 100)\n(bid 11 2.50 (0 50))\n(reserve 1000000.01)\n" ≡ refused (ReserveMisplaced 3)
unfolding read
reserve_late_and_high = refl

reserve_late_and_unformed : read "(tender single 0 100)\n(bid 11 2.50 (0 50))\n(reserve 50.0)\n" ≡ refused (BadForm 3)
unfolding read
reserve_late_and_unformed = refl
