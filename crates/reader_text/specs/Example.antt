-- Texts read by the definition. Assumes nothing.
use Rattle.std.specs.Prelude.{◌≡◌, refl, ℕ, zero, suc, List, [], ◌∷◌, ◌++◌, replicate, Some}
use Prim.Native.String.{String}
use Rattle.tender.specs.declared.Kind.TheVariants.{Single, Multi}
use Rattle.tender.specs.declared.Window.{Window}
use Rattle.tender.specs.declared.Tender.{Tender}
use Rattle.tender.specs.declared.Refusal.TheVariants.{TextTooLong, BadForm, OutsideLimits, TooMany, EmptyWindow, BidderRepeated}
use Rattle.tender.specs.declared.Refusal.TheVariants.{SeveralWindows, LateWindow, ReserveMisplaced}
use Rattle.tender.specs.Keywords.{bytes}
use Rattle.tender.specs.Plain.{plain_tender}
use Rattle.tender.specs.Tables.{Row}
use Rattle.reader_text.specs.Read.{ReadOutcome, accepted, refused, read_text}

-- what reading answers, flat: the tender; bidder, price, first, count of each row; start and end of each window

win : ℕ → ℕ → Window
win s e = record { start = s; end = e }

row : ℕ → ℕ → ℕ → ℕ → Row
row n p f c = record { bidder = n; price = p; first = f; count = c }

-- a single tender from 0 to 100 with a reserve
reserved : ℕ → Tender
reserved p = record { kind = Single; window = record { start = 0; end = 100 }; reserve = Some p }

-- so many windows of one minute
minutes : ℕ → List ℕ
unfolding bytes
minutes zero = []
minutes (suc n) = bytes " (0 1)" ++ minutes n

read : String → ReadOutcome
unfolding bytes read_text
read s = read_text (bytes s)

no_bids : read "(tender single 0 100)\n" ≡ accepted (plain_tender Single 0 100) ([]) ([])
unfolding read row win
no_bids = refl

at_the_limits : read "(tender single 0 10080)\n(bid 999999 100000000 (10079 10080))\n(bid 1 0 (0 1))\n"
    ≡ accepted (plain_tender Single 0 10080) (row 999999 100000000 0 1 ∷ row 1 0 1 1 ∷ [])
    (win 10079 10080 ∷ win 0 1 ∷ [])
unfolding read row win
at_the_limits = refl

empty_text : read "" ≡ refused (BadForm 1)
unfolding read
empty_text = refl

no_byte_10 : read "(tender single 0 100)" ≡ refused (BadForm 1)
unfolding read
no_byte_10 = refl

no_byte_10_last : read "(tender single 0 100)\n(bid 11 30 (0 50))" ≡ refused (BadForm 2)
unfolding read
no_byte_10_last = refl

bid_first : read "(bid 11 30 (0 50))\n" ≡ refused (BadForm 1)
unfolding read
bid_first = refl

tender_twice : read "(tender single 0 100)\n(tender single 0 100)\n" ≡ refused (BadForm 2)
unfolding read
tender_twice = refl

empty_line : read "(tender single 0 100)\n\n(bid 11 30 (0 50))\n" ≡ refused (BadForm 2)
unfolding read
empty_line = refl

empty_line_last : read "(tender single 0 100)\n(bid 11 30 (0 50))\n\n" ≡ refused (BadForm 3)
unfolding read
empty_line_last = refl

two_spaces : read "(tender single 0 100)\n(bid 11  30 (0 50))\n" ≡ refused (BadForm 2)
unfolding read
two_spaces = refl

no_space : read "(tender multi 0 10)\n(bid 21 12 (0 4)(6 8))\n" ≡ refused (BadForm 2)
unfolding read
no_space = refl

space_last : read "(tender single 0 100)\n(bid 11 30 (0 50)) \n" ≡ refused (BadForm 2)
unfolding read
space_last = refl

no_windows : read "(tender single 0 100)\n(bid 11 30)\n" ≡ refused (BadForm 2)
unfolding read
no_windows = refl

leading_zero_lem : read "(tender single 0 100)\n(bid 11 007 (0 50))\n" ≡ refused (BadForm 2)
unfolding read
leading_zero_lem = refl

ten_digits : read "(tender single 0 100)\n(bid 11 1000000000 (0 50))\n" ≡ refused (BadForm 2)
unfolding read
ten_digits = refl

other_byte : read "(tender single 0 100)\n(bid 11 2,50 (0 50))\n" ≡ refused (BadForm 2)
unfolding read
other_byte = refl

capital : read "(tender single 0 100)\n(Bid 11 30 (0 50))\n" ≡ refused (BadForm 2)
unfolding read
capital = refl

other_kind : read "(tender exact 0 100)\n" ≡ refused (BadForm 1)
unfolding read
other_kind = refl

form_before_limits : read "(tender single 0 100)\n(bid 0 30 (0 50)\n" ≡ refused (BadForm 2)
unfolding read
form_before_limits = refl

tender_window : read "(tender single 100 100)\n" ≡ refused (EmptyWindow 1)
unfolding read
tender_window = refl

tender_late : read "(tender single 0 10081)\n" ≡ refused (LateWindow 1)
unfolding read
tender_late = refl

-- near miss: the end is past the week, and the start is past the end
tender_late_empty : read "(tender single 10082 10081)\n" ≡ refused (EmptyWindow 1)
unfolding read
tender_late_empty = refl

window_33 : read_text (bytes "(tender multi 0 10)\n(bid 0 30" ++ minutes 33 ++ bytes ")\n") ≡ refused (TooMany 2)
unfolding read_text minutes
window_33 = refl

window_33_single : read_text (bytes "(tender single 0 100)\n(bid 11 30" ++ minutes 33 ++ bytes ")\n") ≡ refused (TooMany 2)
unfolding read_text minutes
window_33_single = refl

window_32_single : read_text (bytes "(tender single 0 100)\n(bid 11 30" ++ minutes 32 ++ bytes ")\n") ≡ refused (SeveralWindows 2)
unfolding read_text minutes
window_32_single = refl

bidder_0 : read "(tender single 0 100)\n(bid 0 30 (0 50) (5 5))\n" ≡ refused (OutsideLimits 2)
unfolding read
bidder_0 = refl

bidder_high : read "(tender single 0 100)\n(bid 1000000 30 (0 50))\n" ≡ refused (OutsideLimits 2)
unfolding read
bidder_high = refl

price_high : read "(tender single 0 100)\n(bid 11 100000001 (0 50))\n" ≡ refused (OutsideLimits 2)
unfolding read
price_high = refl

two_windows : read "(tender single 0 100)\n(bid 11 30 (0 50) (5 5))\n" ≡ refused (SeveralWindows 2)
unfolding read
two_windows = refl

empty_window : read "(tender single 0 100)\n(bid 11 30 (5 5))\n" ≡ refused (EmptyWindow 2)
unfolding read
empty_window = refl

late_window : read "(tender single 0 100)\n(bid 11 30 (0 10081))\n" ≡ refused (LateWindow 2)
unfolding read
late_window = refl

second_window : read "(tender multi 0 10)\n(bid 11 30 (0 5) (9 8))\n" ≡ refused (EmptyWindow 2)
unfolding read
second_window = refl

used_twice : read "(tender single 0 100)\n(bid 11 30 (0 50))\n(bid 12 30 (0 50))\n(bid 11 30 (0 50))\n" ≡ refused (BidderRepeated 4)
unfolding read
used_twice = refl

used_empty : read "(tender single 0 100)\n(bid 11 30 (0 50))\n(bid 11 30 (0 0))\n" ≡ refused (EmptyWindow 3)
unfolding read
used_empty = refl

used_late : read "(tender single 0 100)\n(bid 11 30 (0 50))\n(bid 11 30 (0 10081))\n" ≡ refused (LateWindow 3)
unfolding read
used_late = refl

two_late : read "(tender single 0 100)\n(bid 11 30 (0 10081) (0 10082))\n" ≡ refused (SeveralWindows 2)
unfolding read
two_late = refl

late_then_empty : read "(tender multi 0 10)\n(bid 11 30 (0 10081) (5 5))\n" ≡ refused (EmptyWindow 2)
unfolding read
late_then_empty = refl

empty_then_late : read "(tender multi 0 10)\n(bid 11 30 (5 5) (0 10081))\n" ≡ refused (EmptyWindow 2)
unfolding read
empty_then_late = refl

sound_then_late : read "(tender multi 0 10)\n(bid 11 30 (0 10080) (0 10081) (1 2))\n" ≡ refused (LateWindow 2)
unfolding read
sound_then_late = refl

late_and_empty : read "(tender multi 0 10)\n(bid 11 30 (10081 10081))\n" ≡ refused (EmptyWindow 2)
unfolding read
late_and_empty = refl

first_fault : read "(tender single 0 100)\n(bid 11 30 (0 0))\n(bid 11 30 (0 50)\n" ≡ refused (EmptyWindow 2)
unfolding read
first_fault = refl

reserve_read : read "(tender single 0 100)\n(reserve 5000)\n(bid 11 30 (0 50))\n"
    ≡ accepted (reserved 5000) (row 11 30 0 1 ∷ []) (win 0 50 ∷ [])
unfolding read reserved row win
reserve_read = refl

reserve_alone : read "(tender single 0 100)\n(reserve 0)\n"
    ≡ accepted (reserved 0) [] []
unfolding read reserved row win
reserve_alone = refl

reserve_most : read "(tender single 0 100)\n(reserve 100000000)\n"
    ≡ accepted (reserved 100000000) [] []
unfolding read reserved row win
reserve_most = refl

reserve_high : read "(tender single 0 100)\n(reserve 100000001)\n" ≡ refused (OutsideLimits 2)
unfolding read
reserve_high = refl

reserve_after_a_bid : read "(tender single 0 100)\n(bid 11 30 (0 50))\n(reserve 5000)\n" ≡ refused (ReserveMisplaced 3)
unfolding read
reserve_after_a_bid = refl

reserve_twice : read "(tender single 0 100)\n(reserve 5000)\n(reserve 5000)\n" ≡ refused (ReserveMisplaced 3)
unfolding read
reserve_twice = refl

-- near miss: the price is above the limit, and the line stands after a bid
reserve_late_and_high : read "(tender single 0 100)\n(bid 11 30 (0 50))\n(reserve 100000001)\n" ≡ refused (ReserveMisplaced 3)
unfolding read
reserve_late_and_high = refl

reserve_twice_and_high : read "(tender single 0 100)\n(reserve 5000)\n(reserve 100000001)\n" ≡ refused (ReserveMisplaced 3)
unfolding read
reserve_twice_and_high = refl

reserve_first : read "(reserve 5000)\n(tender single 0 100)\n" ≡ refused (BadForm 1)
unfolding read
reserve_first = refl

reserve_alone_first : read "(reserve 5000)\n" ≡ refused (BadForm 1)
unfolding read
reserve_alone_first = refl

reserve_leading_zero : read "(tender single 0 100)\n(reserve 007)\n" ≡ refused (BadForm 2)
unfolding read
reserve_leading_zero = refl

reserve_unpriced : read "(tender single 0 100)\n(reserve)\n" ≡ refused (BadForm 2)
unfolding read
reserve_unpriced = refl

reserve_space_last : read "(tender single 0 100)\n(reserve 5 )\n" ≡ refused (BadForm 2)
unfolding read
reserve_space_last = refl

reserve_two_prices : read "(tender single 0 100)\n(reserve 5 6)\n" ≡ refused (BadForm 2)
unfolding read
reserve_two_prices = refl

reserve_unended : read "(tender single 0 100)\n(reserve 5)" ≡ refused (BadForm 2)
unfolding read
reserve_unended = refl

reserve_late_and_unformed : read "(tender single 0 100)\n(bid 11 30 (0 50))\n(reserve 007)\n" ≡ refused (BadForm 3)
unfolding read
reserve_late_and_unformed = refl

used_after_reserve : read "(tender single 0 100)\n(reserve 5000)\n(bid 11 30 (0 50))\n(bid 11 40 (0 50))\n" ≡ refused (BidderRepeated 4)
unfolding read
used_after_reserve = refl

reserve_of_faulty_tender : read "(tender single 100 100)\n(reserve 100000001)\n" ≡ refused (EmptyWindow 1)
unfolding read
reserve_of_faulty_tender = refl

window_32 : read_text (bytes "(tender multi 0 10)\n(bid 11 30" ++ minutes 32 ++ bytes ")\n")
    ≡ accepted (plain_tender Multi 0 10) (row 11 30 0 32 ∷ []) (replicate 32 (win 0 1))
unfolding read_text minutes row win
window_32 = refl

too_long : read_text (replicate 65537 32) ≡ refused TextTooLong
unfolding read_text
too_long = refl

-- near miss: the length is lawful, and the form is not
long_enough : read_text (replicate 65536 10) ≡ refused (BadForm 1)
unfolding read_text
long_enough = refl
