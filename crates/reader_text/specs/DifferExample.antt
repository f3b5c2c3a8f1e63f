-- Two texts that differ only in how prices are spelt, and two that differ in one bid's price and windows; near misses of windows.
-- Assumes nothing.
use Rattle.std.specs.Prelude.{◌≡◌, refl, List, [], ◌∷◌, ℕ}
use Prim.Native.String.{String}
use Rattle.std.proofs.Common.{arith}
use Rattle.tender.specs.Keywords.{bytes}
use Rattle.tender.specs.declared.Window.{Window}
use Rattle.reader_parts.specs.Words.{cut, among, price_of}
use Rattle.reader_text.specs.Differ.{bid_line, Word, DifferInBid, windows_by}
use Rattle.reader_text.specs.DifferInSpelling.{reserve_line, SameLine, DifferInSpelling, same_bytes, bid_spelt, reserve_spelt}

word : (s : String) → among 32 (bytes s) ≡ among 32 [] → among 10 (bytes s) ≡ among 10 [] → Word (bytes s)
unfolding among
word s a b = record { no_space = a; no_end = b }

in_cents : List ℕ
unfolding bytes
in_cents = bytes "(tender single 0 100)\n(reserve 500)\n(bid 11 250 (0 50))\n"

with_points : List ℕ
unfolding bytes
with_points = bytes "(tender single 0 100)\n(reserve 5.00)\n(bid 11 2.50 (0 50))\n"

spelt_otherwise : DifferInSpelling in_cents with_points
unfolding in_cents with_points cut among bytes price_of bid_line reserve_line
spelt_otherwise = record {
  lines = (same_bytes refl, (reserve_line_lem, (bid_line_lem, (same_bytes refl, tt))));
  left_short = omega arith;
  right_short = omega arith;
}
  where
    reserve_line_lem : SameLine (reserve_line (bytes "500")) (reserve_line (bytes "5.00"))
    reserve_line_lem = reserve_spelt (bytes "500") (bytes "5.00") (word "500" refl refl) (word "5.00" refl refl) refl refl refl

    bid_line_lem : SameLine (bid_line (bytes "11") (bytes "250") (bytes "(0 50))")) (bid_line (bytes "11") (bytes "2.50") (bytes "(0 50))"))
    bid_line_lem = bid_spelt (bytes "11") (bytes "250") (bytes "2.50") (bytes "(0 50))") (word "11" refl refl) (word "250" refl refl)
        (word "2.50" refl refl) refl refl refl

all_offered : List ℕ
unfolding bytes
all_offered = bytes "(tender single 0 100)\n(bid 12 40 (40 100))\n(bid 13 90 (0 100))\n"

held_back : List ℕ
unfolding bytes
held_back = bytes "(tender single 0 100)\n(bid 12 60 (60 100))\n(bid 13 90 (0 100))\n"

one_bid_otherwise : DifferInBid all_offered held_back (bytes "12") (bytes "40") (bytes "60") (bytes "(40 100))") (bytes "(60 100))")
unfolding all_offered held_back among bytes bid_line
one_bid_otherwise = record {
  before = bytes "(tender single 0 100)";
  after = bytes "(bid 13 90 (0 100))\n";
  left = refl;
  right = refl;
  bidder_word = word "12" refl refl;
  p_word = word "40" refl refl;
  q_word = word "60" refl refl;
  ws_line = refl;
  vs_line = refl;
}

-- the windows that are written

written : String → List Window
unfolding bytes windows_by
written s = windows_by (bytes s)

two_windows : written "(0 4) (6 8))" ≡ record { start = 0; end = 4 } ∷ record { start = 6; end = 8 } ∷ []
unfolding written
two_windows = refl

line_not_closed : written "(0 4) (6 8)" ≡ []
unfolding written
line_not_closed = refl

two_spaces : written "(0 4)  (6 8))" ≡ []
unfolding written
two_spaces = refl

number_missing : written "(0 4) (6))" ≡ []
unfolding written
number_missing = refl

no_window : written ")" ≡ []
unfolding written
no_window = refl
