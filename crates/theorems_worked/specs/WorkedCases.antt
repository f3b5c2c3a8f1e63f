-- The starred tenders of paper 01: each text with its list.
use Rattle.std.specs.Prelude.{List, [], ◌∷◌, ◌++◌, ℕ}
use Prim.Native.String.{String}
use Rattle.tender.specs.Keywords.{bytes}

pub record Case : Type 0 where
  pub text : List ℕ
  pub list : List ℕ

-- the list of paper 01, with bidder 11 at the price p
unfoldable pub five_bids : String → String → Case
unfolding bytes
five_bids p list = record {
  text = bytes "(tender single 0 100)\n(bid 11 " ++ bytes p ++ bytes " (0 50))\n(bid 12 40 (40 100))\n"
      ++ bytes "(bid 13 90 (0 100))\n(bid 14 35 (0 60))\n(bid 15 50 (60 100))\n";
  list = bytes list;
}

-- the third tender, with bidder 21 at the price p
unfoldable pub four_bids : String → String → Case
unfolding bytes
four_bids p list = record {
  text = bytes "(tender multi 0 10)\n(bid 21 " ++ bytes p ++ bytes " (0 4) (6 8))\n(bid 22 15 (4 10))\n"
      ++ bytes "(bid 23 30 (0 10))\n(bid 24 9 (8 10) (4 5))\n";
  list = bytes list;
}

-- a tender of the kind, the words that follow it, and its list
unfoldable pub of_kind : String → String → String → Case
unfolding bytes
of_kind k rest list = record { text = bytes "(tender " ++ bytes k ++ bytes rest; list = bytes list }

unfoldable pub third : Case
unfolding four_bids
third = four_bids "12" "(award multi 0 10)\n(win 21 30)\n(win 22 30)\n(win 24 11)\n(total 36 71)\n"

unfoldable pub cases : List Case
unfolding five_bids four_bids of_kind third
cases =
    -- 1, 2
    five_bids "30" "(award single 0 100)\n(win 11 35)\n(win 12 55)\n(total 70 90)\n"
    ∷ five_bids "35" "(award single 0 100)\n(win 11 35)\n(win 12 50)\n(total 75 85)\n"
    ∷ five_bids "36" "(award single 0 100)\n(win 12 50)\n(win 14 36)\n(total 75 86)\n"
    -- 3, 4
    ∷ third
    ∷ four_bids "30" "(award multi 0 10)\n(win 21 30)\n(win 22 18)\n(total 45 48)\n"
    ∷ four_bids "31" "(award multi 0 10)\n(win 22 18)\n(win 23 30)\n(total 45 48)\n"
    -- 5, of either kind
    ∷ of_kind "single" " 0 1)\n" "(refused 11 0)\n"
    ∷ of_kind "multi" " 0 1)\n" "(refused 11 0)\n"
    -- 6
    ∷ of_kind "single" " 0 10)\n(bid 1 3 (0 5))\n(bid 2 4 (5 10))\n" "(refused 12 0)\n"
    ∷ of_kind "multi" " 0 10)\n(bid 1 3 (0 5))\n(bid 2 4 (5 10))\n" "(refused 12 0)\n"
    -- 7
    ∷ of_kind "single" " 0 2)\n(bid 1 3 (0 1))\n(bid 2 4 (1 2))\n(bid 3 3 (0 1))\n(bid 4 6 (1 2))\n"
    "(award single 0 2)\n(win 1 3)\n(win 2 6)\n(total 7 9)\n"
    -- 8
    ∷ of_kind "single" " 0 10)\n(bid 1 0 (0 10))\n(bid 2 0 (0 10))\n" "(award single 0 10)\n(win 1 0)\n(total 0 0)\n"
    ∷ of_kind "multi" " 0 10)\n(bid 1 0 (0 10))\n(bid 2 0 (0 10))\n" "(award multi 0 10)\n(win 1 0)\n(total 0 0)\n"
    ∷ []
