-- A tender of two bids written by the definition: into room enough, into a byte less, and with a window that ends before it begins;
-- and a tender with a reserve. Assumes nothing.
use Rattle.std.specs.Prelude.{◌≡◌, refl, List, [], ◌∷◌, ℕ, Some}
use Rattle.tender.specs.declared.Kind.TheVariants.{Multi}
use Rattle.tender.specs.declared.Tender.{Tender}
use Rattle.tender.specs.declared.Refusal.TheVariants.{BadTables, NoRoom}
use Rattle.tender.specs.Keywords.{bytes}
use Rattle.tender.specs.Plain.{plain_tender}
use Rattle.writer_text.specs.Canonical.{spelt, unspelt, write_into}

multi : Tender
multi = plain_tender Multi 0 10

rows : List ℕ
rows = 21 ∷ 12 ∷ 0 ∷ 2 ∷ 24 ∷ 9 ∷ 2 ∷ 2 ∷ []

-- the first bid's windows touch, the second's do not
whole : write_into multi 2 rows (5 ∷ 9 ∷ 0 ∷ 5 ∷ 10079 ∷ 10080 ∷ 6 ∷ 8 ∷ []) 69
    ≡ spelt (bytes "(tender multi 0 10)\n(bid 21 12 (0 9))\n(bid 24 9 (6 8) (10079 10080))\n")
unfolding write_into multi rows bytes
whole = refl

-- 14: the text has a byte more than there is room
no_room : write_into multi 2 rows (5 ∷ 9 ∷ 0 ∷ 5 ∷ 10079 ∷ 10080 ∷ 6 ∷ 8 ∷ []) 68 ≡ unspelt NoRoom
unfolding write_into multi rows
no_room = refl

-- 9, for the second row, also where there is no room
bad_row : write_into multi 2 rows (5 ∷ 9 ∷ 0 ∷ 5 ∷ 10079 ∷ 10080 ∷ 8 ∷ 6 ∷ []) 0 ≡ unspelt (BadTables 2)
unfolding write_into multi rows
bad_row = refl

reserved : ℕ → Tender
reserved p = record { kind = Multi; window = record { start = 0; end = 10 }; reserve = Some p }

-- the reserve's line stands before the bids
with_reserve : write_into (reserved 5000) 1 (21 ∷ 12 ∷ 0 ∷ 1 ∷ []) (0 ∷ 4 ∷ []) 53
    ≡ spelt (bytes "(tender multi 0 10)\n(reserve 5000)\n(bid 21 12 (0 4))\n")
unfolding write_into reserved bytes
with_reserve = refl

-- 9, for the tender: its reserve is above the limit
reserve_high : write_into (reserved 100000001) 0 [] [] 0 ≡ unspelt (BadTables 0)
unfolding write_into reserved
reserve_high = refl
