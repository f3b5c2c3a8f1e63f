-- The lists of three awards to one bid beside a reserve, by the definition: both win, the house alone, the bid alone. Assumes nothing.
use Rattle.std.specs.Prelude.{◌≡◌, refl, Bool, true, false, List, [], ◌∷◌, ℕ, Some}
use Rattle.tender.specs.declared.Kind.TheVariants.{Multi}
use Rattle.tender.specs.declared.Tender.{Tender}
use Rattle.tender.specs.Keywords.{bytes}
use Rattle.tender.specs.Tables.{Row}
use Rattle.award_rule.specs.Award.{awarded}
use Rattle.listing_text.specs.List.{list_lines}

multi : Tender
multi = record { kind = Multi; window = record { start = 0; end = 10 }; reserve = Some 100 }

-- the list where the bid's flag is so, it is paid so many cents, and the totals are these
shown : Bool → ℕ → ℕ → Bool → List ℕ
unfolding list_lines multi
shown won cents cost house = list_lines multi (record { bidder = 1; price = 10; first = 0; count = 1 } ∷ [])
    (awarded (record { won = won; cents = cents } ∷ []) (record { cost = cost; paid = cents; house = house }))

both : shown true 50 110 true ≡ bytes "(award multi 0 10)\n(win 1 50)\n(house 100)\n(total 110 50)\n"
unfolding shown bytes
both = refl

house_alone : shown false 0 100 true ≡ bytes "(award multi 0 10)\n(house 100)\n(total 100 0)\n"
unfolding shown bytes
house_alone = refl

bid_alone : shown true 20 20 false ≡ bytes "(award multi 0 10)\n(win 1 20)\n(total 20 20)\n"
unfolding shown bytes
bid_alone = refl
