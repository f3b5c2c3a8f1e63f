-- The faults of the tables lent to an award (paper 01, refusal 9).
use Rattle.std.specs.Prelude.{◌≡◌, List, [], ◌∷◌, ◌++◌, Bool, true, cond, not, ◌&&◌, ℕ, ◌+◌, ◌/◌, length, leb}
use Rattle.std.specs.Prelude.{eqb}
use Rattle.std.proofs.Math.Option.{Option, none, some}
use Rattle.tender.specs.declared.Kind.{Kind}
use Rattle.tender.specs.declared.Kind.TheVariants.{Single, Multi}
use Rattle.tender.specs.declared.Tender.{Tender}
use Rattle.tender.specs.Limits.{within, max_price, max_bidder, max_bids, most_windows, sound_tender, lawful, every}
use Rattle.tender.specs.Tables.{Row, rows_of, own, bid_width, window_width}
use Rattle.reader_text.specs.Words.{among}

-- the row rules: bidder and price within limits, one window at least and no more than the kind allows, windows that begin where
-- the row before ended and stand inside the lent rows, each window lawful; the windows of the row before end at `at`
unfoldable pub keeps : Tender → List ℕ → ℕ → Row → Bool
unfolding within most_windows own every
keeps t windows at r =
    within 1 max_bidder r.bidder
    && (leb r.price max_price
    && (within 1 (most_windows t.kind) r.count
    && (eqb r.first at
    && (leb (at + r.count) (length windows / window_width)
    && every lawful (own windows r)))))

-- what the row rules say
pub record Kept (t : Tender) (windows : List ℕ) (at : ℕ) (r : Row) : Type 0 where
  pub bidder : within 1 max_bidder r.bidder ≡ true
  pub price : leb r.price max_price ≡ true
  pub count : within 1 (most_windows t.kind) r.count ≡ true
  pub first : r.first ≡ at
  pub room : leb (at + r.count) (length windows / window_width) ≡ true
  pub windows_too : every lawful (own windows r) ≡ true

-- besides, at most 1,000 bids, and a bidder number that is new: the row stands at `place`, after rows with the bidder numbers `used`
unfoldable pub sound : Tender → List ℕ → ℕ → List ℕ → ℕ → Row → Bool
unfolding among keeps
sound t windows place used at r = leb place max_bids && (not (among r.bidder used) && keeps t windows at r)

-- the place of the first row that breaks a rule
unfoldable pub row_fault : Tender → List ℕ → ℕ → List ℕ → ℕ → List Row → Option ℕ
unfolding sound
row_fault t windows place used at [] = none
row_fault t windows place used at (r ∷ rs) =
    let later = row_fault t windows (place + 1) (used ++ r.bidder ∷ []) (at + r.count) rs in
    cond (sound t windows place used at r) later (some place)

-- each kind has a number of its own
abbrev pub kind_number : Kind → ℕ
kind_number Single = 0
kind_number Multi = 1

abbrev pub is_same_kind : Kind → Kind → Bool
is_same_kind a b = eqb (kind_number a) (kind_number b)

-- the place of refusal 9 by the award of the kind k, where n bids are stated: 0 for the tender, the kind and the count, else the
-- row, counted from 1
unfoldable pub fault_of : Kind → Tender → ℕ → List ℕ → List ℕ → Option ℕ
unfolding sound_tender rows_of row_fault
fault_of k t n bids windows =
    cond (is_same_kind k t.kind && sound_tender t && leb n (length bids / bid_width))
    (row_fault t windows 1 [] 0 (rows_of n bids))
    (some 0)
