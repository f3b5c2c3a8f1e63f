-- The row with a bidder number: it is one of the rows, and in tables without a fault it is the only one. Assumes nothing.
use Rattle.std.specs.Prelude.{◌≡◌, refl, ◌⊎◌, Bool, true, false, cond, not, ◌&&◌, ◌||◌, List, [], ◌∷◌, ◌++◌}
use Rattle.std.specs.Prelude.{ℕ, zero, suc, ◌+◌, ◌*◌, ◌<◌, length, get_or, leb, ltb}
use Rattle.std.proofs.Common.{sym, ap, ◌∙◌, inl, inr, append-nil, eq-or-lt_of_le, le_of_suc-le-suc, arith}
use Rattle.std.proofs.Math.Bool.{true≢false, or-true}
use Rattle.std.proofs.lemmas.Bool.{false≢true}
use Rattle.std.proofs.Math.Option.{none, some}
use Rattle.std.proofs.Math.Dec.{eqb}
use borrow.Author.Tests.{eqb-true, eq-eqb, ltb-true, ltb-false}
use Rattle.tender.specs.declared.Kind.{Kind}
use Rattle.tender.specs.declared.Tender.{Tender}
use Rattle.tender.specs.Limits.{max_bids}
use Rattle.tender.specs.Tables.{Row, rows_of, flat_rows, bid_width}
use Rattle.cover.specs.Sets.{Found, nothing, found}
use Rattle.cover.proofs.SetLaws.{and_split}
use Rattle.cover.specs.CriticalPrice.{largest}
use Rattle.reader_text.specs.Words.{among}
use Rattle.award_check.specs.Cells.{no_row}
use Rattle.award_check.specs.Faults.{keeps, sound, row_fault, fault_of}
use Rattle.award_check.proofs.AlikeLaws.{rows_length, row_named, faultless}
use Rattle.award_check.proofs.WalkLaws.{among_last}
use Rattle.award_check.proofs.TextLaws.{bidder_read}
use Rattle.highest_rule.specs.Highest.{row_with}

-- the largest number that passes

pub largest_passes : (ok : ℕ → Bool) (n i : ℕ) → largest ok n ≡ found i → (i < n) × (ok i ≡ true)
unfolding largest
largest_passes ok zero i e = let z : ◌≡◌ {A = ℕ} 0 1 = cc in absurd (omega arith)
largest_passes ok (suc n) i e = go (ok n) refl e (largest_passes ok n i)
  where
    go : (t : Bool) → ok n ≡ t → cond t (found n) (largest ok n) ≡ found i
        → (largest ok n ≡ found i → (i < n) × (ok i ≡ true))
        → (i < suc n) × (ok i ≡ true)
    go true d e ih = let z : n ≡ i = cc in (omega arith, rw (← z) d)
    go false d e ih = let h = ih e in (omega (arith, h.0), h.1)

pub largest_none : (ok : ℕ → Bool) (n : ℕ) → largest ok n ≡ nothing → (i : ℕ) → i < n → ok i ≡ false
unfolding largest
largest_none ok zero e i l = absurd (omega arith)
largest_none ok (suc n) e i l = go (ok n) refl e (largest_none ok n) (eq-or-lt_of_le (le_of_suc-le-suc l))
  where
    go : (t : Bool) → ok n ≡ t → cond t (found n) (largest ok n) ≡ nothing
        → (largest ok n ≡ nothing → (i : ℕ) → i < n → ok i ≡ false) → (i ≡ n) ⊎ (i < n) → ok i ≡ false
    go true d e ih x = let z : ◌≡◌ {A = ℕ} 0 1 = cc in absurd (omega arith)
    go false d e ih (inl h) = rw h d
    go false d e ih (inr h) = ih e i h

pub largest_same : (f g : ℕ → Bool) (n : ℕ) → ((i : ℕ) → i < n → f i ≡ g i) → largest f n ≡ largest g n
unfolding largest
largest_same f g zero h = refl
largest_same f g (suc n) h = rw (h n (omega arith), largest_same f g n (λ i l. h i (omega arith)))

-- no bidder number stands in two rows

new_number : (t : Tender) (windows : List ℕ) (place : ℕ) (used : List ℕ) (at : ℕ) (r : Row)
    → sound t windows place used at r ≡ true
    → among r.bidder used ≡ false
unfolding sound
new_number t windows place used at r e = go (among r.bidder used)
    (and_split (not (among r.bidder used)) (keeps t windows at r)
    (and_split (leb place max_bids) (not (among r.bidder used) && keeps t windows at r) e).1).0
  where
    go : (b : Bool) → not b ≡ true → b ≡ false
    go true h = absurd (false≢true h)
    go false h = refl

-- the first row is sound, and the others have no fault
first_sound : (t : Tender) (windows : List ℕ) (place : ℕ) (used : List ℕ) (at : ℕ) (r : Row) (rs : List Row)
    → row_fault t windows place used at (r ∷ rs) ≡ none
    → (sound t windows place used at r ≡ true)
    × (row_fault t windows (place + 1) (used ++ r.bidder ∷ []) (at + r.count) rs ≡ none)
unfolding row_fault
first_sound t windows place used at r rs e = go (sound t windows place used at r) refl e
  where
    go : (b : Bool) → sound t windows place used at r ≡ b
        → cond b (row_fault t windows (place + 1) (used ++ r.bidder ∷ []) (at + r.count) rs) (some place) ≡ none
        → (sound t windows place used at r ≡ true)
        × (row_fault t windows (place + 1) (used ++ r.bidder ∷ []) (at + r.count) rs ≡ none)
    go true s e = (s, e)
    go false s e = let z : ◌≡◌ {A = ℕ} 0 1 = cc in absurd (omega arith)

-- each number is none of those used before
unused : (t : Tender) (windows : List ℕ) (place : ℕ) (used : List ℕ) (at : ℕ) (rs : List Row)
    → row_fault t windows place used at rs ≡ none → (j : ℕ) → j < length rs → among (get_or rs j no_row).bidder used ≡ false
unused t windows place used at [] e j l = absurd (omega arith)
unused t windows place used at (r ∷ rs) e zero l = new_number t windows place used at r (first_sound t windows place used at r rs e).0
unused t windows place used at (r ∷ rs) e (suc j) l =
    go (among (get_or rs j no_row).bidder used) (sym (among_last (get_or rs j no_row).bidder r.bidder used)
    ∙ unused t windows (place + 1) (used ++ r.bidder ∷ []) (at + r.count) rs (first_sound t windows place used at r rs e).1 j
    (omega arith))
  where
    go : (b : Bool) → b || eqb r.bidder (get_or rs j no_row).bidder ≡ false → b ≡ false
    go true h = absurd (true≢false h)
    go false h = refl

distinct : (t : Tender) (windows : List ℕ) (place : ℕ) (used : List ℕ) (at : ℕ) (rs : List Row)
    → row_fault t windows place used at rs ≡ none → (i j : ℕ) → i < j → j < length rs
    → (get_or rs i no_row).bidder ≡ (get_or rs j no_row).bidder → ⊥
distinct t windows place used at [] e i j l m h = omega arith
distinct t windows place used at (r ∷ rs) e i zero l m h = omega arith
distinct t windows place used at (r ∷ rs) e zero (suc j) l m h =
    true≢false (sym (or-true (among (get_or rs j no_row).bidder used))
    ∙ ap (λ b. among (get_or rs j no_row).bidder used || b) (sym (eq-eqb r.bidder (get_or rs j no_row).bidder h))
    ∙ sym (among_last (get_or rs j no_row).bidder r.bidder used)
    ∙ unused t windows (place + 1) (used ++ r.bidder ∷ []) (at + r.count) rs (first_sound t windows place used at r rs e).1 j
    (omega arith))
distinct t windows place used at (r ∷ rs) e (suc i) (suc j) l m h =
    distinct t windows (place + 1) (used ++ r.bidder ∷ []) (at + r.count) rs (first_sound t windows place used at r rs e).1 i j
    (omega arith) (omega arith) h

module _ (bids : List ℕ) (n bidder : ℕ) where
  -- the row found is one of the rows, and has the number
  pub row_inside : (i : ℕ) → row_with bids n bidder ≡ found i → (i < n) × (get_or bids (bid_width * i) 0 ≡ bidder)
  unfolding row_with
  row_inside i e = let h = largest_passes (λ i. eqb (get_or bids (bid_width * i) 0) bidder) n i e in
      (h.0, eqb-true (get_or bids (bid_width * i) 0) bidder h.1)

  -- where none is found no row has it
  pub row_none : row_with bids n bidder ≡ nothing → (i : ℕ) → i < n → get_or bids (bid_width * i) 0 ≡ bidder → ⊥
  unfolding row_with
  row_none e i l h = true≢false (sym (eq-eqb (get_or bids (bid_width * i) 0) bidder h)
      ∙ largest_none (λ i. eqb (get_or bids (bid_width * i) 0) bidder) n e i l)

-- in tables without a fault each row is found by its number
module _ (k : Kind) (t : Tender) (n : ℕ) (bids windows : List ℕ) (f : fault_of k t n bids windows ≡ none) where
  apart : (i j : ℕ) → i < j → j < n → get_or bids (bid_width * i) 0 ≡ get_or bids (bid_width * j) 0 → ⊥
  apart i j l m h = distinct t windows 1 [] 0 (rows_of n bids) (faultless k t n bids windows f).rows i j l
      (omega (arith, rows_length n bids))
      (ap (λ r. r.bidder) (row_named n i bids (omega arith)) ∙ h ∙ sym (ap (λ r. r.bidder) (row_named n j bids m)))

  one_row : (i j : ℕ) → i < n → j < n → get_or bids (bid_width * i) 0 ≡ get_or bids (bid_width * j) 0 → i ≡ j
  one_row i j l m h = go (ltb i j) (ltb j i) refl refl
    where
      go : (a b : Bool) → ltb i j ≡ a → ltb j i ≡ b → i ≡ j
      go true b d e = absurd (apart i j (ltb-true i j d) m h)
      go false true d e = absurd (apart j i (ltb-true j i e) l (sym h))
      go false false d e = omega (arith, ltb-false i j d, ltb-false j i e)

  pub row_found : (i bidder : ℕ) → i < n → get_or bids (bid_width * i) 0 ≡ bidder → row_with bids n bidder ≡ found i
  row_found i bidder l h = go (row_with bids n bidder) refl
    where
      go : (x : Found) → row_with bids n bidder ≡ x → x ≡ found i
      go nothing e = absurd (row_none bids n bidder e i l h)
      go (found j) e = let z = row_inside bids n bidder j e in ap found (one_row j i z.0 l (z.1 ∙ sym h))

-- what stands past the rows that were read says nothing
pub row_read : (R : List Row) (v : List ℕ) (bidder : ℕ)
    → row_with (flat_rows R ++ v) (length R) bidder ≡ row_with (flat_rows R) (length R) bidder
unfolding row_with
row_read R v bidder = largest_same (λ i. eqb (get_or (flat_rows R ++ v) (bid_width * i) 0) bidder)
    (λ i. eqb (get_or (flat_rows R) (bid_width * i) 0) bidder) (length R)
    (λ i l. ap (λ (b : ℕ). eqb b bidder) (bidder_read R v i l ∙ sym (alone i l)))
  where
    alone : (i : ℕ) → i < length R → get_or (flat_rows R) (bid_width * i) 0 ≡ (get_or R i no_row).bidder
    alone i l = ap (λ (xs : List ℕ). get_or xs (bid_width * i) 0) (sym (append-nil (flat_rows R))) ∙ bidder_read R [] i l
