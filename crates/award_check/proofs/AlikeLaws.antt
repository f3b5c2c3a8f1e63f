-- Rows of tables, and what no refusal 9 says of them; in tables that are alike in all but one price that bid offers all its minutes.
-- Assumes nothing.
use Rattle.std.specs.Prelude.{◌≡◌, refl, Bool, true, false, cond, not, ◌&&◌, ℕ, zero, suc, ◌+◌, ◌*◌, ◌/◌, ◌≤◌}
use Rattle.std.specs.Prelude.{◌<◌, length, drop, leb, eqb}
use Rattle.std.proofs.Math.Path.{sym, ap}
use Rattle.std.proofs.Common.{◌∙◌, arith, drop-drop, eqb-true}
use mathlib.Core.List.{List, [], ◌∷◌, ◌++◌}
use Rattle.std.proofs.Math.Option.{none, some}
use Rattle.std.proofs.Math.ListN.{get_or}
use Rattle.std.proofs.Math.Seq.{get_or-drop}
use Rattle.tender.specs.declared.Kind.{Kind}
use Rattle.tender.specs.declared.Kind.TheVariants.{Single, Multi}
use Rattle.tender.specs.declared.Tender.{Tender}
use Rattle.tender.specs.Limits.{within, max_price, max_bidder, max_bids, most_windows, sound_tender}
use Rattle.tender.specs.Tables.{Row, rows_of, windows_of, own, bid_width, window_width, window_at}
use Rattle.reader_text.specs.Words.{among}
use Rattle.cover.proofs.SetLaws.{and_split}
use Rattle.award_check.specs.Faults.{keeps, sound, row_fault, kind_number, is_same_kind, fault_of, Kept}
use Rattle.award_check.specs.Cells.{no_row, bid_row_at}
use Rattle.award_check.specs.Auction.{offered}
use Rattle.award_check.specs.Alike.{window_count, Alike, offer_at, Withheld}

pub rows_length : (n : ℕ) (bs : List ℕ) → length (rows_of n bs) ≡ n
unfolding rows_of
rows_length zero bs = refl
rows_length (suc n) bs = ap suc (rows_length n (drop bid_width bs))

-- row i has the four numbers from 4 * i on
pub row_named : (n i : ℕ) (bids : List ℕ) → i < n → get_or (rows_of n bids) i no_row ≡ bid_row_at bids i
unfolding rows_of
row_named zero i bids l = absurd (omega arith)
row_named (suc n) zero bids l = refl
row_named (suc n) (suc i) bids l = row_named n i (drop bid_width bids) (omega arith) ∙ rw (
  get_or-drop bid_width bids (bid_width * i) 0,
  get_or-drop bid_width bids (bid_width * i + 1) 0,
  get_or-drop bid_width bids (bid_width * i + 2) 0,
  get_or-drop bid_width bids (bid_width * i + 3) 0,
  base i,
  index 1 i,
  index 2 i,
  index 3 i,
)
  where
    base : (i : ℕ) → bid_width + bid_width * i ≡ bid_width * suc i
    base i = omega arith

    index : (c i : ℕ) → bid_width + (bid_width * i + c) ≡ bid_width * suc i + c
    index c i = omega arith

later : (d n : ℕ) (bs cs : List ℕ) → ((j : ℕ) → d ≤ j → j < n → get_or bs j 0 ≡ get_or cs j 0) → (j : ℕ) → d + j < n
    → get_or (drop d bs) j 0 ≡ get_or (drop d cs) j 0
later d n bs cs h j l = get_or-drop d bs j 0 ∙ h (d + j) (omega arith) l ∙ sym (get_or-drop d cs j 0)

pub windows_same : (n : ℕ) (bs cs : List ℕ) → ((j : ℕ) → j < window_width * n → get_or bs j 0 ≡ get_or cs j 0)
    → windows_of n bs ≡ windows_of n cs
unfolding windows_of
windows_same zero bs cs h = refl
windows_same (suc n) bs cs h = rw (
  h 0 (omega arith),
  h 1 (omega arith),
  windows_same n (drop window_width bs) (drop window_width cs)
      (λ j l. later window_width (window_width * suc n) bs cs (λ k m o. h k o) j (omega arith)),
)

pub sound_keeps : (t : Tender) (windows : List ℕ) (place : ℕ) (used : List ℕ) (at : ℕ) (r : Row)
    → sound t windows place used at r ≡ true
    → keeps t windows at r ≡ true
unfolding sound
sound_keeps t windows place used at r e =
    (and_split (not (among r.bidder used)) (keeps t windows at r)
    (and_split (leb place max_bids) (not (among r.bidder used) && keeps t windows at r) e).1).1

pub keeps_kept : (t : Tender) (windows : List ℕ) (at : ℕ) (r : Row) → keeps t windows at r ≡ true → Kept t windows at r
unfolding keeps
keeps_kept t windows at r e =
    let a = and_split (within 1 max_bidder r.bidder) _ e in
    let b = and_split (leb r.price max_price) _ a.1 in
    let c = and_split (within 1 (most_windows t.kind) r.count) _ b.1 in
    let d = and_split (eqb r.first at) _ c.1 in
    let f = and_split (leb (at + r.count) (length windows / window_width)) _ d.1 in
    record { bidder = a.0; price = b.0; count = c.0; first = eqb-true r.first at d.0; room = f.0; windows_too = f.1 }

pub sound_first : (t : Tender) (windows : List ℕ) (place : ℕ) (used : List ℕ) (at : ℕ) (r : Row)
    → sound t windows place used at r ≡ true
    → r.first ≡ at
sound_first t windows place used at r e = (keeps_kept t windows at r (sound_keeps t windows place used at r e)).first

-- the windows of each row stand among those held
pub among_held : (t : Tender) (windows : List ℕ) (place : ℕ) (used : List ℕ) (at : ℕ) (rs : List Row) (j : ℕ)
    → row_fault t windows place used at rs ≡ none →
    (get_or rs j no_row).first + (get_or rs j no_row).count ≤ at + window_count rs
unfolding row_fault window_count no_row
among_held t windows place used at [] j e = omega arith
among_held t windows place used at (r ∷ rs) j e =
    go (sound t windows place used at r) refl e j
    (λ j f. among_held t windows (place + 1) (used ++ r.bidder ∷ []) (at + r.count) rs j f)
  where
    go : (b : Bool) → sound t windows place used at r ≡ b
        → cond b (row_fault t windows (place + 1) (used ++ r.bidder ∷ []) (at + r.count) rs) (some place) ≡ none → (j : ℕ) →
        ((j : ℕ) → row_fault t windows (place + 1) (used ++ r.bidder ∷ []) (at + r.count) rs ≡ none
        → (get_or rs j no_row).first + (get_or rs j no_row).count ≤ at + r.count + window_count rs) →
        (get_or (r ∷ rs) j no_row).first + (get_or (r ∷ rs) j no_row).count ≤ at + (r.count + window_count rs)
    go false s e j ih = let z : ◌≡◌ {A = ℕ} 0 1 = cc in absurd (omega arith)
    go true s e zero ih = omega (arith, sound_first t windows place used at r s)
    go true s e (suc j) ih = omega (arith, ih j e)

-- what no refusal 9 says
pub record Faultless (k : Kind) (t : Tender) (n : ℕ) (bids windows : List ℕ) : Type 0 where
  pub tender : is_same_kind k t.kind && sound_tender t && leb n (length bids / bid_width) ≡ true
  pub rows : row_fault t windows 1 [] 0 (rows_of n bids) ≡ none

pub faultless : (k : Kind) (t : Tender) (n : ℕ) (bids windows : List ℕ) → fault_of k t n bids windows ≡ none
    → Faultless k t n bids windows
unfolding fault_of
faultless k t n bids windows e = go (is_same_kind k t.kind && sound_tender t && leb n (length bids / bid_width)) refl e
  where
    go : (b : Bool) → is_same_kind k t.kind && sound_tender t && leb n (length bids / bid_width) ≡ b
        → cond b (row_fault t windows 1 [] 0 (rows_of n bids)) (some 0) ≡ none → Faultless k t n bids windows
    go true f e = record { tender = f; rows = e }
    go false f e = let z : ◌≡◌ {A = ℕ} 0 1 = cc in absurd (omega arith)

-- the award's kind is the tender's own
pub own_kind : (k : Kind) (t : Tender) (n : ℕ) (bids windows : List ℕ) → fault_of k t n bids windows ≡ none → t.kind ≡ k
own_kind k t n bids windows e = go k t.kind (eqb-true (kind_number k) (kind_number t.kind) (and_split (is_same_kind k t.kind) _
    (and_split (is_same_kind k t.kind && sound_tender t) _ (faultless k t n bids windows e).tender).0).0)
  where
    go : (a b : Kind) → kind_number a ≡ kind_number b → b ≡ a
    go Single Single e = refl
    go Single Multi e = absurd (omega arith)
    go Multi Single e = absurd (omega arith)
    go Multi Multi e = refl

module _ (t : Tender) (n i : ℕ) (bids windows bids' windows' : List ℕ) (inside : i < n)
    (f : row_fault t windows 1 [] 0 (rows_of n bids) ≡ none) (a : Alike n i bids windows bids' windows') where
  -- where the windows begin and how many they are is the same, and so are the windows
  pub own_row : (j : ℕ) → j < n → own windows' (bid_row_at bids' j) ≡ own windows (bid_row_at bids j)
  unfolding own
  own_row j l =
      let first = sym (a.rows (bid_width * j + 2) (omega arith) (λ e. omega arith)) in
      let count = sym (a.rows (bid_width * j + 3) (omega arith) (λ e. omega arith)) in
      ap (λ (k : ℕ). windows_of (bid_row_at bids' j).count (drop (window_width * k) windows')) first
      ∙ ap (λ (c : ℕ). windows_of c (drop (window_width * (bid_row_at bids j).first) windows')) count
      ∙ sym (go (bid_row_at bids j) (rw (row_named n j bids l) at (among_held t windows 1 [] 0 (rows_of n bids) j f)))
    where
      go : (r : Row) → r.first + r.count ≤ 0 + window_count (rows_of n bids) → own windows r ≡ own windows' r
      go r l = windows_same r.count (drop (window_width * r.first) windows) (drop (window_width * r.first) windows')
          (λ x m. get_or-drop (window_width * r.first) windows x 0 ∙ a.windows_too (window_width * r.first + x) (omega arith)
          ∙ sym (get_or-drop (window_width * r.first) windows' x 0))

  offer_row : (j : ℕ) → j < n → (j ≡ i → ⊥) → offer_at bids' windows' j ≡ offer_at bids windows j
  unfolding offered
  offer_row j l d = ap (λ ws. record { price = get_or bids' (bid_width * j + 1) 0; windows = ws }) (own_row j l)
      ∙ ap (λ p. record { price = p; windows = own windows (bid_row_at bids j) })
      (sym (a.rows (bid_width * j + 1) (omega arith) (λ e. d (omega arith))))

  -- bid i offers all its minutes
  pub alike_withheld : Withheld n i bids windows bids' windows'
  unfolding offered
  alike_withheld = record { others = offer_row; part = λ m e. rw (own_row i inside) at e }

-- for a loop over the rows: row j, and those after it
pub rows_step : (m j : ℕ) (bids : List ℕ) → rows_of (suc m) (drop (bid_width * j) bids)
    ≡ bid_row_at bids j ∷ rows_of m (drop (bid_width * (j + 1)) bids)
unfolding rows_of
rows_step m j bids =
    let z : bid_width * j + 0 ≡ bid_width * j = omega arith in
    let e : bid_width * j + bid_width ≡ bid_width * (j + 1) = omega arith in
    rw (
      get_or-drop (bid_width * j) bids 0 0,
      get_or-drop (bid_width * j) bids 1 0,
      get_or-drop (bid_width * j) bids 2 0,
      get_or-drop (bid_width * j) bids 3 0,
      drop-drop bid_width (bid_width * j) bids,
      z,
      e,
    )

pub windows_step : (m j : ℕ) (windows : List ℕ) → windows_of (suc m) (drop (window_width * j) windows)
    ≡ window_at windows j ∷ windows_of m (drop (window_width * (j + 1)) windows)
unfolding windows_of
windows_step m j windows =
    let z : window_width * j + 0 ≡ window_width * j = omega arith in
    let e : window_width * j + window_width ≡ window_width * (j + 1) = omega arith in
    rw (
      get_or-drop (window_width * j) windows 0 0,
      get_or-drop (window_width * j) windows 1 0,
      drop-drop window_width (window_width * j) windows,
      z,
      e,
    )
