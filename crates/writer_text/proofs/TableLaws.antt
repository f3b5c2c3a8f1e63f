-- Row j of faultless tables: what the row rules say of it. Assumes nothing.
use Rattle.std.specs.Prelude.{◌≡◌, refl, Bool, true, false, cond, ◌&&◌, List, [], ◌∷◌, ◌++◌, ℕ, zero, suc, ◌+◌}
use Rattle.std.specs.Prelude.{◌*◌, ◌/◌, ◌≤◌, ◌<◌, length, get_or, drop, leb}
use Rattle.std.proofs.Math.Option.{none, some}
use Rattle.std.proofs.Common.{arith, leb-true}
use Rattle.tender.specs.declared.Tender.{Tender}
use Rattle.tender.specs.Limits.{sound_tender, lawful, every}
use Rattle.tender.specs.Tables.{Row, rows_of, windows_of, own, bid_width, window_width}
use Rattle.cover.proofs.SetLaws.{and_split}
use Rattle.award_check.specs.Faults.{sound, row_fault, is_same_kind, fault_of}
use Rattle.award_check.specs.Cells.{no_row, bid_row_at}
use Rattle.award_check.proofs.AlikeLaws.{sound_keeps, keeps_kept, faultless, rows_length, row_named}
use Rattle.reader_text.proofs.FaultLaws.{most_few}
use Rattle.writer_text.proofs.RowLaws.{row_says}

-- what writing a row's line asks of the row
pub record Plain (windows : List ℕ) (r : Row) : Type 0 where
  pub few_windows : r.count ≤ 32
  pub room : r.first + r.count ≤ length windows / window_width
  pub all_lawful : every lawful (windows_of r.count (drop (window_width * r.first) windows)) ≡ true

sound_plain : (t : Tender) (windows : List ℕ) (place : ℕ) (used : List ℕ) (at : ℕ) (r : Row)
    → sound t windows place used at r ≡ true
    → Plain windows r
unfolding own
sound_plain t windows place used at r e =
    let s = row_says t windows place used at r e in
    let h = keeps_kept t windows at r (sound_keeps t windows place used at r e) in
    record {
      few_windows = omega (arith, s.few_enough, most_few t.kind);
      room = omega (arith, h.first, leb-true (at + r.count) (length windows / window_width) h.room);
      all_lawful = s.all_lawful;
    }

rows_plain : (t : Tender) (windows : List ℕ) (place : ℕ) (used : List ℕ) (at : ℕ) (rs : List Row)
    → row_fault t windows place used at rs ≡ none → (j : ℕ) → j < length rs → Plain windows (get_or rs j no_row)
unfolding row_fault
rows_plain t windows place used at [] e j l = absurd (omega arith)
rows_plain t windows place used at (r ∷ rs) e j l = go (sound t windows place used at r) refl e j l
    (rows_plain t windows (place + 1) (used ++ r.bidder ∷ []) (at + r.count) rs)
  where
    go : (b : Bool) → sound t windows place used at r ≡ b
        → cond b (row_fault t windows (place + 1) (used ++ r.bidder ∷ []) (at + r.count) rs) (some place) ≡ none → (j : ℕ)
        → j < suc (length rs)
        → (row_fault t windows (place + 1) (used ++ r.bidder ∷ []) (at + r.count) rs ≡ none → (j : ℕ) → j < length rs
        → Plain windows (get_or rs j no_row)) → Plain windows (get_or (r ∷ rs) j no_row)
    go false s e j l ih = let z : ◌≡◌ {A = ℕ} 0 1 = cc in absurd (omega arith)
    go true s e zero l ih = sound_plain t windows place used at r s
    go true s e (suc j) l ih = ih e j (omega arith)

module _ (t : Tender) (n : ℕ) (bids windows : List ℕ) (e : fault_of t.kind t n bids windows ≡ none) where
  pub row_plain : (j : ℕ) → j < n → Plain windows (bid_row_at bids j)
  row_plain j l = rw (row_named n j bids l) at (rows_plain t windows 1 [] 0 (rows_of n bids)
      (faultless t.kind t n bids windows e).rows j (omega (arith, rows_length n bids)))

  -- the rows stand in the lent table
  pub rows_lent : n ≤ length bids / bid_width
  rows_lent =
      leb-true n (length bids / bid_width) (and_split (is_same_kind t.kind t.kind && sound_tender t) (leb n (length bids / bid_width))
      (faultless t.kind t n bids windows e).tender).1
