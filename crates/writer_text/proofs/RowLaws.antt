-- What holds of a row without a fault. Assumes nothing.
use Rattle.std.specs.Prelude.{◌≡◌, refl, Bool, true, false, cond, not, List, [], ◌∷◌, ◌++◌, ℕ, ◌+◌, ◌≤◌, length}
use Rattle.std.specs.Prelude.{leb}
use Rattle.std.proofs.Math.Option.{none, some}
use Rattle.std.proofs.Common.{arith, leb-true}
use Rattle.std.proofs.lemmas.Bool.{not-true}
use Rattle.tender.specs.declared.Tender.{Tender}
use Rattle.tender.specs.Limits.{within, most_windows, lawful, every}
use Rattle.tender.specs.Tables.{Row, own}
use Rattle.reader_parts.specs.Words.{among}
use Rattle.cover.proofs.SetLaws.{and_split}
use Rattle.award_check.specs.Faults.{sound, row_fault}
use Rattle.award_check.proofs.AlikeLaws.{keeps_kept}
use Rattle.runs.specs.Runs.{joined}
use Rattle.runs.proofs.RunsFewLaws.{joined_few}
use Rattle.writer_line.proofs.LengthLaws.{windows_length}

pub own_length : (windows : List ℕ) (r : Row) → length (own windows r) ≡ r.count
unfolding own
own_length windows r = windows_length r.count _

-- the rows' rules, as facts
pub record RowSays (t : Tender) (windows : List ℕ) (place : ℕ) (used : List ℕ) (r : Row) : Type 0 where
  pub place_low : place ≤ 1000
  pub bidder_new : among r.bidder used ≡ false
  pub bidder_low : 1 ≤ r.bidder
  pub bidder_high : r.bidder ≤ 999999
  pub price_high : r.price ≤ 100000000
  pub some_window : 1 ≤ r.count
  pub few_enough : r.count ≤ most_windows t.kind
  pub all_lawful : every lawful (own windows r) ≡ true

pub row_says : (t : Tender) (windows : List ℕ) (place : ℕ) (used : List ℕ) (at : ℕ) (r : Row)
    → sound t windows place used at r ≡ true
    → RowSays t windows place used r
unfolding sound within
row_says t windows place used at r e =
    let a = and_split (leb place 1000) _ e in
    let u = and_split (not (among r.bidder used)) _ a.1 in
    let s = keeps_kept t windows at r u.1 in
    let b = and_split (leb 1 r.bidder) (leb r.bidder 999999) s.bidder in
    let c = and_split (leb 1 r.count) (leb r.count (most_windows t.kind)) s.count in
    record {
      place_low = leb-true place 1000 a.0;
      bidder_new = not-true (among r.bidder used) u.0;
      bidder_low = leb-true 1 r.bidder b.0;
      bidder_high = leb-true r.bidder 999999 b.1;
      price_high = leb-true r.price 100000000 s.price;
      some_window = leb-true 1 r.count c.0;
      few_enough = leb-true r.count (most_windows t.kind) c.1;
      all_lawful = s.windows_too;
    }

pub joined_count : (t : Tender) (windows : List ℕ) (place : ℕ) (used : List ℕ) (r : Row) → RowSays t windows place used r
    → length (joined (own windows r)) ≤ most_windows t.kind
joined_count t windows place used r s =
    omega (arith, joined_few (own windows r) s.all_lawful, own_length windows r, s.few_enough)

-- the first row is sound, and the later ones have no fault
pub split_fault : (t : Tender) (windows : List ℕ) (place : ℕ) (used : List ℕ) (at : ℕ) (r : Row) (rs : List Row)
    → row_fault t windows place used at (r ∷ rs) ≡ none →
    RowSays t windows place used r × (row_fault t windows (place + 1) (used ++ r.bidder ∷ []) (at + r.count) rs ≡ none)
unfolding row_fault
split_fault t windows place used at r rs e = go (sound t windows place used at r) refl e
  where
    go : (b : Bool) → sound t windows place used at r ≡ b
        → cond b (row_fault t windows (place + 1) (used ++ r.bidder ∷ []) (at + r.count) rs) (some place) ≡ none →
        RowSays t windows place used r × (row_fault t windows (place + 1) (used ++ r.bidder ∷ []) (at + r.count) rs ≡ none)
    go true f x = (row_says t windows place used at r f, x)
    go false f x = let z : ◌≡◌ {A = ℕ} 0 1 = cc in absurd (omega arith)
