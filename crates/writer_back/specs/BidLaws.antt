-- Rows without a fault, their windows joined, are bids without a fault whose numbers a text may name. Assumes nothing.
use Rattle.std.specs.Prelude.{◌≡◌, refl, true, not, List, [], ◌∷◌, ◌++◌, ℕ, ◌+◌, ◌≤◌, length, leb, ltb}
use Rattle.std.specs.Prelude.{Some, None}
use Rattle.std.proofs.Common.{sym, ap, ◌∙◌, arith, length-append, leb-true, ltb-true}
use Rattle.std.proofs.Math.Option.{none}
use Rattle.tender.specs.declared.Tender.{Tender}
use Rattle.tender.specs.declared.Window.{Window}
use Rattle.tender.specs.Types.{Reserve}
use Rattle.tender.specs.Limits.{lawful, ordered, early, every}
use Rattle.tender.specs.RulesLaws.{every_split}
use Rattle.tender.specs.Tables.{Row, own}
use Rattle.reader_parts.specs.Words.{among}
use Rattle.spelling.specs.Text.{bid_in}
use Rattle.spelling.proofs.WordLaws.{Named, AllNamed}
use Rattle.spelling.proofs.BackLaws.{NamedReserve, Nameable, AllNameable, as_lines}
use Rattle.reader_text.specs.Read.{ReadOutcome, refused, bid_fault_after, bid_fault, checked, judged_by}
use Rattle.reader_text.proofs.FaultLaws.{lawful_every, no_fault}
use Rattle.cover.proofs.SetLaws.{and_split}
use Rattle.award_check.specs.Faults.{row_fault}
use Rattle.runs.specs.Runs.{joined}
use Rattle.runs.proofs.JoinedLaws.{joined_lawful, joined_some}
use Rattle.writer_line.specs.Respelt.{respelt}
use Rattle.writer_text.specs.Canonical.{respelt_in}
use Rattle.writer_text.proofs.RowLaws.{RowSays, own_length, joined_count, split_fault}

-- a text may name the numbers of lawful windows and of a lawful reserve

pub lawful_named : (w : Window) → lawful w ≡ true → Named w
unfolding lawful
lawful_named w e =
    let b = and_split (ltb w.start w.end) (leb w.end 10080) e in
    let l = ltb-true w.start w.end b.0 in
    let u = leb-true w.end 10080 b.1 in
    (omega arith, omega arith)

pub reserve_named : (r : Reserve) → ((p : ℕ) → r ≡ Some p → p ≤ 100000000) → NamedReserve r
reserve_named None h = tt
reserve_named (Some p) h = omega (arith, h p refl)

pub all_named : (ws : List Window) → every lawful ws ≡ true → AllNamed ws
all_named [] e = tt
all_named (w ∷ ws) e = let a = every_split lawful w ws e in (lawful_named w a.0, all_named ws a.1)

row_told : (t : Tender) (windows : List ℕ) (place : ℕ) (used : List ℕ) (r : Row) → RowSays t windows place used r
    → Nameable (respelt (bid_in windows r))
unfolding respelt bid_in
row_told t windows place used r s =
    go (joined_some (own windows r) s.all_lawful (omega (arith, own_length windows r, s.some_window)))
  where
    go : (w : Window) × (vs : List Window) × (joined (own windows r) ≡ w ∷ vs) → Nameable (respelt (bid_in windows r))
    go (w, vs, q) = (
      omega (arith, s.bidder_high),
      (omega (arith, s.price_high), (w, vs, q, all_named (w ∷ vs) (ap (every lawful) (sym q) ∙ joined_lawful (own windows r)))),
    )

-- the reader finds no fault in the row's bid

row_read : (t : Tender) (windows : List ℕ) (place : ℕ) (used : List ℕ) (r : Row) → RowSays t windows place used r
    → place ≡ length used + 1 → bid_fault t used (respelt (bid_in windows r)) ≡ none
unfolding bid_fault bid_fault_after respelt bid_in
row_read t windows place used r s p =
    let ws = joined (own windows r) in
    let h = lawful_every ws (joined_lawful (own windows r)) in
    no_fault t (length used) r.bidder r.price (length ws) (not (every ordered ws)) (not (every early ws))
    (among r.bidder used) (omega (arith, s.place_low)) (joined_count t windows place used r s) s.bidder_low
    s.bidder_high s.price_high
    (ap not h.0) (ap not h.1) s.bidder_new

-- all rows

pub rows_told : (t : Tender) (windows : List ℕ) (place : ℕ) (used : List ℕ) (at : ℕ) (rs : List Row)
    → row_fault t windows place used at rs ≡ none → AllNameable (respelt_in windows rs)
unfolding respelt_in
rows_told t windows place used at [] e = tt
rows_told t windows place used at (r ∷ rs) e =
    let s = split_fault t windows place used at r rs e in
    (row_told t windows place used r s.0, rows_told t windows (place + 1) (used ++ r.bidder ∷ []) (at + r.count) rs s.1)

-- no line of the rows' bids is faulty
pub rows_checked : (t : Tender) (windows : List ℕ) (place : ℕ) (used : List ℕ) (at line : ℕ) (rs : List Row) (out : ReadOutcome)
    → row_fault t windows place used at rs ≡ none → place ≡ length used + 1 →
    checked t line used (as_lines (respelt_in windows rs)) out ≡ out
unfolding checked as_lines judged_by respelt_in respelt bid_in
rows_checked t windows place used at line [] out e p = refl
rows_checked t windows place used at line (r ∷ rs) out e p =
    let s = split_fault t windows place used at r rs e in
    let later = checked t (line + 1) (used ++ r.bidder ∷ []) (as_lines (respelt_in windows rs)) out in
    ap (λ f. judged_by refused f line later) (row_read t windows place used r s.0 p)
    ∙ rows_checked t windows (place + 1) (used ++ r.bidder ∷ []) (at + r.count) (line + 1) rs out s.1
    (omega (arith, length-append used (r.bidder ∷ [])))

-- the windows of each row are lawful
abbrev pub AllLawful : List ℕ → List Row → Type 0
AllLawful windows [] = Unit {0}
AllLawful windows (r ∷ rs) = (every lawful (own windows r) ≡ true) × AllLawful windows rs

pub row_lawful : (t : Tender) (windows : List ℕ) (place : ℕ) (used : List ℕ) (at : ℕ) (rs : List Row)
    → row_fault t windows place used at rs ≡ none → AllLawful windows rs
row_lawful t windows place used at [] e = tt
row_lawful t windows place used at (r ∷ rs) e =
    let s = split_fault t windows place used at r rs e in
    (s.0.all_lawful, row_lawful t windows (place + 1) (used ++ r.bidder ∷ []) (at + r.count) rs s.1)
