-- The tables of an accepted text: the award never refuses them with 9. Assumes nothing.
use Rattle.std.specs.Prelude.{◌≡◌, refl, List, [], ◌∷◌, ◌++◌, Bool, true, not, ◌&&◌, ℕ, zero, suc, ◌+◌, ◌*◌}
use Rattle.std.specs.Prelude.{◌/◌, ◌≤◌, ◌<◌, length, get_or, drop}
use Rattle.std.proofs.Common.{sym, ap, ◌∙◌, arith, length-append, length-drop, drop-drop, eq-eqb, le-leb}
use Rattle.std.proofs.Math.Option.{none}
use Rattle.tender.specs.declared.Kind.{Kind}
use Rattle.tender.specs.declared.Kind.TheVariants.{Single, Multi}
use Rattle.tender.specs.declared.Window.{Window}
use Rattle.tender.specs.declared.Tender.{Tender}
use Rattle.tender.specs.Limits.{within, max_price, max_bidder, max_bids, most_windows, lawful, every}
use Rattle.tender.specs.Tables.{Row, rows_of, windows_of, own, flat_rows, flat_windows, bid_width, window_width}
use Rattle.tender.specs.RulesLaws.{rules_lawful, rules_sound}
use Rattle.reader_text.specs.Rules.{RowRules, RowsRules, WindowsRules, Rules}
use Rattle.award_check.specs.Cells.{no_row}
use Rattle.award_check.specs.Faults.{keeps, sound, row_fault, kind_number, is_same_kind, fault_of}
use Rattle.award_check.specs.Alike.{window_count}

pub rows_flat : (R : List Row) (v : List ℕ) → rows_of (length R) (flat_rows R ++ v) ≡ R
unfolding rows_of flat_rows
rows_flat [] v = refl
rows_flat (r ∷ rs) v = ap (λ l. r ∷ l) (rows_flat rs v)

pub length_rows : (R : List Row) → length (flat_rows R) ≡ bid_width * length R
unfolding flat_rows
length_rows [] = refl
length_rows (r ∷ rs) = omega (arith, length_rows rs)

pub length_windows : (W : List Window) → length (flat_windows W) ≡ window_width * length W
unfolding flat_windows
length_windows [] = refl
length_windows (w ∷ ws) = omega (arith, length_windows ws)

-- the bidder of a row that was read, whatever stands past the rows
pub bidder_read : (R : List Row) (v : List ℕ) (i : ℕ) → i < length R
    → get_or (flat_rows R ++ v) (bid_width * i) 0 ≡ (get_or R i no_row).bidder
unfolding flat_rows
bidder_read [] v i l = absurd (omega arith)
bidder_read (r ∷ R) v zero l = refl
bidder_read (r ∷ R) v (suc i) l = ap (λ k. get_or (r.bidder ∷ r.price ∷ r.first ∷ r.count ∷ (flat_rows R ++ v)) k 0) (index i)
    ∙ bidder_read R v i (omega arith)
  where
    index : (i : ℕ) → bid_width * suc i ≡ suc (suc (suc (suc (bid_width * i))))
    index i = omega arith

all_lawful : (c : ℕ) (W : List Window) (v : List ℕ) → c ≤ length W → WindowsRules W
    → every lawful (windows_of c (flat_windows W ++ v)) ≡ true
unfolding every windows_of flat_windows
all_lawful zero W v l r = refl
all_lawful (suc c) [] v l r = absurd (omega arith)
all_lawful (suc c) (w ∷ W) v l r = rw (rules_lawful w r.0, all_lawful c W v (omega arith) r.1)

drop_rules : (c : ℕ) (W : List Window) → WindowsRules W → WindowsRules (drop c W)
drop_rules zero W r = r
drop_rules (suc c) [] r = r
drop_rules (suc c) (w ∷ W) r = drop_rules c W r.1

pub drop_flat : (c : ℕ) (W : List Window) (v : List ℕ) → c ≤ length W
    → drop (window_width * c) (flat_windows W ++ v) ≡ flat_windows (drop c W)
    ++ v
unfolding flat_windows
drop_flat zero W v l = refl
drop_flat (suc c) [] v l = absurd (omega arith)
drop_flat (suc c) (w ∷ W) v l = ap (λ (m : ℕ). drop m (w.start ∷ w.end ∷ (flat_windows W ++ v))) (double c)
    ∙ drop_flat c W v (omega arith)
  where
    double : (c : ℕ) → window_width * suc c ≡ suc (suc (window_width * c))
    double c = omega arith

both : {a b : Bool} → a ≡ true → b ≡ true → a && b ≡ true
both e f = rw (e, f)

pub rows_end : (k : Kind) (used : List ℕ) (at : ℕ) (rs : List Row) (end : ℕ) → RowsRules k used at rs end
    → at + window_count rs ≡ end
unfolding window_count
rows_end k used at [] end h = omega (arith, h)
rows_end k used at (r ∷ rs) end h = omega (arith, rows_end k (used ++ r.bidder ∷ []) (at + r.count) rs end h.1)

count_most : (k : Kind) (r : Row) → r.count ≤ 32 → (k ≡ Single → r.count ≡ 1) → r.count ≤ most_windows k
unfolding most_windows
count_most Single r l f = omega (arith, f refl)
count_most Multi r l f = l

row_sound : (t : Tender) (windows v : List ℕ) (place : ℕ) (used : List ℕ) (at : ℕ) (r : Row) (W : List Window) → place ≤ 1000
    → RowRules t.kind used at r → drop (window_width * at) windows ≡ flat_windows W ++ v →
    r.count ≤ length W → at + r.count ≤ length windows / window_width → WindowsRules W → sound t windows place used at r ≡ true
unfolding sound keeps within own
row_sound t windows v place used at r W l h d c e w =
    both (le-leb place max_bids l)
    (both (ap not h.bidder_new)
    (both (both (le-leb 1 r.bidder h.bidder_low) (le-leb r.bidder max_bidder h.bidder_high))
    (both (le-leb r.price max_price h.price_high)
    (both (both (le-leb 1 r.count h.some_window)
    (le-leb r.count (most_windows t.kind) (count_most t.kind r h.few_windows h.one_window)))
    (both (eq-eqb r.first at h.begins)
    (both (le-leb (at + r.count) (length windows / window_width) e)
    (ap (λ (f : ℕ). every lawful (windows_of r.count (drop (window_width * f) windows))) h.begins
    ∙ ap (λ ws. every lawful (windows_of r.count ws)) d ∙ all_lawful r.count W v c w)))))))

rows_sound : (t : Tender) (windows v : List ℕ) (place : ℕ) (used : List ℕ) (at : ℕ) (rs : List Row) (W : List Window) (end : ℕ)
    → RowsRules t.kind used at rs end → place + length rs ≤ 1001 →
    drop (window_width * at) windows ≡ flat_windows W ++ v → at + length W ≡ end → end ≤ length windows / window_width
    → WindowsRules W
    → row_fault t windows place used at rs ≡ none
unfolding row_fault
rows_sound t windows v place used at [] W end h l d e f w = refl
rows_sound t windows v place used at (r ∷ rs) W end h l d e f w =
    let m = rows_end t.kind (used ++ r.bidder ∷ []) (at + r.count) rs end h.1 in
    let i : window_width * (at + r.count) ≡ window_width * at + window_width * r.count = omega arith in
    let n : drop (window_width * (at + r.count)) windows ≡ flat_windows (drop r.count W) ++ v =
    ap (λ (j : ℕ). drop j windows) i
    ∙ sym (drop-drop (window_width * r.count) (window_width * at) windows) ∙ ap (drop (window_width * r.count)) d
    ∙ drop_flat r.count W v (omega arith) in
    rw (row_sound t windows v place used at r W (omega arith) h.0 d (omega arith) (omega arith) w)
    (rows_sound t windows v (place + 1) (used ++ r.bidder ∷ []) (at + r.count) rs (drop r.count W) end h.1 (omega arith) n
    (omega (arith, length-drop r.count W)) f (drop_rules r.count W w))

same_kind : (k : Kind) → is_same_kind k k ≡ true
same_kind k = eq-eqb (kind_number k) (kind_number k) refl

-- what was read is never refused with 9 by the award of its kind
pub never_nine : (T : Tender) (R : List Row) (W : List Window) (v w : List ℕ) → Rules T R W
    → fault_of T.kind T (length R) (flat_rows R ++ v) (flat_windows W ++ w) ≡ none
unfolding fault_of
never_nine T R W v w h =
    let l : length R ≤ length (flat_rows R ++ v) / bid_width = omega (arith, length-append (flat_rows R) v, length_rows R) in
    let m : length W ≤ length (flat_windows W ++ w) / window_width = omega (arith, length-append (flat_windows W) w, length_windows W) in
    rw (
      both (both (same_kind T.kind) (rules_sound T h.tender)) (le-leb (length R) (length (flat_rows R ++ v) / bid_width) l),
      rows_flat R v,
    )
    (rows_sound T (flat_windows W ++ w) w 1 [] 0 R W (length W) h.rows (omega (arith, h.few_bids)) refl (omega arith) m
    h.windows)
