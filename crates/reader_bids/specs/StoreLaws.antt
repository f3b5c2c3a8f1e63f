-- Rows and windows put into tables: what the first places then are. Assumes nothing.
use Rattle.std.specs.Prelude.{ℕ, suc, ◌+◌, ◌*◌, ◌≤◌, ◌≡◌, refl, List, [], ◌∷◌, ◌++◌, length, take, drop}
use Rattle.std.proofs.Common.{sym, ap, ◌∙◌, append_assoc, append-nil, arith, add-zero, length-append, length-set, length-take-le}
use Rattle.std.proofs.Common.{take_at}
use Rattle.std.proofs.lemmas.List.Edits.{sets-eq}
use Rattle.tender.specs.declared.Window.{Window}
use Rattle.tender.specs.Tables.{flat_rows, flat_windows, window_width}
use Rattle.reader_forms.specs.Line.{BidLine}
use Rattle.reader_forms.specs.Tally.{put_window, put_windows}
use Rattle.reader_text.specs.Read.{rows_from, all_windows}
use Rattle.reader_bids.specs.Steps.{row_numbers}

-- the first places, where some follow the first n
pub front : (l vs rest : List ℕ) (n t : ℕ) → n ≤ length l → n + length vs ≡ t → take t (take n l ++ vs ++ rest) ≡ take n l
    ++ vs
front l vs rest n t h e = take_at (take n l ++ vs) rest t (length-append (take n l) vs ∙ omega (arith, length-take-le n l h))

put_is : (table : List ℕ) (m : ℕ) (w : Window) → window_width * m + window_width ≤ length table
    → put_window table m w ≡ take (window_width * m) table ++ (w.start ∷ w.end ∷ []) ++ drop (window_width * m + window_width) table
unfolding put_window
put_is table m w h =
    let e : window_width * m + 1 ≡ suc (window_width * m) = omega arith in
    rw e (sets-eq (w.start ∷ w.end ∷ []) table (window_width * m) h)

put_length : (table : List ℕ) (m : ℕ) (w : Window) → length (put_window table m w) ≡ length table
unfolding put_window
put_length table m w = simp length-set

-- the windows stand in the rows from m on
pub windows_put : (table : List ℕ) (m : ℕ) (ws : List Window) → window_width * (m + length ws) ≤ length table
    → take (window_width * (m + length ws)) (put_windows table m ws) ≡ take (window_width * m) table ++ flat_windows ws
unfolding put_windows flat_windows
windows_put table m [] h = rw add-zero (sym (append-nil (take (window_width * m) table)))
windows_put table m (w ∷ ws) h =
    let a : m + length (w ∷ ws) ≡ m + 1 + length ws = omega arith in
    let l : window_width * m + window_width ≤ length table = omega arith in
    let b = windows_put (put_window table m w) (m + 1) ws (rw (put_length table m w) (omega arith)) in
    let c : take (window_width * (m + 1)) (put_window table m w) ≡ take (window_width * m) table ++ (w.start ∷ w.end ∷ []) =
    ap (take (window_width * (m + 1))) (put_is table m w l)
    ∙ front table (w.start ∷ w.end ∷ []) (drop (window_width * m + window_width) table) (window_width * m) (window_width * (m + 1))
    (omega arith) (omega arith) in
    rw a (b ∙ rw c (append_assoc (take (window_width * m) table) (w.start ∷ w.end ∷ []) (flat_windows ws)))

-- one bid more

pub windows_more : (bs : List BidLine) (b : BidLine) → all_windows (bs ++ b ∷ []) ≡ all_windows bs ++ b.windows
unfolding all_windows
windows_more [] b = append-nil b.windows
windows_more (c ∷ bs) b = rw (windows_more bs b) (sym (append_assoc c.windows (all_windows bs) b.windows))

pub flat_more : (xs ys : List Window) → flat_windows (xs ++ ys) ≡ flat_windows xs ++ flat_windows ys
unfolding flat_windows
flat_more [] ys = refl
flat_more (x ∷ xs) ys = ap (λ l. x.start ∷ x.end ∷ l) (flat_more xs ys)

pub rows_more : (at : ℕ) (bs : List BidLine) (b : BidLine) →
    flat_rows (rows_from at (bs ++ b ∷ [])) ≡ flat_rows (rows_from at bs)
    ++ row_numbers (record { bidder = b.bidder; price = b.price; first = at + length (all_windows bs); count = length b.windows })
unfolding flat_rows rows_from all_windows
rows_more at [] b = rw add-zero
rows_more at (c ∷ bs) b =
    let e : at + length (c.windows ++ all_windows bs) ≡ at + length c.windows + length (all_windows bs) =
    omega (arith, length-append c.windows (all_windows bs)) in
    rw e (ap (λ l. c.bidder ∷ c.price ∷ at ∷ length c.windows ∷ l) (rows_more (at + length c.windows) bs b))
