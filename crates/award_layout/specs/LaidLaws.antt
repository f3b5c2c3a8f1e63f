-- Laws of laying tables out: a list filled from the front, a window's cells, windows added one by one. Assumes nothing.
use Rattle.std.specs.Prelude.{◌≡◌, refl, List, ◌∷◌, Bool, true, false, ◌&&◌, ◌||◌, ℕ, suc, ◌+◌, ◌-◌, ◌*◌}
use Rattle.std.specs.Prelude.{◌/◌, ◌%◌, ◌^◌, ◌≤◌, ◌<◌, length, get_or, set, drop, leb, ltb, eqb}
use Rattle.std.proofs.Common.{sym, ap, ◌∙◌, arith, get_or-set_same, get_or-set_other}
use borrow.Author.Tests.{ltb-true, ltb-false, leb-true}
use Rattle.tender.specs.declared.Tender.{Tender}
use Rattle.tender.specs.Limits.{within, most_windows}
use Rattle.cover.proofs.SetLaws.{and_split}
use Rattle.tender.specs.Tables.{windows_of, window_width, window_at}
use Rattle.cells.specs.Cells.{cell, RangeAdded}
use Rattle.cells.proofs.BitLaws.{zero_bit}
use Rattle.cells.proofs.StoreLaws.{added}
use Rattle.award_check.specs.Cells.{holds, cells_of, minute_of, bid_row_at}
use Rattle.award_check.proofs.AlikeLaws.{windows_step}
use Rattle.award_check.proofs.WalkLaws.{rows_ahead, ahead_more}
use Rattle.award_layout.specs.LayoutLaws.{in_cell}
use Rattle.award_layout.specs.Orderly.{Orderly, clipped, Masked}

-- a list filled from the front

pub filled_more : (f : ℕ → ℕ) (out : List ℕ) (i : ℕ) → i < length out → ((j : ℕ) → j < i → get_or out j 0 ≡ f j)
    → (v : ℕ) → v ≡ f i
    → (j : ℕ) → j < i + 1 → get_or (set out i v) j 0 ≡ f j
filled_more f out i l h v e j m = go (ltb j i) refl
  where
    go : (b : Bool) → ltb j i ≡ b → get_or (set out i v) j 0 ≡ f j
    go true t = get_or-set_other out i j v 0 (λ d. omega (arith, ltb-true j i t)) ∙ h j (ltb-true j i t)
    go false t = let d : j ≡ i = omega (arith, ltb-false j i t) in ap (λ (k : ℕ). get_or (set out i v) k 0) d
        ∙ get_or-set_same out i v 0 l
        ∙ e ∙ ap f (sym d)

-- the words have the cells of the windows passed, those from j on being left
pub record Masking (t : Tender) (windows : List ℕ) (first count j : ℕ) (words : List ℕ) : Type 0 where
  pub inside : j ≤ count
  pub sets : (x : ℕ) → (eqb (cell words x) 1
      || (ltb x (cells_of t) && holds (windows_of (count - j) (drop (window_width * (first + j)) windows)) (minute_of t x)))
      ≡ (ltb x (cells_of t) && holds (windows_of count (drop (window_width * first) windows)) (minute_of t x))

pub masking_starts : (t : Tender) (windows : List ℕ) (first count : ℕ) (words : List ℕ) → ((i : ℕ) → get_or words i 0 ≡ 0)
    → Masking t windows first count 0 words
unfolding cell
masking_starts t windows first count words z =
    record {
      inside = omega arith;
      sets = λ x. ap (λ b.
          b || (ltb x (cells_of t) && holds (windows_of (count - 0) (drop (window_width * (first + 0)) windows)) (minute_of t x))) (clear x)
          ∙ same x;
    }
  where
    clear : (x : ℕ) → eqb (get_or words (x / 64) 0 / 2 ^ (x % 64) % 2) 1 ≡ false
    clear x = ap (λ (v : ℕ). eqb (v / 2 ^ (x % 64) % 2) 1) (z (x / 64)) ∙ ap (λ (v : ℕ). eqb v 1) (zero_bit (x % 64))

    same : (x : ℕ) → (ltb x (cells_of t) && holds (windows_of (count - 0) (drop (window_width * (first + 0)) windows)) (minute_of t x))
        ≡ (ltb x (cells_of t) && holds (windows_of count (drop (window_width * first) windows)) (minute_of t x))
    same x =
        let d : count - 0 ≡ count = omega arith in
        let e : first + 0 ≡ first = omega arith in
        ap (λ (m : ℕ). ltb x (cells_of t) && holds (windows_of m (drop (window_width * (first + 0)) windows)) (minute_of t x)) d
        ∙ ap (λ (m : ℕ). ltb x (cells_of t) && holds (windows_of count (drop (window_width * m) windows)) (minute_of t x)) e

regroup : (o l i h : Bool) → ((o || (l && i)) || (l && h)) ≡ (o || (l && (i || h)))
regroup true l i h = refl
regroup false true i h = refl
regroup false false i h = refl

pub masking_more : (t : Tender) (windows : List ℕ) (first count j : ℕ) (words words' : List ℕ) (s e : ℕ)
    → Masking t windows first count j words → j < count →
    s ≡ clipped t (window_at windows (first + j)).start → e ≡ clipped t (window_at windows (first + j)).end → s ≤ e
    → RangeAdded s e words words' → Masking t windows first count (j + 1) words'
unfolding holds
masking_more t windows first count j words words' s e m l es ee o f = record {
  inside = omega arith;
  sets = λ x.
      ap (λ b. b
      || (ltb x (cells_of t) && holds (windows_of (count - (j + 1)) (drop (window_width * (first + (j + 1))) windows)) (minute_of t x)))
      (added s e words words' f x ∙ ap (λ (v : ℕ). eqb (cell words x) 1 || (leb v x && ltb x e)) es
      ∙ ap (λ (v : ℕ). eqb (cell words x) 1 || (leb (clipped t (window_at windows (first + j)).start) x && ltb x v)) ee
      ∙ ap (λ b. eqb (cell words x) 1 || b) (in_cell t (window_at windows (first + j)).start (window_at windows (first + j)).end x))
      ∙ regroup (eqb (cell words x) 1) (ltb x (cells_of t)) (leb (window_at windows (first + j)).start (minute_of t x)
      && ltb (minute_of t x) (window_at windows (first + j)).end)
      (holds (windows_of (count - (j + 1)) (drop (window_width * (first + (j + 1))) windows)) (minute_of t x))
      ∙ ap (λ ws. eqb (cell words x) 1 || (ltb x (cells_of t) && holds ws (minute_of t x))) (sym (next x)) ∙ m.sets x;
}
  where
    next : (x : ℕ) → windows_of (count - j) (drop (window_width * (first + j)) windows)
        ≡ window_at windows (first + j) ∷ windows_of (count - (j + 1)) (drop (window_width * (first + (j + 1))) windows)
    next x =
        let d : count - j ≡ suc (count - (j + 1)) = omega arith in
        let g : first + j + 1 ≡ first + (j + 1) = omega arith in
        ap (λ (c : ℕ). windows_of c (drop (window_width * (first + j)) windows)) d ∙ windows_step (count - (j + 1)) (first + j) windows
        ∙ ap (λ (i : ℕ). window_at windows (first + j) ∷ windows_of (count - (j + 1)) (drop (window_width * i) windows)) g

pub masking_ends : (t : Tender) (windows : List ℕ) (first count j : ℕ) (words : List ℕ)
    → Masking t windows first count j words
    → count ≤ j → Masked t (windows_of count (drop (window_width * first) windows)) words
unfolding holds windows_of
masking_ends t windows first count j words m l = record { sets = λ x. sym (none x) ∙ m.sets x }
  where
    off : (a b : Bool) → (a || (b && false)) ≡ a
    off true b = refl
    off false true = refl
    off false false = refl

    none : (x : ℕ) → (eqb (cell words x) 1
        || (ltb x (cells_of t) && holds (windows_of (count - j) (drop (window_width * (first + j)) windows)) (minute_of t x)))
        ≡ eqb (cell words x) 1
    none x = let d : count - j ≡ 0 = omega arith in
        ap (λ (c : ℕ). eqb (cell words x) 1
        || (ltb x (cells_of t) && holds (windows_of c (drop (window_width * (first + j)) windows)) (minute_of t x))) d
        ∙ off (eqb (cell words x) 1) (ltb x (cells_of t))

-- the windows of a row stand in the table
module _ (t : Tender) (n : ℕ) (bids windows : List ℕ) (o : Orderly t n bids windows) (i : ℕ) (l : i < n) where
  pub row_room : (bid_row_at bids i).first + (bid_row_at bids i).count ≤ length windows / window_width
  row_room = leb-true ((bid_row_at bids i).first + (bid_row_at bids i).count) (length windows / window_width) (o.kept i l).room

  some_window : 1 ≤ (bid_row_at bids i).count
  unfolding within
  some_window = leb-true 1 (bid_row_at bids i).count
      (and_split (leb 1 (bid_row_at bids i).count) (leb (bid_row_at bids i).count (most_windows t.kind))
      (o.kept i l).count).0

  pub first_room : (bid_row_at bids i).first + 1 ≤ length windows / window_width
  first_room = omega (arith, row_room, some_window)

-- the window passed next is lawful, and so are those after it
pub here_lawful : (windows : List ℕ) (first count j : ℕ) → j < count → rows_ahead windows first count j ≡ true →
    ((window_at windows (first + j)).start ≤ (window_at windows (first + j)).end) × (rows_ahead windows first count (j + 1) ≡ true)
here_lawful windows first count j l e =
    let a = and_split (ltb (window_at windows (first + j)).start (window_at windows (first + j)).end
    && leb (window_at windows (first + j)).end 10080) (rows_ahead windows first count (j + 1))
    (sym (ahead_more windows first count j l) ∙ e) in
    let b = and_split (ltb (window_at windows (first + j)).start (window_at windows (first + j)).end)
    (leb (window_at windows (first + j)).end 10080) a.0 in
    (omega (arith, ltb-true (window_at windows (first + j)).start (window_at windows (first + j)).end b.0), a.1)
