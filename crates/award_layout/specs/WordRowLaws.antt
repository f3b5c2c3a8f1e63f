-- Rows of words written one after the other into one list. Assumes nothing.
use Rattle.std.specs.Prelude.{◌≡◌, refl, Bool, true, false, List, ℕ, ◌+◌, ◌-◌, ◌*◌, ◌≤◌, ◌<◌, min, length}
use Rattle.std.specs.Prelude.{get_or, take, drop, ltb}
use Rattle.std.proofs.Common.{sym, ◌∙◌, arith, length-take, length-drop, ext_get_or, get_or-take, get_or-drop, drop_at}
use Rattle.std.proofs.Common.{length-take-le, ltb-true, ltb-false}
use Rattle.std.proofs.Math.Path.{ap}
use Rattle.std.proofs.Math.ListN.{get_or-append}
use Rattle.std.proofs.Math.Seq.{take_at}
use borrow.Rule.Slice.PartMut.{mid_of, put_mid, same_len_mid}
use Rattle.tender.specs.declared.Tender.{Tender}
use Rattle.tender.specs.Tables.{own}
use Rattle.multi_market.specs.Market.{word_row}
use Rattle.multi_market.proofs.WordRowLaws.{part_row, row_within, row_length}
use Rattle.award_check.specs.Cells.{bid_row_at}
use Rattle.award_layout.specs.Orderly.{Masked, AllMasked}

module _ (ms : List ℕ) (w n i : ℕ) (size : length ms ≡ w * n) (l : i < n) where
  pub row_size : length (word_row ms w i) ≡ w
  row_size = row_length ms w i (omega (arith, row_within w n i l))

pub word_row_same : (ms ms' : List ℕ) (w j : ℕ) → length ms ≡ length ms'
    → ((q : ℕ) → q < w * j + w → get_or ms q 0 ≡ get_or ms' q 0)
    → word_row ms w j ≡ word_row ms' w j
unfolding word_row
word_row_same ms ms' w j e h = ext_get_or 0 (take w (drop (w * j) ms)) (take w (drop (w * j) ms'))
    (simp (length-take, length-drop) (ap (λ (m : ℕ). min w (m - w * j)) e))
    (λ q l. let b : q < w = omega (arith, length-take w (drop (w * j) ms)) in
    get_or-take w (drop (w * j) ms) q 0 b ∙ get_or-drop (w * j) ms q 0 ∙ h (w * j + q) (omega arith)
    ∙ sym (get_or-drop (w * j) ms' q 0)
    ∙ sym (get_or-take w (drop (w * j) ms') q 0 b))

-- rows before i are written
pub record Writing (n : ℕ) (t : Tender) (w : ℕ) (bids windows : List ℕ) (i : ℕ) (ms : List ℕ) : Type 0 where
  pub size : length ms ≡ w * n
  pub done : AllMasked i t w bids windows ms

pub writing_starts : (n : ℕ) (t : Tender) (w : ℕ) (bids windows ms : List ℕ) → length ms ≡ w * n
    → Writing n t w bids windows 0 ms
writing_starts n t w bids windows ms e = record { size = e; done = record { each = λ j l. absurd (omega arith) } }

module _ (n : ℕ) (t : Tender) (w : ℕ) (bids windows : List ℕ) (i : ℕ) (ms ys : List ℕ)
    (g : Writing n t w bids windows i ms) (l : i < n)
    (m : Masked t (own windows (bid_row_at bids i)) ys) (e : length ys ≡ length (mid_of (w * i) (w * i + w - w * i) ms)) where
  abbrev new : List ℕ
  new = put_mid (w * i) (w * i + w - w * i) ms ys

  wide : length ys ≡ w
  wide = e ∙ ap length (part_row ms w i) ∙ row_size ms w n i g.size l

  fits : w * i ≤ length ms
  fits = omega (arith, g.size, row_within w n i l)

  front : length (take (w * i) ms) ≡ w * i
  front = length-take-le (w * i) ms fits

  same_size : length new ≡ length ms
  same_size = same_len_mid (w * i) (w * i + w - w * i) ms ys e

  before : (q : ℕ) → q < w * i → get_or new q 0 ≡ get_or ms q 0
  before q h = get_or-append (take (w * i) ms) _ 0 q (omega (arith, front)) ∙ get_or-take (w * i) ms q 0 h

  here : word_row new w i ≡ ys
  unfolding word_row
  here = ap (take w) (drop_at (take (w * i) ms) _ (w * i) front) ∙ take_at ys _ w wide

  pub writing_more : Writing n t w bids windows (i + 1) new
  writing_more = record { size = same_size ∙ g.size; done = record { each = rows } }
    where
      rows : (j : ℕ) → j < i + 1 → Masked t (own windows (bid_row_at bids j)) (word_row new w j)
      rows j h = go (ltb j i) refl
        where
          go : (b : Bool) → ltb j i ≡ b → Masked t (own windows (bid_row_at bids j)) (word_row new w j)
          go true t = rw (word_row_same new ms w j same_size (λ q d. before q (omega (arith, row_within w i j (ltb-true j i t)))))
              (g.done.each j (ltb-true j i t))
          go false t = let d : j ≡ i = omega (arith, ltb-false j i t) in rw (d, here) m

pub writing_ends : (n : ℕ) (t : Tender) (w : ℕ) (bids windows : List ℕ) (i : ℕ) (ms : List ℕ) → Writing n t w bids windows i ms
    → i ≡ n
    → AllMasked n t w bids windows ms
writing_ends n t w bids windows i ms g e = rw e at g.done
