-- Laws of a row walked by its hops: counting and clearing. Assumes nothing.
use Rattle.std.specs.Prelude.{◌≡◌, refl, List, ℕ, zero, suc, ◌+◌, ◌-◌, ◌*◌, ◌/◌, ◌%◌, ◌^◌, ◌≤◌}
use Rattle.std.specs.Prelude.{◌<◌, length, get_or}
use Rattle.std.proofs.Common.{sym, ap, ◌∙◌, ⊎_elim, mod-eq_of_lt, arith}
use Rattle.std.specs.Int.Bits.{bit_and, and_zero_r}
use Rattle.std.proofs.lemmas.Nat.{and_mask}
use Rattle.std.specs.Int.Count.{ones}
use Rattle.cells.specs.Cells.{cell, total, both, whole}
use Rattle.cells_count.specs.Hops.{Hops, cells_to, counted_to, Counted, Onward}
use Rattle.cells.proofs.BitLaws.{zero_bit}
use Rattle.cells_count.specs.SumLaws.{word_more}
use Rattle.cells_count.specs.CountsLaws.{cells_next, cells_grow}
use Rattle.cells.proofs.StoreLaws.{lt_or_le, Swept}

abbrev at : List ℕ → ℕ → ℕ
at xs q = get_or xs q 0

pub none_counted : ones 0 ≡ 0
unfolding ones
none_counted = refl

module _ (held mask : List ℕ) (fits : (p : ℕ) → at held p < 2 ^ 64) where
  -- a word without a cell adds nothing
  bare_word : (q : ℕ) → at mask q ≡ 0 → total (both held mask) (64 * (q + 1)) ≡ total (both held mask) (64 * q)
  bare_word q e = word_more held mask q (fits q) ∙ rw (e, and_zero_r (at held q), none_counted) (omega arith)

  pub gap_more : (q d : ℕ) → ((p : ℕ) → q < p → p < q + 1 + d → at mask p ≡ 0)
      → total (both held mask) (64 * (q + 1 + d)) ≡ total (both held mask) (64 * (q + 1))
  gap_more q zero h = ap (λ (x : ℕ). total (both held mask) (64 * x)) (omega arith)
  gap_more q (suc d) h =
      ap (λ (x : ℕ). total (both held mask) (64 * x)) (sym e) ∙ bare_word (q + 1 + d) (h (q + 1 + d) (omega arith) (omega arith))
      ∙ gap_more q d (λ p a b. h p a (omega arith))
    where
      e : q + 1 + d + 1 ≡ q + 1 + suc d
      e = omega arith

  -- a whole word adds all its cells
  whole_word : (q : ℕ) → at mask q ≡ whole → total (both held mask) (64 * (q + 1)) ≡ total (both held mask) (64 * q)
      + ones (at held q)
  whole_word q e = word_more held mask q (fits q) ∙ rw e
      (ap (λ (x : ℕ). total (both held mask) (64 * q) + ones x) (and_mask (at held q) 64 ∙ mod-eq_of_lt (fits q)))

  pub run_more : (q d : ℕ) → ((p : ℕ) → q ≤ p → p < q + d → at mask p ≡ whole)
      → total (both held mask) (64 * (q + d)) + cells_to held q
      ≡ total (both held mask) (64 * q) + cells_to held (q + d)
  run_more q zero h = let e : q + 0 ≡ q = omega arith in rw e
  run_more q (suc d) h = let e : q + suc d ≡ q + d + 1 = omega arith in
      rw e (omega (
        arith,
        whole_word (q + d) (h (q + d) (omega arith) (omega arith)),
        cells_next held (q + d),
        run_more q d (λ p a b. h p a (omega arith)),
      ))

-- ---- reach: from word q to word e
module _ (held mask hop : List ℕ) (fits : (p : ℕ) → at held p < 2 ^ 64) (h : Hops mask hop) (q : ℕ) (l : q < length mask) where
  between : (e : ℕ) → q < e → q + (e - q) ≡ e
  between e a = omega arith

  reach_run : at mask q ≡ whole → total (both held mask) (64 * at hop q) + cells_to held q ≡ total (both held mask) (64 * q)
      + cells_to held (at hop q)
  reach_run w = rw (between (at hop q) (h.on q l)) at (run_more held mask fits q (at hop q - q) (λ p x y. h.run q l w p x (omega arith)))

  run_grows : cells_to held q ≤ cells_to held (at hop q)
  run_grows = rw (between (at hop q) (h.on q l)) at (cells_grow held q (at hop q - q))

  -- a run of whole words adds the difference of two sums
  pub run_sum : {counts : List ℕ} (e sum : ℕ) → e ≡ at hop q → Counted held counts → e ≤ counted_to held counts
      → at mask q ≡ whole
      → sum ≡ total (both held mask) (64 * q)
      → (at counts q ≤ at counts e) × (sum + (at counts e - at counts q) ≡ total (both held mask) (64 * e))
  run_sum {counts} e sum d k c w s = rw d (omega (arith, before, after, run_grows), omega (arith, before, after, run_grows, reach_run w, s))
    where
      before : at counts q ≡ cells_to held q
      before = k.each q (omega (arith, h.on q l))

      after : at counts (at hop q) ≡ cells_to held (at hop q)
      after = k.each (at hop q) (omega arith)

  pub reach_gap : (at mask q ≡ whole → ⊥) → total (both held mask) (64 * at hop q) ≡ total (both held mask) (64 * q)
      + ones (bit_and (at held q) (at mask q))
  reach_gap n = let e : q + 1 + (at hop q - (q + 1)) ≡ at hop q = omega (arith, h.on q l) in
      rw e at (gap_more held mask fits q (at hop q - (q + 1)) (λ p x y. h.gap q l n p x (omega arith))) ∙ word_more held mask q (fits q)

-- ---- close: the words before q are done
pub bare_cells : (mask : List ℕ) (x : ℕ) → at mask (x / 64) ≡ 0 → cell mask x ≡ 0
unfolding cell
bare_cells mask x e = rw e (zero_bit (x % 64))

pub swept_on : (q r : ℕ) (old mask new : List ℕ) → Swept (q + 1) old mask new → Onward mask q r → Swept r old mask new
swept_on q r old mask new s o = record {
  done = λ x l. ⊎_elim (λ a. s.done x a) (λ a. s.rest x a
      ∙ omega (arith, bare_cells mask x (o.gap (x / 64) (omega arith) (omega arith)))) (lt_or_le x (64 * (q + 1)));
  rest = λ x l. s.rest x (omega (arith, o.on));
}

-- no cell is cleared before the first word that has one
pub swept_first : (r : ℕ) (old mask : List ℕ) → ((p : ℕ) → p < r → at mask p ≡ 0) → Swept r old mask old
swept_first r old mask h = record {
  done = λ x l. omega (arith, bare_cells mask x (h (x / 64) (omega arith)));
  rest = λ x l. refl;
}

pub onward_gap : (mask hop : List ℕ) (q : ℕ) → Hops mask hop → q < length mask → (at mask q ≡ whole → ⊥)
    → Onward mask q (at hop q)
onward_gap mask hop q h l n = record { on = h.on q l; within = h.within q l; gap = h.gap q l n }

-- a first word without a cell is followed by others without one
pub first_gap : (mask hop : List ℕ) → Hops mask hop → 0 < length mask → at mask 0 ≡ 0 → (at hop 0 ≤ length mask)
    × ((p : ℕ) → p < at hop 0 → at mask p ≡ 0)
first_gap mask hop h l e = (
  h.within 0 l,
  λ p a. ⊎_elim (λ z. h.gap 0 l (λ w. omega (arith, e, w)) p z a)
      (λ z. let y : p ≡ 0 = omega arith in rw y e) (lt_or_le 0 p),
)
