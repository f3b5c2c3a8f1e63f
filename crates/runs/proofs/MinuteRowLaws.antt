-- Rows of minutes: an empty and a full row, windows added one by one, and the runs found one after the other. Assumes nothing.
use Rattle.std.specs.Prelude.{◌≡◌, ◌⊎◌, Bool, true, false, ◌&&◌, ◌||◌, List, [], ◌∷◌, ℕ, zero, suc, ◌+◌}
use Rattle.std.specs.Prelude.{◌-◌, ◌*◌, ◌/◌, ◌%◌, ◌^◌, ◌≤◌, ◌<◌, length, get_or, drop, replicate, leb}
use Rattle.std.proofs.Math.Path.{refl, ap}
use Rattle.std.proofs.Common.{sym, ◌∙◌, inl, inr, ⊎_elim, eq-or-lt_of_le, leb-true, ltb-true, eqb-true}
use Rattle.std.proofs.Math.Bool.{or-false, or_assoc}
use native.Mathlib.Omega.{arith}
use Rattle.std.proofs.lemmas.List.{length-replicate, get_or-replicate}
use Rattle.std.proofs.Math.Dec.{ltb, eqb}
use Rattle.std.proofs.lemmas.Bool.{eqb-false}
use Rattle.tender.specs.declared.Window.{Window}
use Rattle.tender.specs.Limits.{lawful, every}
use Rattle.tender.specs.Tables.{windows_of, window_width, window_at}
use Rattle.cover.specs.Sets.{when}
use Rattle.cover.proofs.SetLaws.{and_split}
use Rattle.cells.specs.Cells.{cell, Cleared, RangeAdded, whole, Next}
use Rattle.cells.proofs.BitLaws.{zero_bit, ones_in}
use Rattle.cells.proofs.StoreLaws.{cell_lt, cell_past, lt_or_le, added}
use Rattle.cells.proofs.FillingLaws.{no_cell}
use Rattle.award_check.specs.Cells.{holds}
use Rattle.award_check.proofs.AlikeLaws.{windows_step}
use Rattle.award_check.proofs.WalkLaws.{rows_ahead, ahead_more, ahead_start}
use Rattle.runs.specs.Runs.{runs}
use Rattle.runs.specs.MinuteRows.{row_words, row_cells, Empty, Full, Minutes, NextRun}
use Rattle.runs.proofs.RunsFewLaws.{begins_here}
use Rattle.runs.proofs.NextLaws.{runs_skip, runs_none, runs_run}
use Rattle.runs.proofs.JoinedLaws.{holds_early}

-- ---- rows without a cell and with every cell

cells_of : (row : List ℕ) (v b : ℕ) → ((k : ℕ) → k < 64 → v / 2 ^ k % 2 ≡ b)
    → ((q : ℕ) → q < row_words → get_or row q 0 ≡ v)
    → (x : ℕ) → x < row_cells → cell row x ≡ b
unfolding cell
cells_of row v b h w x l = ap (λ (u : ℕ). u / 2 ^ (x % 64) % 2) (w (x / 64) (omega arith)) ∙ h (x % 64) (omega arith)

pub cleared_empty : (row : List ℕ) → length row ≡ row_words → Cleared row → Empty row
cleared_empty row l c = record { wide = l; clear = no_cell row c }

empty_of : (row : List ℕ) → length row ≡ row_words → ((q : ℕ) → q < row_words → get_or row q 0 ≡ 0) → Empty row
empty_of row l h = record {
  wide = l;
  clear = λ x. ⊎_elim (λ a. cells_of row 0 0 (λ k b. zero_bit k) h x a) (λ a. cell_past row x (omega arith)) (lt_or_le x row_cells);
}

pub empty_row : (row : List ℕ) → row ≡ replicate {A = ℕ} row_words 0 → Empty row
empty_row row e = empty_of row (ap length e ∙ length-replicate {A = ℕ} row_words 0)
    (λ q l. ap (λ (r : List ℕ). get_or r q 0) e ∙ get_or-replicate {A = ℕ} row_words q 0 0 l)

pub full_row : (row : List ℕ) → row ≡ replicate {A = ℕ} row_words whole → Full row
full_row row e = record {
  wide = ap length e ∙ length-replicate {A = ℕ} row_words whole;
  filled = cells_of row whole 1 (λ k l. ones_in 64 k l)
      (λ q l. ap (λ (r : List ℕ). get_or r q 0) e ∙ get_or-replicate {A = ℕ} row_words q whole 0 l);
}

-- ---- windows added one by one

-- the row has the minutes of the windows passed, and those from j on are left
pub record Adding (windows : List ℕ) (first count j : ℕ) (row : List ℕ) : Type 0 where
  pub wide : length row ≡ row_words
  pub inside : j ≤ count
  pub lawful : rows_ahead windows first count j ≡ true
  pub sets : (x : ℕ) → (eqb (cell row x) 1 || holds (windows_of (count - j) (drop (window_width * (first + j)) windows)) x)
      ≡ holds (windows_of count (drop (window_width * first) windows)) x

pub adding_begins : (windows : List ℕ) (first count : ℕ) (row : List ℕ)
    → every lawful (windows_of count (drop (window_width * first) windows)) ≡ true → Empty row → Adding windows first count 0 row
adding_begins windows first count row e m = record {
  wide = m.wide;
  inside = omega arith;
  lawful = ahead_start windows first count ∙ e;
  sets = λ x.
      let d : count - 0 ≡ count = omega arith in
      let f : first + 0 ≡ first = omega arith in
      ap (λ (v : ℕ). eqb v 1 || holds (windows_of (count - 0) (drop (window_width * (first + 0)) windows)) x) (m.clear x)
      ∙ ap (λ (n : ℕ). holds (windows_of n (drop (window_width * (first + 0)) windows)) x) d
      ∙ ap (λ (i : ℕ). holds (windows_of count (drop (window_width * i) windows)) x) f;
}

module _ (windows : List ℕ) (first count j : ℕ) (row : List ℕ) (g : Adding windows first count j row) where
  -- window j
  abbrev starts_at : ℕ
  starts_at = (window_at windows (first + j)).start

  abbrev ends_at : ℕ
  ends_at = (window_at windows (first + j)).end

  tested : j < count → (ltb starts_at ends_at && leb ends_at 10080 ≡ true) × (rows_ahead windows first count (j + 1) ≡ true)
  tested l = and_split (ltb starts_at ends_at && leb ends_at 10080) (rows_ahead windows first count (j + 1))
      (sym (ahead_more windows first count j l) ∙ g.lawful)

  pub adding_order : j < count → starts_at < ends_at
  adding_order l = ltb-true starts_at ends_at (and_split (ltb starts_at ends_at) (leb ends_at 10080) (tested l).0).0

  pub adding_week : j < count → ends_at ≤ 10080
  adding_week l = leb-true ends_at 10080 (and_split (ltb starts_at ends_at) (leb ends_at 10080) (tested l).0).1

  left : j < count → windows_of (count - j) (drop (window_width * (first + j)) windows)
      ≡ window_at windows (first + j) ∷ windows_of (count - (j + 1)) (drop (window_width * (first + (j + 1))) windows)
  left l =
      let d : count - j ≡ suc (count - (j + 1)) = omega arith in
      let e : first + j + 1 ≡ first + (j + 1) = omega arith in
      ap (λ (c : ℕ). windows_of c (drop (window_width * (first + j)) windows)) d ∙ windows_step (count - (j + 1)) (first + j) windows
      ∙ ap (λ (i : ℕ). window_at windows (first + j) ∷ windows_of (count - (j + 1)) (drop (window_width * i) windows)) e

  pub adding_goes : (new : List ℕ) {s e : ℕ} → j < count → length new ≡ length row → RangeAdded s e row new
      → s ≡ starts_at → e ≡ ends_at → Adding windows first count (j + 1) new
  unfolding holds
  adding_goes new l n f a b = record {
    wide = n ∙ g.wide;
    inside = omega arith;
    lawful = (tested l).1;
    sets = λ x.
        let later = holds (windows_of (count - (j + 1)) (drop (window_width * (first + (j + 1))) windows)) x in
        ap (λ b. b || later) (added starts_at ends_at row new (rw (← a, ← b) f) x)
        ∙ or_assoc (eqb (cell row x) 1) (leb starts_at x && ltb x ends_at) later
        ∙ ap (λ ws. eqb (cell row x) 1 || holds ws x) (sym (left l)) ∙ g.sets x;
  }

  pub adding_ends : count ≤ j → Minutes (windows_of count (drop (window_width * first) windows)) row
  unfolding holds windows_of
  adding_ends l = record { wide = g.wide; is = λ x. go x (holds (windows_of count (drop (window_width * first) windows)) x) refl }
    where
      none : (x : ℕ) → (eqb (cell row x) 1 || holds (windows_of (count - j) (drop (window_width * (first + j)) windows)) x)
          ≡ eqb (cell row x) 1
      none x = let d : count - j ≡ 0 = omega arith in
          ap (λ (c : ℕ). eqb (cell row x) 1 || holds (windows_of c (drop (window_width * (first + j)) windows)) x) d
          ∙ or-false (eqb (cell row x) 1)

      go : (x : ℕ) (b : Bool) → holds (windows_of count (drop (window_width * first) windows)) x ≡ b → cell row x ≡ when b 1
      go x true e = eqb-true (cell row x) 1 (sym (none x) ∙ g.sets x ∙ e)
      go x false e = let d = eqb-false (cell row x) 1 (sym (none x) ∙ g.sets x ∙ e) in bare (cell row x) (cell_lt row x) d
        where
          bare : (v : ℕ) → v < 2 → (v ≡ 1 → ⊥) → v ≡ 0
          bare zero a b = refl
          bare (suc zero) a b = absurd (b refl)
          bare (suc (suc v)) a b = absurd (omega arith)

-- ---- the next run, found by two searches

pub run_found : {row none all : List ℕ} {from start end : ℕ} → length row ≡ row_words → Empty none → Full all
    → Next row none from start → Next all row start end → NextRun row from start end
run_found {row} {none} {all} {from} {start} {end} l n a f g = record {
  on = f.on;
  order = g.on;
  within = omega (arith, g.within, a.wide);
  before = λ x u v. clear x (cell row x) refl (f.none x u v);
  inside = λ x u v. g.none x u v (a.filled x (omega (arith, g.within, a.wide)));
  after = λ h. g.outside (omega (arith, a.wide));
  some = λ h. some h (eq-or-lt_of_le g.on);
}
  where
    clear : (x v : ℕ) → cell row x ≡ v → (cell row x ≡ 1 → cell none x ≡ 1) → cell row x ≡ 0
    clear x zero e h = e
    clear x (suc zero) e h = absurd (omega (arith, h e, n.clear x))
    clear x (suc (suc v)) e h = absurd (omega (arith, cell_lt row x))

    some : start < row_cells → (start ≡ end) ⊎ (start < end) → start < end
    some h (inl e) = absurd (omega (
      arith,
      f.inside (omega (arith, l)),
      g.outside (omega (arith, a.wide)),
      ap (cell row) e,
    ))
    some h (inr e) = e

-- ---- the runs of a row of minutes, one after the other

module _ (ws : List Window) (row : List ℕ) (m : Minutes ws row) where
  out : (x : ℕ) → cell row x ≡ 0 → holds ws x ≡ false
  out x e = go (holds ws x) (m.is x)
    where
      go : (b : Bool) → cell row x ≡ when b 1 → b ≡ false
      go true f = absurd (omega (arith, e))
      go false f = refl

  held : (x : ℕ) → cell row x ≡ 1 → holds ws x ≡ true
  held x e = go (holds ws x) (m.is x)
    where
      go : (b : Bool) → cell row x ≡ when b 1 → b ≡ true
      go true f = refl
      go false f = absurd (omega (arith, e))

module _ (ws : List Window) (row : List ℕ) (m : Minutes ws row) (from start end : ℕ) (r : NextRun row from start end)
    (l : from ≤ 10080) where
  -- no run begins in the week
  pub run_late : 10080 ≤ start → runs (holds ws) from (10080 - from) ≡ []
  run_late h = runs_none (holds ws) from (10080 - from) (λ x a b. out ws row m x (r.before x a (omega arith)))

  -- a run lies in the week
  pub run_inside : every lawful ws ≡ true → start < end → end ≤ 10080
  run_inside e h = omega (arith, holds_early ws (end - 1) e (held ws row m (end - 1) (r.inside (end - 1) (omega arith) (omega arith))))

  -- it is the first, and those from its end on follow
  pub run_next : every lawful ws ≡ true → start < end
      → runs (holds ws) from (10080 - from) ≡ record { start = start; end = end } ∷ runs (holds ws) end (10080 - end)
  run_next e h =
      let u = run_inside e h in
      let a : 10080 - from ≡ (start - from) + (10080 - start) = omega (arith, r.on) in
      let b : from + (start - from) ≡ start = omega (arith, r.on) in
      let c : 10080 - start ≡ suc (end - start - 1) + (10080 - end) = omega arith in
      let d : start + suc (end - start - 1) ≡ end = omega arith in
      ap (runs (holds ws) from) a
      ∙ runs_skip (holds ws) from (start - from) (10080 - start) (λ x p q. out ws row m x (r.before x p (omega arith)))
      ∙ ap (λ (s : ℕ). runs (holds ws) s (10080 - start)) b
      ∙ ap (runs (holds ws) start) c
      ∙ runs_run (holds ws) start (end - start - 1) (10080 - end)
      (λ x p q. held ws row m x (r.inside x p (omega arith))) (ap (λ (z : ℕ). begins_here (holds ws) z (10080 - end)) d
      ∙ stops (10080 - end))
      ∙ ap (λ (z : ℕ). record { start = start; end = z } ∷ runs (holds ws) z (10080 - end)) d
    where
      stops : (n : ℕ) → begins_here (holds ws) end n ≡ false
      stops zero = refl
      stops (suc n) = out ws row m end (r.after (omega (arith, run_inside e h)))
