-- The award rows that a fill writes are the rows that the lists say. Assumes nothing.
use Rattle.std.specs.Prelude.{◌≡◌, refl, List, ◌++◌, Bool, true, false, ℕ, zero, suc, ◌+◌, ◌-◌, ◌≤◌, ◌<◌}
use Rattle.std.specs.Prelude.{length, get_or, set, drop, ltb}
use Rattle.std.proofs.Common.{sym, ap, ◌∙◌, arith, length-set, length-append, length-drop, ext_get_or, get_or-set_same}
use Rattle.std.proofs.Common.{get_or-set_other, get_or-drop, get_or-append-add, ltb-true, ltb-false}
use Rattle.std.proofs.Math.ListN.{get_or-append}
use Rattle.tender.specs.declared.AwardRow.{AwardRow}
use Rattle.award_outcome.specs.Gain.{lost}
use Rattle.award_rule.specs.Plain.{rows_in}
use Rattle.cover.proofs.SettledLaws.{length_listed, get_or_listed}
use Rattle.award_rows.specs.Rows.{award_row_at, rows_written}

pub length_filled : (n : ℕ) (won cents : List ℕ) (rows : List AwardRow) → length (rows_written n won cents rows) ≡ length rows
length_filled zero won cents rows = refl
length_filled (suc i) won cents rows = length-set (rows_written i won cents rows) i (award_row_at won cents i)
    ∙ length_filled i won cents rows

written : (n : ℕ) (won cents : List ℕ) (rows : List AwardRow) (i : ℕ) → n ≤ length rows → i < n
    → get_or (rows_written n won cents rows) i lost ≡ award_row_at won cents i
written zero won cents rows i h l = absurd (omega arith)
written (suc n) won cents rows i h l = go (ltb i n) refl (written n won cents rows i)
  where
    go : (b : Bool) → ltb i n ≡ b → (n ≤ length rows → i < n
        → get_or (rows_written n won cents rows) i lost ≡ award_row_at won cents i)
        → get_or (set (rows_written n won cents rows) n (award_row_at won cents n)) i lost ≡ award_row_at won cents i
    go true t ih = get_or-set_other (rows_written n won cents rows) n i (award_row_at won cents n) lost (λ e. omega (
      arith,
      ltb-true i n t,
    ))
        ∙ ih (omega arith) (ltb-true i n t)
    go false t ih =
        let d : i ≡ n = omega (arith, ltb-false i n t) in
        ap (λ (j : ℕ). get_or (set (rows_written n won cents rows) n (award_row_at won cents n)) j lost) d
        ∙ get_or-set_same (rows_written n won cents rows) n (award_row_at won cents n) lost (omega (
          arith,
          length_filled n won cents rows,
        ))
        ∙ ap (award_row_at won cents) (sym d)

kept : (n : ℕ) (won cents : List ℕ) (rows : List AwardRow) (i : ℕ) → n ≤ i
    → get_or (rows_written n won cents rows) i lost ≡ get_or rows i lost
kept zero won cents rows i l = refl
kept (suc n) won cents rows i l = get_or-set_other (rows_written n won cents rows) n i (award_row_at won cents n) lost (λ e. omega arith)
    ∙ kept n won cents rows i (omega arith)

pub filled_rows : (n : ℕ) (won cents : List ℕ) (rows : List AwardRow) → n ≤ length rows
    → rows_written n won cents rows ≡ rows_in n won cents
    ++ drop n rows
unfolding rows_in
filled_rows n won cents rows h = ext_get_or lost (rows_written n won cents rows) (rows_in n won cents ++ drop n rows)
    (length_filled n won cents rows ∙ sym (length-append (rows_in n won cents) (drop n rows) ∙ omega (arith, size, length-drop n rows)))
    (λ i l. go i (ltb i n) refl)
  where
    size : length (rows_in n won cents) ≡ n
    size = length_listed n (award_row_at won cents)

    go : (i : ℕ) (b : Bool) → ltb i n ≡ b → get_or (rows_written n won cents rows) i lost
        ≡ get_or (rows_in n won cents ++ drop n rows) i lost
    go i true t =
        written n won cents rows i h (ltb-true i n t)
        ∙ sym (get_or-append (rows_in n won cents) (drop n rows) lost i (omega (arith, size, ltb-true i n t))
        ∙ get_or_listed n (award_row_at won cents) i lost (ltb-true i n t))
    go i false t =
        let d : n + (i - n) ≡ i = omega (arith, ltb-false i n t) in
        let e : length (rows_in n won cents) + (i - n) ≡ i = omega (arith, size, ltb-false i n t) in
        kept n won cents rows i (ltb-false i n t) ∙ ap (λ (j : ℕ). get_or rows j lost) (sym d)
        ∙ sym (get_or-drop n rows (i - n) lost)
        ∙ sym (get_or-append-add (rows_in n won cents) (drop n rows) (i - n) lost)
        ∙ ap (λ (j : ℕ). get_or (rows_in n won cents ++ drop n rows) j lost) e
