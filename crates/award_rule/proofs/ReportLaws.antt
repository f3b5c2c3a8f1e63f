-- Flags and cents of all entries reported to two lent lists: the first ones are those of the owners. Assumes nothing.
use Rattle.std.specs.Prelude.{◌≡◌, refl, ℕ, ◌≤◌, ◌<◌, length, eqb, Ok, Err}
use Rattle.std.proofs.Math.Path.{sym, ap}
use Rattle.std.proofs.Common.{◌∙◌, arith}
use mathlib.Core.List.{List, ◌++◌}
use Rattle.std.proofs.Math.ListN.{get_or, drop, get_or-append}
use Rattle.tender.specs.declared.Kind.{Kind}
use Rattle.tender.specs.declared.Tender.{Tender}
use Rattle.tender.specs.declared.Totals.{Totals}
use Rattle.tender.specs.declared.AwardRow.{AwardRow}
use Rattle.tender.specs.Types.{Answer}
use Rattle.cover.specs.Sets.{when}
use Rattle.cover.proofs.SetLaws.{when_is}
use Rattle.cover.specs.Settled.{listed, FilledTo}
use Rattle.cover.proofs.SettledLaws.{length_listed, get_or_listed, listed_same, map_listed, listed_of}
use Rattle.award_rule.specs.Award.{awarded, award_of}
use Rattle.award_rule.specs.Plain.{row_of, rows_in, told_in, won_after, cents_after, PlainPromise}

-- what a list has after the places of n entries were written
module _ (n : ℕ) (flags pays old new : List ℕ) (totals : Totals) (room : n ≤ length old) where
  rows_count : length (rows_in n flags pays) ≡ n
  unfolding rows_in
  rows_count = length_listed n (λ i. row_of (get_or flags i 0) (get_or pays i 0))

  pub flags_written : FilledTo (λ i. when (eqb (get_or flags i 0) 1) 1) old new n
      → new ≡ won_after old (told_in n flags pays (Ok totals))
  unfolding won_after told_in rows_in
  flags_written h = listed_of n (λ i. when (eqb (get_or flags i 0) 1) 1) old new room h
      ∙ sym (ap (λ (xs : List ℕ). xs ++ drop (length (rows_in n flags pays)) old)
      (map_listed n (λ i. row_of (get_or flags i 0) (get_or pays i 0)) (λ r. when r.won 1))
      ∙ ap (λ (m : ℕ). listed n (λ i. when (eqb (get_or flags i 0) 1) 1) ++ drop m old) rows_count)

  pub cents_written : FilledTo (λ i. get_or pays i 0) old new n → new ≡ cents_after old (told_in n flags pays (Ok totals))
  unfolding cents_after told_in rows_in
  cents_written h = listed_of n (λ i. get_or pays i 0) old new room h
      ∙ sym (ap (λ (xs : List ℕ). xs ++ drop (length (rows_in n flags pays)) old)
      (map_listed n (λ i. row_of (get_or flags i 0) (get_or pays i 0)) (λ r. r.cents))
      ∙ ap (λ (m : ℕ). listed n (λ i. get_or pays i 0) ++ drop m old) rows_count)

-- the lent lists tell what the entries' lists tell
told_again : (n : ℕ) (flags pays won cents won' cents' : List ℕ) (a : Answer) → won' ≡ won_after won (told_in n flags pays a)
    → cents' ≡ cents_after cents (told_in n flags pays a) → told_in n won' cents' a ≡ told_in n flags pays a
unfolding told_in won_after cents_after rows_in
told_again n flags pays won cents won' cents' (Err r) u v = refl
told_again n flags pays won cents won' cents' (Ok totals) u v =
    ap (λ rows. awarded rows totals) (listed_same n (λ i. row_of (get_or won' i 0) (get_or cents' i 0))
    (λ i. row_of (get_or flags i 0) (get_or pays i 0)) (λ i l. rw (flag_at i l, pay_at i l)))
  where
    row : ℕ → AwardRow
    row i = row_of (get_or flags i 0) (get_or pays i 0)

    flag_at : (i : ℕ) → i < n → eqb (get_or won' i 0) 1 ≡ eqb (get_or flags i 0) 1
    flag_at i l = ap (λ (v : ℕ). eqb v 1) (ap (λ (xs : List ℕ). get_or xs i 0)
        (u ∙ ap (λ (xs : List ℕ). xs ++ drop (length (listed n row)) won)
        (map_listed n row (λ r. when r.won 1)))
        ∙ get_or-append (listed n (λ i. when (eqb (get_or flags i 0) 1) 1)) _ 0 i
        (omega (arith, length_listed n (λ i. when (eqb (get_or flags i 0) 1) 1)))
        ∙ get_or_listed n (λ i. when (eqb (get_or flags i 0) 1) 1) i 0 l)
        ∙ when_is (eqb (get_or flags i 0) 1)

    pay_at : (i : ℕ) → i < n → get_or cents' i 0 ≡ get_or pays i 0
    pay_at i l = ap (λ (xs : List ℕ). get_or xs i 0) (v ∙ ap (λ (xs : List ℕ). xs ++ drop (length (listed n row)) cents)
        (map_listed n row (λ r. r.cents)))
        ∙ get_or-append (listed n (λ i. get_or pays i 0)) _ 0 i (omega (arith, length_listed n (λ i. get_or pays i 0)))
        ∙ get_or_listed n (λ i. get_or pays i 0) i 0 l

pub reported : (k : Kind) (t : Tender) (n : ℕ) (bids windows flags pays won cents won' cents' : List ℕ) (a : Answer)
    → told_in n flags pays a ≡ award_of k t n bids windows n → won' ≡ won_after won (told_in n flags pays a)
    → cents' ≡ cents_after cents (told_in n flags pays a) → PlainPromise k t n bids windows n won cents won' cents' a
reported k t n bids windows flags pays won cents won' cents' a e u v =
    let z = told_again n flags pays won cents won' cents' a u v in
    record { answers = z ∙ e; won_are = u ∙ sym (ap (won_after won) z); cents_are = v ∙ sym (ap (cents_after cents) z) }
