-- A right outcome is one award or one refusal, in the order of paper 01. Assumes nothing.
use Rattle.std.proofs.Math.Path.{◌≡◌, refl, ap}
use Rattle.std.proofs.Common.{sym, ◌∙◌, ltb-true, ltb-false}
use Rattle.std.specs.Prelude.{List, ◌++◌, Bool, true, false, cond, ℕ, ◌+◌, ◌-◌, ◌≤◌, length, ltb, Some, None}
use Rattle.std.proofs.Math.Option.{Option, none, some}
use native.Mathlib.Omega.{arith}
use Rattle.std.proofs.Math.ListN.{drop}
use Rattle.tender.specs.declared.Kind.{Kind}
use Rattle.tender.specs.Types.{Reserve}
use Rattle.tender.specs.declared.Tender.{Tender}
use Rattle.tender.specs.declared.Refusal.{Refusal}
use Rattle.tender.specs.declared.Refusal.TheVariants.{BadTables, RowsTooFew}
use Rattle.cover.specs.Sets.{Found, nothing, found, bidders}
use Rattle.cover.specs.Earliest.{cell_with}
use Rattle.cover.proofs.EarliestLaws.{cell_found, one_at, two_at}
use Rattle.cover.proofs.SettledLaws.{length_listed}
use Rattle.award_check.specs.Faults.{fault_of}
use Rattle.award_check.specs.Cells.{minute_of}
use Rattle.award_check.specs.Auction.{houses, Auction, auction_of, thin_cell}
use Rattle.award_check.proofs.AuctionLaws.{minutes, cells_are, owners_are, thin_told, none_thin}
use Rattle.tender.specs.declared.AwardRow.{AwardRow}
use Rattle.tender.specs.Types.{Answer}
use Rattle.award_rule.specs.Award.{rule, Outcome, awarded, refused, award_rows, totals_of, uncovered, lone, thinned, settled}
use Rattle.award_rule.specs.Award.{outcome_number}
use Rattle.award_outcome.specs.Promise.{lent_after, told_award, Promise}
use Rattle.award_outcome.specs.Right.{Callable, Bidders, EarliestIn, IsAward, IsRefusal, OneAnswer, tables_break_a_rule}
use Rattle.award_outcome.specs.Right.{rows_too_few}
use Rattle.award_outcome.specs.Right.{minute_uncovered, one_bidder, award}
use Rattle.award_rule.proofs.AwardLaws.{award_none, award_nine, award_settles}

module _ (k : Kind) (t : Tender) (n : ℕ) (bids windows : List ℕ) (old new : List AwardRow) (a : Answer)
    (p : Promise k t n bids windows old new a) where
  abbrev o : Outcome
  o = told_award n new a

  abbrev A : Auction
  A = auction_of t n bids windows

  refusal : (r : Refusal) → o ≡ refused r → IsRefusal r old new o
  unfolding lent_after
  refusal r e = record { outcome = e; lent = p.rows ∙ ap (lent_after old) e }

  is_award : o ≡ awarded (award_rows (rule k) A) (totals_of (rule k) A) → IsAward (rule k) A old new o
  unfolding lent_after award_rows
  is_award e = record {
    outcome = e;
    lent = p.rows ∙ ap (lent_after old) e ∙ ap (λ (m : ℕ). award_rows (rule k) A ++ drop m old) (length_listed A.owners _);
  }

  -- a cell found is the earliest minute
  at_cell : (b x : ℕ) → cell_with A.has n A.cells b ≡ found x → EarliestIn t A (t.window.start + x) b
  at_cell b x e =
      let h = cell_found A.has n A.cells b x e in
      let s : t.window.start + x - t.window.start ≡ x = omega arith in
      let c = minutes t n bids windows in
      record {
        from = omega arith;
        to = omega (arith, h.inside);
        bids_with_it = rw (owners_are t n bids windows) (ap (bidders A.has n) s ∙ h.here);
        earliest = rw (owners_are t n bids windows) (λ m l k. h.before (m - t.window.start) (omega arith));
      }

  module _ (s : Callable k t n bids windows (length old)) (g : ltb (length old) n ≡ false) where
    settles : (x y : Found) → thin_cell A 0 ≡ x → thin_cell A 1 ≡ y
        → o ≡ thinned (uncovered t) (lone t) x y (awarded (award_rows (rule k) A) (totals_of (rule k) A))
    settles x y d e = p.answers ∙ award_settles k t n bids windows (length old) s.sound g x y d e

    -- with a reserve no cell is thin
    reserved_award : (q : ℕ) → t.reserve ≡ Some q → OneAnswer k t n bids windows old new o
    unfolding thinned
    reserved_award q u = award s (λ v. let z : ◌≡◌ {A = ℕ} 0 1 = ap houses (sym v ∙ u) in absurd (omega arith))
        (is_award (settles nothing nothing (none_thin t n bids windows q u 0) (none_thin t n bids windows q u 1)))

    owners_award : t.reserve ≡ None → OneAnswer k t n bids windows old new o
    unfolding thinned uncovered lone minute_of
    owners_award u = go (cell_with A.has n A.cells 0) (cell_with A.has n A.cells 1) refl refl
      where
        told : (m : ℕ) (x : Found) → cell_with A.has n A.cells m ≡ x → thin_cell A m ≡ x
        told m x e = thin_told t n bids windows u m ∙ rw (← cells_are t n bids windows) e

        go : (x y : Found) → cell_with A.has n A.cells 0 ≡ x → cell_with A.has n A.cells 1 ≡ y
            → OneAnswer k t n bids windows old new o
        go (found x) y d e = minute_uncovered (t.window.start + x) s u (at_cell 0 x d)
            (refusal (uncovered t x) (settles (found x) y (told 0 (found x) d) (told 1 y e)))
        go nothing (found x) d e = one_bidder (t.window.start + x) s u
            (rw (owners_are t n bids windows) (one_at A.has n A.cells d)) (at_cell 1 x e)
            (refusal (lone t x) (settles nothing (found x) (told 0 nothing d) (told 1 (found x) e)))
        go nothing nothing d e = award s (λ _. rw (owners_are t n bids windows) (two_at A.has n A.cells d e))
            (is_award (settles nothing nothing (told 0 nothing d) (told 1 nothing e)))

    cover : (r : Reserve) → t.reserve ≡ r → OneAnswer k t n bids windows old new o
    cover None u = owners_award u
    cover (Some q) u = reserved_award q u

  pub one_answer : OneAnswer k t n bids windows old new o
  one_answer = fault (fault_of k t n bids windows) refl
    where
      rows : fault_of k t n bids windows ≡ none → (b : Bool) → ltb (length old) n ≡ b → OneAnswer k t n bids windows old new o
      rows f true g = rows_too_few f (ltb-true (length old) n g)
          (refusal RowsTooFew (p.answers ∙ award_none k t n bids windows (length old) f
          ∙ ap (λ z. cond z (refused RowsTooFew) (settled (rule k) A (uncovered t) (lone t))) g))
      rows f false g = cover (record { sound = f; rows = ltb-false (length old) n g }) g t.reserve refl

      fault : (m : Option ℕ) → fault_of k t n bids windows ≡ m → OneAnswer k t n bids windows old new o
      fault none e = rows e (ltb (length old) n) refl
      fault (some q) e = tables_break_a_rule q e (refusal (BadTables q) (p.answers ∙ award_nine k t n bids windows (length old) q e))

  few : (m b : ℕ) → Bidders A 2 → EarliestIn t A m b → 2 ≤ b
  few m b two i = omega (
    arith,
    i.bids_with_it,
    two (m - t.window.start) (omega (arith, i.from, i.to, minutes t n bids windows)),
  )

  -- nothing else is declined: where no rule is broken, each bid has a row and, without a reserve, each minute two bidders, it awards
  pub awards : Callable k t n bids windows (length old) → (t.reserve ≡ None → Bidders A 2) → IsAward (rule k) A old new o
  awards s two = go one_answer
    where
      go : OneAnswer k t n bids windows old new o → IsAward (rule k) A old new o
      go (tables_break_a_rule q e r) = let f = s.sound in let z : ◌≡◌ {A = ℕ} 0 1 = cc in absurd (omega arith)
      go (rows_too_few f l r) = absurd (omega (arith, s.rows))
      go (minute_uncovered m c u i r) = absurd (omega (arith, few m 0 (two u) i))
      go (one_bidder m c u b i r) = absurd (omega (arith, few m 1 (two u) i))
      go (award c b w) = w

  -- with a reserve neither 11 nor 12 is told
  pub reserve_serves : (q : ℕ) → t.reserve ≡ Some q → (outcome_number o ≡ 11 → ⊥) × (outcome_number o ≡ 12 → ⊥)
  unfolding outcome_number
  reserve_serves q u = go one_answer
    where
      absent : t.reserve ≡ None → ⊥
      absent v = let z : ◌≡◌ {A = ℕ} 0 1 = ap houses (sym v ∙ u) in omega arith

      go : OneAnswer k t n bids windows old new o → (outcome_number o ≡ 11 → ⊥) × (outcome_number o ≡ 12 → ⊥)
      go (tables_break_a_rule r e x) = rw x.outcome (λ z. omega arith, λ z. omega arith)
      go (rows_too_few f l x) = rw x.outcome (λ z. omega arith, λ z. omega arith)
      go (minute_uncovered m c v i x) = absurd (absent v)
      go (one_bidder m c v b i x) = absurd (absent v)
      go (award c b w) = rw w.outcome (λ z. omega arith, λ z. omega arith)
