-- What a call over plain lists promises, read as award rows: with the rows that its lists say filled in, it keeps the promise
-- that the demands are stated of. Assumes nothing.
use Rattle.std.specs.Prelude.{◌≡◌, refl, List, ◌++◌, ℕ, ◌≤◌, length, drop, Ok, Err}
use Rattle.std.proofs.Common.{sym, ap, subst, ◌∙◌, arith, take_at, ltb-false}
use Rattle.tender.specs.declared.Kind.{Kind}
use Rattle.tender.specs.declared.Tender.{Tender}
use Rattle.tender.specs.declared.Totals.{Totals}
use Rattle.tender.specs.declared.AwardRow.{AwardRow}
use Rattle.tender.specs.Types.{Answer}
use Rattle.award_rule.specs.Award.{awarded}
use Rattle.award_outcome.specs.Promise.{lent_after, told_award, Promise, rows_filled}
use Rattle.award_layout.specs.LayoutLaws.{orderly}
use Rattle.award_rule.specs.Plain.{rows_in, told_in, PlainPromise}
use Rattle.cover.proofs.SettledLaws.{length_listed}
use Rattle.award_rule.proofs.AwardLaws.{award_awarded}

rows_count : (n : ℕ) (won cents : List ℕ) → length (rows_in n won cents) ≡ n
unfolding rows_in
rows_count n won cents = length_listed n _

-- the rows after an award are those that `fill` leaves
pub after_fill : (n : ℕ) (won cents : List ℕ) (totals : Totals) (old : List AwardRow)
    → lent_after old (told_in n won cents (Ok totals)) ≡ rows_in n won cents ++ drop n old
unfolding lent_after told_in
after_fill n won cents totals old = ap (λ (m : ℕ). rows_in n won cents ++ drop m old) (rows_count n won cents)

-- the rows then told are the same as the lists told
same_told : (n : ℕ) (won cents : List ℕ) (a : Answer) (old : List AwardRow)
    → told_award n (lent_after old (told_in n won cents a)) a ≡ told_in n won cents a
unfolding told_award told_in lent_after
same_told n won cents (Ok totals) old =
    ap (λ (rows : List AwardRow). awarded rows totals)
    (take_at (rows_in n won cents) (drop (length (rows_in n won cents)) old) n (rows_count n won cents))
same_told n won cents (Err r) old = refl

-- with `old` award rows lent and filled from the lists, the call keeps the promise of an award on rows
pub rows_promise : (k : Kind) (t : Tender) (n : ℕ) (bids windows : List ℕ) (old : List AwardRow) (ow oc nw nc : List ℕ) (a : Answer)
    → PlainPromise k t n bids windows (length old) ow oc nw nc a →
    Promise k t n bids windows old (lent_after old (told_in n nw nc a)) a
rows_promise k t n bids windows old ow oc nw nc a p = record {
  answers = same_told n nw nc a old ∙ p.answers;
  rows = ap (lent_after old) (sym (same_told n nw nc a old));
}

-- an answer fills no more rows than are lent, and no more than there can be bids
pub rows_fit : (k : Kind) (t : Tender) (n : ℕ) (bids windows : List ℕ) (lent : ℕ) (ow oc nw nc : List ℕ) (a : Answer)
    → PlainPromise k t n bids windows lent ow oc nw nc a →
    (rows_filled a n ≤ lent) × (rows_filled a n ≤ 1000)
unfolding rows_filled told_in
rows_fit k t n bids windows lent ow oc nw nc (Ok totals) p =
    let w = award_awarded k t n bids windows lent (rows_in n nw nc) totals p.answers in
    (ltb-false lent n w.enough, (orderly k t n bids windows w.sound).few)
rows_fit k t n bids windows lent ow oc nw nc (Err r) p = (omega arith, omega arith)

-- the rows that `fill` leaves, of as many bids as the answer fills, are those after the call
pub after_filled : (n : ℕ) (won cents : List ℕ) (a : Answer) (old : List AwardRow)
    → lent_after old (told_in n won cents a) ≡ rows_in (rows_filled a n) won cents ++ drop (rows_filled a n) old
unfolding lent_after told_in rows_filled rows_in
after_filled n won cents (Ok totals) old = after_fill n won cents totals old
after_filled n won cents (Err r) old = refl

-- with the rows filled from the lists, as many as the answer fills, the call keeps the promise of an award on rows
pub filled_promise : (k : Kind) (t : Tender) (n : ℕ) (bids windows : List ℕ) (old new : List AwardRow) (ow oc nw nc : List ℕ)
    (a : Answer)
    (m : ℕ) → PlainPromise k t n bids windows (length old) ow oc nw nc a →
    m ≡ rows_filled a n → new ≡ rows_in m nw nc ++ drop m old → Promise k t n bids windows old new a
filled_promise k t n bids windows old new ow oc nw nc a m p e f =
    subst (λ (rows : List AwardRow). Promise k t n bids windows old rows a)
    (after_filled n nw nc a old ∙ ap (λ (j : ℕ). rows_in j nw nc ++ drop j old) (sym e) ∙ sym f)
    (rows_promise k t n bids windows old ow oc nw nc a p)
