-- What a right outcome says of gains, winners and payments. Assumes nothing.
use Rattle.std.specs.Prelude.{◌≡◌, refl, List, [], ◌∷◌, true, ℕ, zero, suc, ◌≤◌, ◌<◌, length, get_or, ltb, leb}
use Rattle.std.proofs.Common.{sym, ap, ◌∙◌, arith}
use Rattle.tender.specs.declared.Kind.{Kind}
use Rattle.tender.specs.declared.Tender.{Tender}
use Rattle.tender.specs.declared.Totals.{Totals}
use Rattle.cover.specs.LeastCover.{winners, without}
use Rattle.cover.proofs.LeastCoverLaws.{tie}
use Rattle.cover.proofs.SpareLaws.{least_wins}
use Rattle.award_check.specs.Auction.{auction_of, at_price}
use Rattle.award_check.proofs.AuctionLaws.{owners_are, entries, with_reserve, EntryAt, owner, house, past, entry_at}
use Rattle.award_check.specs.Alike.{named, Alike, Withheld}
use Rattle.award_check.proofs.AlikeLaws.{faultless, alike_withheld}
use Rattle.tender.specs.declared.AwardRow.{AwardRow}
use Rattle.award_rule.specs.Award.{least_cost, greedy, rule, covers_in, won, totals_of, Outcome, awarded, refused, outcome_number, award_of}
use Rattle.award_outcome.specs.Gain.{row_for, gain, AtMost}
use Rattle.award_outcome.specs.Right.{LeastCover, WinnerAt, by_owner, by_house, PaidByEight}
use Rattle.award_rule.proofs.AwardLaws.{won_least, cents_least, no_fault, AwardOn, award_awarded, spared, all_spared}
use Rattle.award_outcome.proofs.SettleLaws.{row_in, cost_least, house_least, house_wins, largest, vcg_pays, Winner, winners_cover}
use Rattle.award_outcome.proofs.TableLaws.{award_withheld, row_is, row_fair}

-- Two tenders that neither answer refuses with 9, each with an award row for every bid or each with fewer; the first names the true cost
-- of bid i.
module _ (k : Kind) (t : Tender) (n i : ℕ) (bids windows bids' windows' : List ℕ) (lent lent' : ℕ) (a a' : Outcome)
    (l : i < n) (e : ltb lent n ≡ ltb lent' n)
    (x : a ≡ award_of k t n bids windows lent) (x' : a' ≡ award_of k t n bids' windows' lent')
    (h : outcome_number a ≡ 9 → ⊥) (h' : outcome_number a' ≡ 9 → ⊥) where
  -- The second is alike but for that bid, which offers part of its minutes: its gain there is no higher.
  pub withheld_outcome : Withheld n i bids windows bids' windows'
      → AtMost (gain (named bids i) (row_for a' i)) (gain (named bids i) (row_for a i))
  unfolding named
  withheld_outcome w = rw (x, x') (award_withheld k t n i bids windows l (no_fault k t n bids windows lent a x h) bids' windows' lent
      lent' (no_fault k t n bids' windows' lent' a' x' h') w e)

  -- The same where it offers them all.
  pub honest_outcome : Alike n i bids windows bids' windows'
      → AtMost (gain (named bids i) (row_for a' i)) (gain (named bids i) (row_for a i))
  honest_outcome d = withheld_outcome (alike_withheld t n i bids windows bids' windows' l
      (faultless k t n bids windows (no_fault k t n bids windows lent a x h)).rows d)

-- no winner is paid less than it named
pub no_loss : (k : Kind) (t : Tender) (n i : ℕ) (bids windows : List ℕ) (lent : ℕ) (a : Outcome) → i < n
    → a ≡ award_of k t n bids windows lent →
    (row_for a i).won ≡ true → named bids i ≤ (row_for a i).cents
unfolding named row_for
no_loss k t n i bids windows lent (awarded rows totals) l x e =
    row_fair k t n bids windows lent rows totals (award_awarded k t n bids windows lent rows totals x) i l e
no_loss k t n i bids windows lent (refused r) l x e = let z : ◌≡◌ {A = ℕ} 0 1 = cc in absurd (omega arith)

pub least_cover : (k : Kind) (t : Tender) (n : ℕ) (bids windows : List ℕ) (lent : ℕ) (rows : List AwardRow) (totals : Totals)
    → rule k ≡ least_cost → awarded rows totals ≡ award_of k t n bids windows lent
    → LeastCover (auction_of t n bids windows) rows totals
least_cover k t n bids windows lent rows totals e x =
    let w = award_awarded k t n bids windows lent rows totals x in
    let A = auction_of t n bids windows in
    let ok = covers_in A in
    let v = least_wins A.has A.prices A.cells (all_spared k t n bids windows lent rows totals w) in
    let c = ap (λ z. z.cost) (w.settles.totals_are ∙ ap (λ r. totals_of r A) e) ∙ cost_least A in
    record {
      set = winners ok A.prices;
      below = v.inside;
      members = λ i l. ap (λ r. r.won) (row_is k t n bids windows lent rows totals w i (rw (owners_are t n bids windows) at l))
          ∙ ap (λ r. won r A i) e ∙ won_least A i (length A.prices) refl;
      house_is = ap (λ z. z.house) (w.settles.totals_are ∙ ap (λ r. totals_of r A) e) ∙ house_least A;
      all_covered = v.good;
      cost_is = c;
      least = λ s l g. rw c (v.least s l g);
      ties = λ s l g q d. tie ok A.prices s l g (q ∙ c) d;
    }

pub all_served : (k : Kind) (t : Tender) (n : ℕ) (bids windows : List ℕ) (lent : ℕ) (rows : List AwardRow) (totals : Totals)
    → awarded rows totals ≡ award_of k t n bids windows lent → (x : ℕ) → x < (auction_of t n bids windows).cells
    → WinnerAt (auction_of t n bids windows) rows totals x
all_served k t n bids windows lent rows totals y x l =
    let w = award_awarded k t n bids windows lent rows totals y in
    go w (winners_cover (rule k) (auction_of t n bids windows) (all_spared k t n bids windows lent rows totals w) x l)
  where
    go : AwardOn k t n bids windows lent rows totals → Winner (rule k) (auction_of t n bids windows) x
        → WinnerAt (auction_of t n bids windows) rows totals x
    go w m = at (entry_at t n m.who)
      where
        at : EntryAt t n m.who → WinnerAt (auction_of t n bids windows) rows totals x
        at (owner i) = by_owner m.who (omega (arith, i, owners_are t n bids windows))
            (ap (λ r. r.won) (row_is k t n bids windows lent rows totals w m.who i) ∙ m.wins) m.covers_it
        at (house p e q) =
            let z = sym (q ∙ sym (owners_are t n bids windows)) in
            by_house
            (ap (λ z. z.house) w.settles.totals_are ∙ house_wins (rule k) (auction_of t n bids windows)
            (with_reserve t n bids windows p e)
            (ap (won (rule k) (auction_of t n bids windows)) z ∙ m.wins))
            (ap (λ (i : ℕ). (auction_of t n bids windows).has i x) z ∙ m.covers_it)
        at (past d) = absurd (omega (arith, m.inside, entries t n bids windows))

-- by the greedy rule a winner is paid the largest whole price with which it would still win if all else stood
pub largest_price : (k : Kind) (t : Tender) (n i : ℕ) (bids windows : List ℕ) (lent : ℕ) (rows : List AwardRow) (totals : Totals)
    → i < n → rule k ≡ greedy → awarded rows totals ≡ award_of k t n bids windows lent
    → (row_for (awarded rows totals) i).won ≡ true
    → (p : ℕ) → won greedy (at_price i p (auction_of t n bids windows)) i ≡ leb p (row_for (awarded rows totals) i).cents
largest_price k t n i bids windows lent rows totals l e y f p =
    let w = award_awarded k t n bids windows lent rows totals y in
    let r = row_is k t n bids windows lent rows totals w i l ∙ ap (λ r. row_in r (auction_of t n bids windows) i) e in
    largest (auction_of t n bids windows) i (omega (arith, entries t n bids windows)) (spared k t n bids windows lent rows totals w i l)
    (sym (ap (λ r. r.won) r) ∙ f) p
    ∙ ap (λ r. leb p r.cents) (sym r)

pub paid_by_eight : (k : Kind) (t : Tender) (n i : ℕ) (bids windows : List ℕ) (lent : ℕ) (rows : List AwardRow) (totals : Totals)
    → i < n → rule k ≡ least_cost → awarded rows totals ≡ award_of k t n bids windows lent
    → (row_for (awarded rows totals) i).won ≡ true
    → PaidByEight (auction_of t n bids windows) i (row_for (awarded rows totals) i).cents totals.cost
paid_by_eight k t n i bids windows lent rows totals l e x f =
    let w = award_awarded k t n bids windows lent rows totals x in
    let A = auction_of t n bids windows in
    let r = row_is k t n bids windows lent rows totals w i l ∙ ap (λ r. row_in r A i) e in
    let v = vcg_pays A i (omega (arith, entries t n bids windows)) (spared k t n bids windows lent rows totals w i l)
    (sym (won_least A i (length A.prices) refl) ∙ sym (ap (λ r. r.won) r) ∙ f) in
    let c = ap (λ r. r.cents) r ∙ cents_least A i (length A.prices) refl in
    record {
      other = winners (without i (covers_in A)) A.prices;
      least_without = v.0;
      formula = rw (c, ap (λ z. z.cost) (w.settles.totals_are ∙ ap (λ r. totals_of r A) e) ∙ cost_least A) v.1;
    }

any_default : (rs : List AwardRow) (i : ℕ) (d e : AwardRow) → i < length rs → get_or rs i d ≡ get_or rs i e
any_default [] i d e l = absurd (omega arith)
any_default (r ∷ rs) zero d e l = refl
any_default (r ∷ rs) (suc i) d e l = any_default rs i d e (omega arith)
