-- Of an auction, by either rule: a loser is paid nothing; where the other entries have every cell naming the true cost and offering all
-- cells is best and no winner is paid less than it named; where all entries do the winners cover. Assumes nothing.
use Rattle.cover.specs.Spare.{Spare}
use Rattle.std.specs.Prelude.{◌≡◌, Bool, ◌&&◌, ℕ, ◌+◌, ◌^◌, ◌≤◌, ◌<◌, length, get_or, set, leb, ltb, pos}
use Rattle.std.proofs.Math.Path.{refl}
use Rattle.std.proofs.Common.{sym, ◌∙◌, arith, length-set}
use Rattle.std.proofs.Math.Bool.{true, false, cond}
use Rattle.std.proofs.lemmas.List.{set-get_or}
use Rattle.tender.specs.declared.AwardRow.{AwardRow}
use Rattle.tender.specs.declared.Totals.{Totals}
use Rattle.tender.specs.declared.Refusal.{Refusal}
use Rattle.cover.specs.Sets.{when, Found, nothing, found, bit, covers, cost, cells}
use Rattle.cover.specs.LeastCover.{Wins, winners, without, payment, vcg_paid}
use Rattle.cover.specs.Earliest.{cell_with}
use Rattle.cover.specs.Greedy.{wins}
use Rattle.cover.specs.CriticalPrice.{critical_paid, wins_at}
use Rattle.cover.proofs.VcgLaws as vcg
use Rattle.cover.proofs.CriticalLaws as critical
use Rattle.cover.proofs.SpareLaws.{others, others_below, spare_set, spare_bids, least_covers, greedy_covers}
use Rattle.cover.proofs.FewerLaws.{covers_fewer, without_same, none_thin}
use Rattle.cover.proofs.SettledLaws.{get_or_listed, cost_sum}
use Rattle.award_check.specs.Auction.{Auction, at_price, reserved, thin_cell}
use Rattle.award_check.proofs.AuctionLaws.{at_own_price, offering}
use Rattle.award_rule.specs.Award.{Rule, least_cost, greedy, covers_in, won, cents, awarded, award_rows, totals_of, thinned, settled}
use Rattle.award_rule.proofs.AwardLaws.{won_least, cents_least, won_greedy, cents_greedy, settled_is}
use Rattle.award_outcome.specs.Gain.{lost, row_for, gain, AtMost}
use Rattle.award_outcome.proofs.GainLaws.{gain_most}

-- a loser's row says 0
pub lost_nothing : (r : Rule) (A : Auction) (i : ℕ) → won r A i ≡ false → cents r A i ≡ 0
unfolding won cents vcg_paid critical_paid payment
lost_nothing least_cost A i e = rw e
lost_nothing greedy A i e = rw e

-- where entry i asks q and the entries have the cells h
module _ (A : Auction) (i q : ℕ) (h : ℕ → ℕ → Bool) where
  abbrev B : Auction
  B = offering i q h A

  won_least_at : won least_cost B i ≡ bit (winners (covers h (length A.prices) A.cells) (set A.prices i q)) i
  won_least_at = won_least B i (length A.prices) (length-set A.prices i q)

  cents_least_at : cents least_cost B i ≡ vcg_paid (covers h (length A.prices) A.cells) (set A.prices i q) i
  cents_least_at = cents_least B i (length A.prices) (length-set A.prices i q)

  won_greedy_at : won greedy B i ≡ wins h (set A.prices i q) (cells A.cells) i
  won_greedy_at = won_greedy B i

  cents_greedy_at : cents greedy B i ≡ critical_paid h (set A.prices i q) (cells A.cells) i
  cents_greedy_at = cents_greedy B i

-- where the other entries have every cell
module _ (A : Auction) (i : ℕ) (inside : i < length A.prices) (y : Spare A.has (length A.prices) A.cells i) where
  abbrev ok : ℕ → Bool
  ok = covers_in A

  abbrev rest : ℕ
  rest = others (length A.prices) i

  spare : without i ok rest ≡ true
  spare = spare_set A.has (length A.prices) A.cells i y inside

  -- whoever's cost is c gains no more by naming q and offering fewer cells
  module _ (h : ℕ → ℕ → Bool) (theirs : (j : ℕ) → (j ≡ i → ⊥) → h j ≡ A.has j)
      (fewer : (x : ℕ) → h i x ≡ true → A.has i x ≡ true) where
    pub honest : (r : Rule) (c q : ℕ) → cents r (offering i q h A) i + when (won r (at_price i c A) i) c
        ≤ cents r (at_price i c A) i + when (won r (offering i q h A) i) c
    unfolding at_price
    honest least_cost c q = rw (
      won_least_at A i q h,
      won_least_at A i c A.has,
      cents_least_at A i q h,
      cents_least_at A i c A.has,
    )
        (vcg.truthful ok (covers h (length A.prices) A.cells) A.prices i
        (covers_fewer A.has h i theirs fewer (length A.prices) A.cells)
        (without_same A.has h i theirs fewer (length A.prices) A.cells)
        inside rest (others_below (length A.prices) i) spare c q)
    honest greedy c q = rw (
      won_greedy_at A i q h,
      won_greedy_at A i c A.has,
      cents_greedy_at A i q h,
      cents_greedy_at A i c A.has,
    )
        (critical.truthful A.has A.prices (cells A.cells) i inside
        (spare_bids A.has (length A.prices) A.cells i y A.prices) h theirs fewer c q)

  -- a winner is paid no less than it named
  pub fair : (r : Rule) (q : ℕ) → when (won r (at_price i q A) i) q ≤ cents r (at_price i q A) i
  unfolding at_price
  fair least_cost q = rw (won_least_at A i q A.has, cents_least_at A i q A.has)
      (vcg.fair ok A.prices i inside rest (others_below (length A.prices) i) spare q)
  fair greedy q = rw (won_greedy_at A i q A.has, cents_greedy_at A i q A.has)
      (critical.fair A.has A.prices (cells A.cells) i inside
      (spare_bids A.has (length A.prices) A.cells i y A.prices) q)

  -- document 000, formula 8
  pub vcg_pays : bit (winners ok A.prices) i ≡ true
      → (Wins (without i ok) (cost A.prices) (2 ^ length A.prices) (winners (without i ok) A.prices))
      × (vcg_paid ok A.prices i + cost A.prices (winners ok A.prices)
      ≡ cost A.prices (winners (without i ok) A.prices) + get_or A.prices i 0)
  vcg_pays e = vcg.formula ok A.prices i inside rest (others_below (length A.prices) i) spare e

  -- by the greedy rule a winner is paid the largest whole price with which it would still win if all else stood
  pub largest : won greedy A i ≡ true → (p : ℕ) → won greedy (at_price i p A) i ≡ leb p (cents greedy A i)
  unfolding won cents critical_paid wins_at at_price
  largest e p = rw e (critical.some_price A.has A.prices (cells A.cells) i inside
      (spare_bids A.has (length A.prices) A.cells i y A.prices) (get_or A.prices i 0)
      (rw (set-get_or A.prices i 0) e) p)

-- the winners cover
pub record Winner (r : Rule) (A : Auction) (x : ℕ) : Type 0 where
  pub who : ℕ
  pub inside : who < length A.prices
  pub wins : won r A who ≡ true
  pub covers_it : A.has who x ≡ true

pub winners_cover : (r : Rule) (A : Auction) → Spare A.has (length A.prices) A.cells (length A.prices) → (x : ℕ)
    → x < A.cells → Winner r A x
winners_cover least_cost A all x l =
    let m = least_covers A.has A.prices A.cells all x l in
    record {
      who = m.who;
      inside = m.inside;
      wins = won_least A m.who (length A.prices) refl ∙ m.in_set;
      covers_it = m.covers_it;
    }
winners_cover greedy A all x l =
    let m = greedy_covers A.has A.prices A.cells all x l in
    record { who = m.who; inside = m.inside; wins = won_greedy A m.who ∙ m.wins_it; covers_it = m.covers_it }

-- the row that is filled for bid i
abbrev pub row_in : Rule → Auction → ℕ → AwardRow
row_in r A i = record { won = won r A i; cents = cents r A i }

pub row_filled : (r : Rule) (A : Auction) (i : ℕ) (totals : Totals) → i < A.owners
    → row_for (awarded (award_rows r A) totals) i ≡ row_in r A i
unfolding row_for award_rows
row_filled r A i totals l = get_or_listed A.owners (λ i. row_in r A i) i lost l

-- Bid i, whose true cost is its price in A, names q and offers fewer cells: it gains no more. With all its cells it gains 0 at least, so
-- that a second award that is refused for cover, or in which it loses, leaves it no more; where the second is made the first is too.
module _ (r : Rule) (A : Auction) (i q : ℕ) (h : ℕ → ℕ → Bool) (bare alone : ℕ → Refusal) (l : i < A.owners)
    (inside : i < length A.prices) (theirs : (j : ℕ) → (j ≡ i → ⊥) → h j ≡ A.has j)
    (fewer : (x : ℕ) → h i x ≡ true → A.has i x ≡ true)
    (spare : thin_cell A 0 ≡ nothing → thin_cell A 1 ≡ nothing → Spare A.has (length A.prices) A.cells i) where
  abbrev less : Auction
  less = offering i q h A

  abbrev c : ℕ
  c = get_or A.prices i 0

  -- what the first award leaves it
  no_loss : (x y : Found) → thin_cell A 0 ≡ x → thin_cell A 1 ≡ y → AtMost (pos 0) (gain c (row_for (settled r A bare alone) i))
  unfolding row_for gain thinned lost
  no_loss (found x) y e f = rw (settled_is r A bare alone (found x) y e f) (omega arith)
  no_loss nothing (found x) e f = rw (settled_is r A bare alone nothing (found x) e f) (omega arith)
  no_loss nothing nothing e f = rw (settled_is r A bare alone nothing nothing e f, row_filled r A i (totals_of r A) l)
      (gain_most c lost (row_in r A i) (λ z. refl) (lost_nothing r A i)
      (omega (arith, rw (at_own_price i A) at (fair A i inside (spare e f) r c))))

  -- a thin cell of the first is one of the second
  thin_too : thin_cell less 0 ≡ nothing → thin_cell less 1 ≡ nothing → (thin_cell A 0 ≡ nothing) × (thin_cell A 1 ≡ nothing)
  unfolding thin_cell reserved
  thin_too e f = go (ltb A.owners (length A.prices)) (rw (length-set A.prices i q) at e) (rw (length-set A.prices i q) at f)
    where
      go : (b : Bool) → cond b nothing (cell_with h A.owners A.cells 0) ≡ nothing
          → cond b nothing (cell_with h A.owners A.cells 1) ≡ nothing
          → (cond b nothing (cell_with A.has A.owners A.cells 0) ≡ nothing)
          × (cond b nothing (cell_with A.has A.owners A.cells 1) ≡ nothing)
      go true e f = (refl, refl)
      go false e f = none_thin A.has h i theirs fewer A.owners A.cells e f

  pub settled_withheld : AtMost (gain c (row_for (settled r less bare alone) i)) (gain c (row_for (settled r A bare alone) i))
  unfolding row_for gain thinned lost
  settled_withheld = go (thin_cell less 0) (thin_cell less 1) refl refl
    where
      go : (x y : Found) → thin_cell less 0 ≡ x → thin_cell less 1 ≡ y
          → AtMost (gain c (row_for (settled r less bare alone) i)) (gain c (row_for (settled r A bare alone) i))
      go (found x) y e f = rw (settled_is r less bare alone (found x) y e f) (no_loss (thin_cell A 0) (thin_cell A 1) refl refl)
      go nothing (found x) e f = rw (settled_is r less bare alone nothing (found x) e f) (no_loss (thin_cell A 0) (thin_cell A 1) refl refl)
      go nothing nothing e f =
          let t = thin_too e f in
          rw (
            settled_is r less bare alone nothing nothing e f,
            settled_is r A bare alone nothing nothing t.0 t.1,
            row_filled r less i (totals_of r less) l,
            row_filled r A i (totals_of r A) l,
          )
          (gain_most c (row_in r less i) (row_in r A i) (lost_nothing r less i) (lost_nothing r A i)
          (rw (at_own_price i A) at (honest A i inside (spare t.0 t.1) h theirs fewer r c q)))

-- the sum of the winners' prices is the cost of the set
pub cost_least : (A : Auction) → (totals_of least_cost A).cost
    ≡ cost A.prices (winners (covers_in A) A.prices)
unfolding totals_of won
cost_least A = sym (cost_sum A.prices (winners (covers_in A) A.prices))

-- the house wins where it is in the set
pub house_least : (A : Auction) → (totals_of least_cost A).house
    ≡ (reserved A && bit (winners (covers_in A) A.prices) A.owners)
unfolding totals_of won
house_least A = refl

pub house_wins : (r : Rule) (A : Auction) → reserved A ≡ true → won r A A.owners ≡ true → (totals_of r A).house ≡ true
unfolding totals_of
house_wins r A e f = rw (e, f)
