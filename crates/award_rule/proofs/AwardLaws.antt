-- What the definitions of an award say, case by case: who wins and is paid in either kind, what settles, and when 9 or 10 is
-- answered. Assumes nothing.
use Rattle.std.specs.Prelude.{◌≡◌, refl, List, Bool, true, false, cond, ℕ, ◌<◌, ltb}
use Rattle.std.proofs.Common.{sym, ◌∙◌, arith}
use Rattle.std.proofs.Math.Path.{ap}
use Rattle.std.proofs.Math.Option.{Option, none, some}
use Rattle.std.proofs.Math.ListN.{length}
use Rattle.tender.specs.declared.Kind.{Kind}
use Rattle.tender.specs.declared.Tender.{Tender}
use Rattle.tender.specs.declared.Totals.{Totals}
use Rattle.tender.specs.declared.AwardRow.{AwardRow}
use Rattle.tender.specs.declared.Refusal.{Refusal}
use Rattle.tender.specs.declared.Refusal.TheVariants.{BadTables, RowsTooFew}
use Rattle.cover.specs.Sets.{Found, nothing, found, bit, covers, cells}
use Rattle.cover.specs.LeastCover.{winners, vcg_paid}
use Rattle.cover.specs.Greedy.{wins}
use Rattle.cover.specs.CriticalPrice.{critical_paid}
use Rattle.cover.specs.Spare.{Spare}
use Rattle.cover.proofs.SettledLaws.{length_listed}
use Rattle.award_check.specs.Faults.{fault_of}
use Rattle.award_check.specs.Auction.{Auction, auction_of, thin_cell}
use Rattle.award_check.proofs.AuctionLaws.{owners_are, owner_spared, all_have}
use Rattle.award_rule.specs.Award.{won, cents, Outcome, awarded, refused, award_rows, totals_of, thinned, settled, judged, award_of}
use Rattle.award_rule.specs.Award.{Rule, least_cost, greedy, rule, uncovered, lone, outcome_number}

pub won_least : (A : Auction) (i n : ℕ) → length A.prices ≡ n
    → won least_cost A i ≡ bit (winners (covers A.has n A.cells) A.prices) i
unfolding won
won_least A i n e = rw (← e)

pub cents_least : (A : Auction) (i n : ℕ) → length A.prices ≡ n
    → cents least_cost A i ≡ vcg_paid (covers A.has n A.cells) A.prices i
unfolding cents
cents_least A i n e = rw (← e)

pub won_greedy : (A : Auction) (i : ℕ) → won greedy A i ≡ wins A.has A.prices (cells A.cells) i
unfolding won
won_greedy A i = refl

pub cents_greedy : (A : Auction) (i : ℕ) → cents greedy A i ≡ critical_paid A.has A.prices (cells A.cells) i
unfolding cents
cents_greedy A i = refl

-- of an auction

pub settled_is : (r : Rule) (A : Auction) (bare alone : ℕ → Refusal) (x y : Found) → thin_cell A 0 ≡ x → thin_cell A 1 ≡ y
    → settled r A bare alone ≡ thinned bare alone x y (awarded (award_rows r A) (totals_of r A))
unfolding settled
settled_is r A bare alone x y e f = rw (e, f)

-- what an award that is not refused says
pub record AwardOver (r : Rule) (A : Auction) (rows : List AwardRow) (totals : Totals) : Type 0 where
  pub none_bare : thin_cell A 0 ≡ nothing
  pub none_lone : thin_cell A 1 ≡ nothing
  pub rows_are : rows ≡ award_rows r A
  pub totals_are : totals ≡ totals_of r A

pub settled_awarded : (r : Rule) (A : Auction) (bare alone : ℕ → Refusal) (rows : List AwardRow) (totals : Totals)
    → settled r A bare alone ≡ awarded rows totals → AwardOver r A rows totals
unfolding thinned
settled_awarded r A bare alone rows totals h = go (thin_cell A 0) (thin_cell A 1) refl refl
  where
    go : (x y : Found) → thin_cell A 0 ≡ x → thin_cell A 1 ≡ y → AwardOver r A rows totals
    go (found x) y e f = let z = sym (settled_is r A bare alone (found x) y e f) ∙ h in let z : ◌≡◌ {A = ℕ} 0 1 = cc in
        absurd (omega arith)
    go nothing (found x) e f = let z = sym (settled_is r A bare alone nothing (found x) e f)
        ∙ h in let z : ◌≡◌ {A = ℕ} 0 1 = cc in
        absurd (omega arith)
    go nothing nothing e f = let z = sym (settled_is r A bare alone nothing nothing e f) ∙ h in
        record { none_bare = e; none_lone = f; rows_are = cc; totals_are = cc }

-- over tables

award_is : (k : Kind) (t : Tender) (n : ℕ) (bids windows : List ℕ) (lent : ℕ) → award_of k t n bids windows lent
    ≡ judged (fault_of k t n bids windows) (cond (ltb lent n) (refused RowsTooFew)
    (settled (rule k) (auction_of t n bids windows) (uncovered t) (lone t)))
unfolding award_of
award_is k t n bids windows lent = refl

judged_none : (o : Option ℕ) (a : Outcome) → o ≡ none → judged o a ≡ a
unfolding judged
judged_none none a e = refl
judged_none (some p) a e = let z : ◌≡◌ {A = ℕ} 0 1 = cc in absurd (omega arith)

pub award_none : (k : Kind) (t : Tender) (n : ℕ) (bids windows : List ℕ) (lent : ℕ) → fault_of k t n bids windows ≡ none
    → award_of k t n bids windows lent
    ≡ cond (ltb lent n) (refused RowsTooFew) (settled (rule k) (auction_of t n bids windows) (uncovered t) (lone t))
award_none k t n bids windows lent e = award_is k t n bids windows lent ∙ judged_none (fault_of k t n bids windows) _ e

-- of the award rows lent it matters only whether there is one for every bid
pub award_lent : (k : Kind) (t : Tender) (n : ℕ) (bids windows : List ℕ) (lent lent' : ℕ) → ltb lent n ≡ ltb lent' n →
    award_of k t n bids windows lent ≡ award_of k t n bids windows lent'
unfolding award_of
award_lent k t n bids windows lent lent' e = rw e

judged_some : (o : Option ℕ) (a : Outcome) (p : ℕ) → o ≡ some p → judged o a ≡ refused (BadTables p)
unfolding judged
judged_some o a p e = rw e

pub award_nine : (k : Kind) (t : Tender) (n : ℕ) (bids windows : List ℕ) (lent p : ℕ) → fault_of k t n bids windows ≡ some p
    → award_of k t n bids windows lent ≡ refused (BadTables p)
award_nine k t n bids windows lent p e = award_is k t n bids windows lent ∙ judged_some (fault_of k t n bids windows) _ p e

judged_nine : (o : Option ℕ) (r a : Outcome) → a ≡ judged o r → (outcome_number a ≡ 9 → ⊥) → o ≡ none
unfolding judged outcome_number
judged_nine none r a e h = refl
judged_nine (some p) r a e h = absurd (h (ap outcome_number e))

pub no_fault : (k : Kind) (t : Tender) (n : ℕ) (bids windows : List ℕ) (lent : ℕ) (a : Outcome)
    → a ≡ award_of k t n bids windows lent
    → (outcome_number a ≡ 9 → ⊥) → fault_of k t n bids windows ≡ none
no_fault k t n bids windows lent a e h = judged_nine (fault_of k t n bids windows) _ a (e ∙ award_is k t n bids windows lent) h

-- where no rule is broken and each bid has an award row, what settles is answered
pub award_settles : (k : Kind) (t : Tender) (n : ℕ) (bids windows : List ℕ) (lent : ℕ) → fault_of k t n bids windows ≡ none
    → ltb lent n ≡ false → (x y : Found) → thin_cell (auction_of t n bids windows) 0 ≡ x
    → thin_cell (auction_of t n bids windows) 1 ≡ y
    → award_of k t n bids windows lent
    ≡ thinned (uncovered t) (lone t) x y
    (awarded (award_rows (rule k) (auction_of t n bids windows)) (totals_of (rule k) (auction_of t n bids windows)))
award_settles k t n bids windows lent f g x y d e =
    award_none k t n bids windows lent f
    ∙ ap (λ z. cond z (refused RowsTooFew) (settled (rule k) (auction_of t n bids windows) (uncovered t) (lone t))) g
    ∙ settled_is (rule k) (auction_of t n bids windows) (uncovered t) (lone t) x y d e

-- what an answer that awards says
pub record AwardOn (k : Kind) (t : Tender) (n : ℕ) (bids windows : List ℕ) (lent : ℕ) (rows : List AwardRow)
    (totals : Totals) : Type 0 where
  pub sound : fault_of k t n bids windows ≡ none
  pub enough : ltb lent n ≡ false
  pub settles : AwardOver (rule k) (auction_of t n bids windows) rows totals

pub award_awarded : (k : Kind) (t : Tender) (n : ℕ) (bids windows : List ℕ) (lent : ℕ) (rows : List AwardRow) (totals : Totals)
    → awarded rows totals ≡ award_of k t n bids windows lent → AwardOn k t n bids windows lent rows totals
unfolding outcome_number
award_awarded k t n bids windows lent rows totals e =
    let f = no_fault k t n bids windows lent (awarded rows totals) e (λ z. omega arith) in
    go f (ltb lent n) refl (sym (award_none k t n bids windows lent f) ∙ sym e)
  where
    go : fault_of k t n bids windows ≡ none → (b : Bool) → ltb lent n ≡ b
        → cond b (refused RowsTooFew) (settled (rule k) (auction_of t n bids windows) (uncovered t) (lone t)) ≡ awarded rows totals
        → AwardOn k t n bids windows lent rows totals
    go f true d h = let z : ◌≡◌ {A = ℕ} 0 1 = cc in absurd (omega arith)
    go f false d h = record {
      sound = f;
      enough = d;
      settles = settled_awarded (rule k) (auction_of t n bids windows) (uncovered t) (lone t) rows totals h;
    }

module _ (k : Kind) (t : Tender) (n : ℕ) (bids windows : List ℕ) (lent : ℕ) (rows : List AwardRow) (totals : Totals)
    (w : AwardOn k t n bids windows lent rows totals) where
  pub rows_count : length rows ≡ n
  unfolding award_rows
  rows_count = ap length w.settles.rows_are ∙ length_listed (auction_of t n bids windows).owners _ ∙ owners_are t n bids windows

  -- the entries but any owner's have every cell
  pub spared : (i : ℕ) → i < n → Spare (auction_of t n bids windows).has (length (auction_of t n bids windows).prices)
      (auction_of t n bids windows).cells i
  spared = owner_spared t n bids windows w.settles.none_bare w.settles.none_lone

  -- and so have all entries
  pub all_spared : Spare (auction_of t n bids windows).has (length (auction_of t n bids windows).prices)
      (auction_of t n bids windows).cells (length (auction_of t n bids windows).prices)
  all_spared = all_have t n bids windows w.settles.none_bare w.settles.none_lone
