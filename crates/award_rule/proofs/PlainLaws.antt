-- How the answer over plain lists comes about: from a fault, too few rows, a cell in no bid or in one, or what a core settles.
-- Assumes nothing.
use Rattle.cover.specs.Spare.{Spare}
use Rattle.std.specs.Prelude.{◌≡◌, List, Bool, cond, ℕ, ◌≤◌, ◌<◌, length, drop, Ok, Err}
use Rattle.std.proofs.Math.Path.{refl, sym, ap}
use Rattle.std.proofs.Common.{◌∙◌, arith, lt-ltb, le-ltb}
use Rattle.std.proofs.Math.Option.{none, some}
use Rattle.std.proofs.Math.ListN.{get_or, get_or-append}
use Rattle.std.proofs.Math.Dec.{eqb}
use Rattle.tender.specs.declared.Kind.{Kind}
use Rattle.tender.specs.declared.Tender.{Tender}
use Rattle.tender.specs.declared.Totals.{Totals}
use Rattle.tender.specs.declared.Refusal.{Refusal}
use Rattle.tender.specs.declared.Refusal.TheVariants.{BadTables, RowsTooFew, MinuteUncovered, OneBidder}
use Rattle.cover.specs.Sets.{when, Found, nothing, found, cells, bit}
use Rattle.cover.proofs.SetLaws.{when_is}
use Rattle.cover.specs.LeastCover.{winners, vcg_paid}
use Rattle.cover.specs.Greedy.{wins}
use Rattle.cover.specs.CriticalPrice.{rounds_paid}
use Rattle.cover.proofs.CriticalLaws.{paid_by_rounds}
use Rattle.cover.proofs.SpareLaws.{spare_bids}
use Rattle.cover.specs.Settled.{listed}
use Rattle.cover.specs.Settled as core
use Rattle.cover.proofs.SettledLaws.{length_listed, get_or_listed, listed_same}
use Rattle.award_check.specs.Faults.{fault_of}
use Rattle.award_check.specs.Cells.{minute_of}
use Rattle.award_check.specs.Auction.{Auction, auction_of, thin_cell}
use Rattle.award_check.proofs.AuctionLaws.{owners_are, entries}
use Rattle.tender.specs.Types.{Answer}
use Rattle.award_rule.specs.Award.{covers_in, won, cents, awarded, refused, award_rows, totals_of, thinned, settled, award_of}
use Rattle.award_rule.specs.Award.{least_cost, greedy, rule, uncovered, lone}
use Rattle.award_rule.specs.Sums.{totals_in}
use Rattle.award_rule.proofs.SumsLaws.{totals_are}
use Rattle.award_rule.specs.Plain.{rows_in, told_in, won_after, cents_after, PlainPromise}
use Rattle.award_rule.proofs.AwardLaws.{won_least, cents_least, won_greedy, cents_greedy, award_none, award_lent, award_nine}
use Rattle.award_rule.proofs.AwardLaws.{award_settles}

module _ (k : Kind) (t : Tender) (n : ℕ) (bids windows : List ℕ) where
  abbrev A : Auction
  A = auction_of t n bids windows

  abbrev ps : List ℕ
  ps = A.prices

  module _ (lent : ℕ) (ow oc : List ℕ) where
    -- a refusal leaves the lists
    refuses : (r : Refusal) → award_of k t n bids windows lent ≡ refused r
        → PlainPromise k t n bids windows lent ow oc ow oc (Err r)
    unfolding told_in won_after cents_after
    refuses r e = record { answers = sym e; won_are = refl; cents_are = refl }

    pub nine : (p : ℕ) → fault_of k t n bids windows ≡ some p
        → PlainPromise k t n bids windows lent ow oc ow oc (Err (BadTables p))
    nine p e = refuses (BadTables p) (award_nine k t n bids windows lent p e)

    pub ten : fault_of k t n bids windows ≡ none → lent < n → PlainPromise k t n bids windows lent ow oc ow oc (Err RowsTooFew)
    ten f l = refuses RowsTooFew (award_none k t n bids windows lent f
        ∙ ap (λ b. cond b (refused RowsTooFew) (settled (rule k) A (uncovered t) (lone t))) (lt-ltb lent n l))

  -- what the flags and cents of all entries tell is right
  module _ (f : fault_of k t n bids windows ≡ none) (nw nc : List ℕ) where
    settles : (x y : Found) → thin_cell A 0 ≡ x → thin_cell A 1 ≡ y
        → award_of k t n bids windows n ≡ thinned (uncovered t) (lone t) x y (awarded (award_rows (rule k) A) (totals_of (rule k) A))
    settles = award_settles k t n bids windows n f (le-ltb n n (omega arith))

    pub eleven : (x : ℕ) → thin_cell A 0 ≡ found x
        → told_in n nw nc (Err (MinuteUncovered (minute_of t x))) ≡ award_of k t n bids windows n
    unfolding thinned uncovered told_in
    eleven x e = sym (settles (found x) (thin_cell A 1) e refl)

    pub twelve : (x : ℕ) → thin_cell A 0 ≡ nothing → thin_cell A 1 ≡ found x
        → told_in n nw nc (Err (OneBidder (minute_of t x))) ≡ award_of k t n bids windows n
    unfolding thinned lone told_in
    twelve x d e = sym (settles nothing (found x) d e)

    -- a core settles by the flags w and the payments c, which are those of the definitions and are due to each owner
    module _ (covered : thin_cell A 0 ≡ nothing) (doubled : thin_cell A 1 ≡ nothing)
        (ow oc : List ℕ) (due : ℕ → Type 0) (w : ℕ → Bool) (c : ℕ → ℕ) (dues : (i : ℕ) → i < n → due i)
        (w_is : (i : ℕ) → w i ≡ won (rule k) A i) (c_is : (i : ℕ) → i < n → c i ≡ cents (rule k) A i)
        (totals : Totals) (s : core.Settled due w c ps ow oc nw nc) (summed : totals ≡ totals_in ps nw nc n) where
      owners_inside : n ≤ length ps
      owners_inside = omega (arith, entries t n bids windows)

      flag_at : (i : ℕ) → i < length ps → eqb (get_or nw i 0) 1 ≡ won (rule k) A i
      flag_at i l =
          ap (λ (v : ℕ). eqb v 1) (ap (λ (zs : List ℕ). get_or zs i 0) s.flags
          ∙ get_or-append (listed (length ps) (λ i. when (w i) 1)) (drop (length ps) ow) 0 i
          (omega (arith, length_listed (length ps) (λ i. when (w i) 1)))
          ∙ get_or_listed (length ps) (λ i. when (w i) 1) i 0 l)
          ∙ when_is (w i) ∙ w_is i

      pay_at : (i : ℕ) → i < n → get_or nc i 0 ≡ cents (rule k) A i
      pay_at i l = s.payments i (omega (arith, owners_inside)) (dues i l) ∙ c_is i l

      rows_are : rows_in n nw nc ≡ award_rows (rule k) A
      unfolding rows_in award_rows
      rows_are =
          listed_same n (λ i. record { won = eqb (get_or nw i 0) 1; cents = get_or nc i 0 })
          (λ i. record { won = won (rule k) A i; cents = cents (rule k) A i })
          (λ i l. rw (flag_at i (omega (arith, owners_inside)), pay_at i l))
          ∙ ap (λ (m : ℕ). listed m (λ i. record { won = won (rule k) A i; cents = cents (rule k) A i }))
          (sym (owners_are t n bids windows))

      totals_is : totals ≡ totals_of (rule k) A
      totals_is = summed ∙ ap (totals_in ps nw nc) (sym (owners_are t n bids windows))
          ∙ totals_are (rule k) A nw nc flag_at (λ i l. pay_at i (omega (arith, owners_are t n bids windows)))

      pub awards : told_in n nw nc (Ok totals) ≡ award_of k t n bids windows n
      unfolding told_in thinned
      awards = ap (λ rows. awarded rows totals) rows_are ∙ ap (awarded (award_rows (rule k) A)) totals_is
          ∙ sym (settles nothing nothing covered doubled)

-- what the two cores settle by is what the definitions say

pub single_won : (A : Auction) (i : ℕ) → bit (winners (covers_in A) A.prices) i ≡ won least_cost A i
single_won A i = sym (won_least A i (length A.prices) refl)

pub single_cents : (A : Auction) (i : ℕ) → vcg_paid (covers_in A) A.prices i ≡ cents least_cost A i
single_cents A i = sym (cents_least A i (length A.prices) refl)

pub multi_won : (A : Auction) (i : ℕ) → wins A.has A.prices (cells A.cells) i ≡ won greedy A i
multi_won A i = sym (won_greedy A i)

pub multi_cents : (A : Auction) (i : ℕ) → i < length A.prices → Spare A.has (length A.prices) A.cells i
    → rounds_paid A.has A.prices (cells A.cells) i ≡ cents greedy A i
multi_cents A i l y = sym (cents_greedy A i
    ∙ paid_by_rounds A.has A.prices (cells A.cells) i l (spare_bids A.has (length A.prices) A.cells i y A.prices))

-- more award rows than bids change nothing
pub lent_more : (k : Kind) (t : Tender) (n : ℕ) (bids windows : List ℕ) (lent : ℕ) (ow oc nw nc : List ℕ) (a : Answer)
    → n ≤ lent
    → PlainPromise k t n bids windows n ow oc nw nc a → PlainPromise k t n bids windows lent ow oc nw nc a
lent_more k t n bids windows lent ow oc nw nc a l p = record {
  answers = p.answers ∙ award_lent k t n bids windows n lent (le-ltb n n (omega arith) ∙ sym (le-ltb lent n l));
  won_are = p.won_are;
  cents_are = p.cents_are;
}
