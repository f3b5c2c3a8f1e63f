-- What is found of a tender that is laid out is what is answered: a thin cell, a number that no row has, or the price below which the
-- row's bid would win. Assumes nothing.
use Rattle.std.specs.Prelude.{◌≡◌, List, length, set, Option, Some, None, Ok, Err, SomeIff}
use Rattle.std.proofs.Math.Path.{refl, ap}
use Rattle.std.proofs.Common.{sym, subst, ◌∙◌, length-set}
use Rattle.std.proofs.Math.Option.{none}
use Prim.Native.Nat.{ℕ, zero, suc, ◌-◌, ◌*◌, ◌≤◌, ◌<◌}
use native.Mathlib.Omega.{arith}
use Rattle.std.proofs.Math.ListN.{get_or}
use borrow.Author.Tests.{eq-eqb, ne_eqb}
use Rattle.tender.specs.declared.Kind.{Kind}
use Rattle.tender.specs.declared.Kind.TheVariants.{Single, Multi}
use Rattle.tender.specs.declared.Tender.{Tender}
use Rattle.tender.specs.declared.Refusal.TheVariants.{NoSuchBidder}
use Rattle.cover.specs.Sets.{nothing, found, bit, covers, cells}
use Rattle.cover.specs.LeastCover.{winners}
use Rattle.tender.specs.Tables.{bid_width}
use Rattle.cover.specs.CriticalPrice.{largest, sum, limit}
use Rattle.cover.specs.Settled.{spans}
use Rattle.cover.specs.Spare.{Spare}
use Rattle.cover.specs.Winning.{Below, one_less}
use Rattle.cover.proofs.Intervals.BidsLaws.{sum_most}
use Rattle.multi_market.specs.Market.{has}
use Rattle.award_thin.specs.declared.Thin.{Thin}
use Rattle.award_thin.specs.declared.Thin.TheVariants.{Nobody, Alone}
use Rattle.award_check.specs.Faults.{fault_of}
use Rattle.award_check.specs.Cells.{cells_of}
use Rattle.award_check.specs.Auction.{Auction, auction_of, at_price}
use Rattle.award_check.proofs.AuctionLaws.{cells_are, owner_spared}
use Rattle.award_check.proofs.AlikeLaws.{own_kind}
use Rattle.award_laid.specs.Lay.{Tells, thin_refusal}
use Rattle.award_laid.specs.EntryLaws.{laid_prices}
use Rattle.award_rule.specs.Award.{greedy, rule, won}
use Rattle.award_rule.proofs.AwardLaws.{won_least}
use Rattle.highest_rule.specs.Highest.{row_with, price_for, highest_of}
use Rattle.highest_rule.proofs.HighestLaws.{wins_below}
use Rattle.highest_rule.proofs.AnswerLaws.{eleven, twelve, seventeen, price, row_spared, row_entry, some_cell}
use Rattle.highest.specs.Asking.{SpansAsked, MasksAsked}

-- the row is looked for from the last on: the largest of all the rows with the number is the largest of those up to i
module _ (bids : List ℕ) (n bidder : ℕ) where
  pub row_stops : (i : ℕ) → get_or bids (bid_width * i) 0 ≡ bidder → row_with bids (suc i) bidder ≡ row_with bids n bidder
      → found i ≡ row_with bids n bidder
  unfolding row_with largest
  row_stops i e h = rw (← h, eq-eqb (get_or bids (bid_width * i) 0) bidder e)

  pub row_goes : (i : ℕ) → (get_or bids (bid_width * i) 0 ≡ bidder → ⊥)
      → row_with bids (suc i) bidder ≡ row_with bids n bidder
      → row_with bids i bidder ≡ row_with bids n bidder
  unfolding row_with largest
  row_goes i e h = rw (ne_eqb (get_or bids (bid_width * i) 0) bidder e) at h

  pub row_ends : row_with bids 0 bidder ≡ row_with bids n bidder → nothing ≡ row_with bids n bidder
  unfolding row_with largest
  row_ends h = h

-- the award's kind is the tender's own
pub sound_own : (k : Kind) (t : Tender) (n : ℕ) (bids windows : List ℕ) → fault_of k t n bids windows ≡ none
    → fault_of t.kind t n bids windows ≡ none
sound_own k t n bids windows f = subst (λ k. fault_of k t n bids windows ≡ none) (sym (own_kind k t n bids windows f)) f

-- a thin cell
pub refuses_thin : (k : Kind) (t : Tender) (n : ℕ) (bids windows : List ℕ) (bidder : ℕ) → fault_of k t n bids windows ≡ none
    → (thin : Thin) → Tells (auction_of t n bids windows) (Err thin)
    → Err (thin_refusal t thin) ≡ highest_of t n bids windows bidder
refuses_thin k t n bids windows bidder f (Nobody x) s = eleven t n bids windows bidder (sound_own k t n bids windows f) x s
refuses_thin k t n bids windows bidder f (Alone x) s = twelve t n bids windows bidder (sound_own k t n bids windows f) x s.0 s.1

-- a single tender
module _ (t : Tender) (n : ℕ) (bids windows ps starts ends order : List ℕ) (a : SpansAsked t n bids windows ps starts ends order) where
  abbrev A : Auction
  A = auction_of t n bids windows

  pub small_sum : sum ps ≤ 100100000000
  small_sum = let p = laid_prices t n bids windows ps starts ends order (Ok tt) a.sound a.laid in
      omega (arith, p.count, sum_most ps (λ i d. p.most i))

  pub spared : (i : ℕ) → i < n → Spare (spans starts ends) (length ps) (cells_of t) i
  spared i l = rw (a.laid.has_is, a.laid.prices_are, ← cells_are t n bids windows)
      (owner_spared t n bids windows a.laid.thin_is.0 a.laid.thin_is.1 i l)

  module _ (bidder : ℕ) where
    pub spans_missing : row_with bids n bidder ≡ nothing → Err NoSuchBidder ≡ highest_of t n bids windows bidder
    spans_missing = seventeen t n bids windows bidder (sound_own Single t n bids windows a.sound) a.laid.thin_is.0
        a.laid.thin_is.1

    pub spans_price : (i m : ℕ) → row_with bids n bidder ≡ found i
        → Below (λ q. bit (winners (covers (spans starts ends) (length ps) (cells_of t)) (set ps i q)) i) m
        → price_for (one_less m) ≡ highest_of t n bids windows bidder
    unfolding at_price
    spans_price i m e b = price t n bids windows bidder (sound_own Single t n bids windows a.sound) a.laid.thin_is.0
        a.laid.thin_is.1 i m e
        (λ q. ap (λ k. won (rule k) (at_price i q A) i) (own_kind Single t n bids windows a.sound)
        ∙ won_least (at_price i q A) i (length A.prices) (length-set A.prices i q)
        ∙ rw (a.laid.has_is, a.laid.prices_are, ← cells_are t n bids windows) at (b q))

-- a multi tender
module _ (t : Tender) (w n : ℕ) (bids windows ps ms : List ℕ) (a : MasksAsked t w n bids windows ps ms) (bidder : ℕ) where
  abbrev B : Auction
  B = auction_of t n bids windows

  own_sound : fault_of t.kind t n bids windows ≡ none
  own_sound = sound_own Multi t n bids windows a.sound

  pub masks_missing : row_with bids n bidder ≡ nothing → Err NoSuchBidder ≡ highest_of t n bids windows bidder
  masks_missing = seventeen t n bids windows bidder own_sound a.laid.thin_is.0 a.laid.thin_is.1

  pub masks_price : (i m : ℕ) → row_with bids n bidder ≡ found i → m ≡ limit (has ms w) ps (cells (cells_of t)) i
      → price_for (one_less m) ≡ highest_of t n bids windows bidder
  masks_price i m e d =
      let u = a.laid.thin_is in
      price t n bids windows bidder own_sound u.0 u.1 i m e
      (λ q. ap (λ k. won (rule k) (at_price i q B) i) (own_kind Multi t n bids windows a.sound)
      ∙ rw (d ∙ is) (wins_below B i (row_entry t n bids windows bidder own_sound u.0 u.1 i e)
      (row_spared t n bids windows bidder own_sound u.0 u.1 i e)
      (some_cell t n bids windows bidder own_sound u.0 u.1) greedy q))
    where
      is : limit (has ms w) ps (cells (cells_of t)) i ≡ limit B.has B.prices (cells B.cells) i
      is = rw (a.laid.has_is, a.laid.prices_are, ← cells_are t n bids windows)

-- the answer to a price below which a bid would win
pub told_is : (m : ℕ) (r : Option ℕ) → SomeIff r (1 ≤ m) (m - 1) → Ok r ≡ price_for (one_less m)
unfolding one_less price_for
told_is zero None h = refl
told_is zero (Some x) h = absurd (omega arith)
told_is (suc p) None h = absurd (h (omega arith))
told_is (suc p) (Some x) h = let e : x ≡ p = omega arith in ap (λ (v : ℕ). Ok (Some v)) e
