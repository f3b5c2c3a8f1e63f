-- A single tender laid out as starts and ends: what the core leaves is what the award answers. Assumes nothing.
use Rattle.std.specs.Prelude.{◌≡◌, List, ℕ, ◌≤◌, length, Ok}
use Rattle.std.proofs.Common.{arith}
use Rattle.std.proofs.Math.Option.{none}
use Rattle.tender.specs.declared.Kind.TheVariants.{Single}
use Rattle.tender.specs.declared.Tender.{Tender}
use Rattle.tender.specs.declared.Totals.{Totals}
use Rattle.cover.specs.Sets.{bit, covers}
use Rattle.cover.specs.LeastCover.{winners, vcg_paid}
use Rattle.cover.specs.CriticalPrice.{sum}
use Rattle.cover.specs.Settled.{spans, Settled}
use Rattle.cover.proofs.Intervals.BidsLaws.{sum_most}
use Rattle.single_costs.specs.Across.{most_sum}
use Rattle.award_check.specs.Faults.{fault_of}
use Rattle.award_check.specs.Cells.{cells_of}
use Rattle.award_check.specs.Auction.{Auction, auction_of}
use Rattle.award_check.proofs.AuctionLaws.{cells_are}
use Rattle.award_laid.specs.Lay.{LaidSpans}
use Rattle.award_laid.specs.EntryLaws.{laid_prices}
use Rattle.award_rule.specs.Award.{covers_in, award_of}
use Rattle.award_rule.specs.Sums.{totals_in}
use Rattle.award_rule.specs.Plain.{told_in}
use Rattle.award_rule.proofs.PlainLaws.{awards, single_won, single_cents}

module _ (t : Tender) (n : ℕ) (bids windows ps starts ends order : List ℕ) (f : fault_of Single t n bids windows ≡ none)
    (l : LaidSpans t n bids windows ps starts ends order (Ok tt)) where
  abbrev A : Auction
  A = auction_of t n bids windows

  pub prices_sum : sum ps ≤ most_sum
  prices_sum = let p = laid_prices t n bids windows ps starts ends order (Ok tt) f l in omega
      (arith, p.count, sum_most ps (λ i d. p.most i))

  pub settled : (ow oc nw nc : List ℕ) (totals : Totals) →
      Settled (λ _. Unit {0}) (λ i. bit (winners (covers (spans starts ends) (length ps) (cells_of t)) ps) i)
      (vcg_paid (covers (spans starts ends) (length ps) (cells_of t)) ps) ps ow oc nw nc → totals ≡ totals_in ps nw nc n →
      told_in n nw nc (Ok totals) ≡ award_of Single t n bids windows n
  settled ow oc nw nc totals h u =
      let d = l.thin_is in
      awards Single t n bids windows f nw nc d.0 d.1 ow oc (λ _. Unit {0})
      (λ i. bit (winners (covers_in A) A.prices) i)
      (vcg_paid (covers_in A) A.prices) (λ i d. tt) (λ i. single_won A i) (λ i d. single_cents A i)
      totals (rw (l.has_is, l.prices_are, ← cells_are t n bids windows) at h) (rw l.prices_are at u)
