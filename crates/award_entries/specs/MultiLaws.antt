-- A multi tender laid out as words: what the core leaves is what the award answers. Assumes nothing.
use Rattle.std.specs.Prelude.{◌≡◌, List, ℕ, length, Ok}
use Rattle.std.proofs.Common.{arith}
use Rattle.std.proofs.Math.Option.{none}
use Rattle.tender.specs.declared.Kind.TheVariants.{Multi}
use Rattle.tender.specs.declared.Tender.{Tender}
use Rattle.tender.specs.declared.Totals.{Totals}
use Rattle.cover.specs.Sets.{cells}
use Rattle.cover.specs.Spare.{Spare}
use Rattle.cover.specs.Greedy.{wins}
use Rattle.cover.specs.CriticalPrice.{rounds_paid}
use Rattle.cover.specs.Settled.{Settled}
use Rattle.multi_market.specs.Market.{has}
use Rattle.award_check.specs.Faults.{fault_of}
use Rattle.award_check.specs.Cells.{cells_of}
use Rattle.award_check.specs.Auction.{Auction, auction_of}
use Rattle.award_check.proofs.AuctionLaws.{entries, cells_are, owner_spared}
use Rattle.award_laid.specs.Lay.{LaidMasks}
use Rattle.award_rule.specs.Award.{award_of}
use Rattle.award_rule.specs.Sums.{totals_in}
use Rattle.award_rule.specs.Plain.{told_in}
use Rattle.award_rule.proofs.PlainLaws.{awards, multi_won, multi_cents}

module _ (t : Tender) (n w : ℕ) (bids windows ps ms : List ℕ) (f : fault_of Multi t n bids windows ≡ none)
    (l : LaidMasks t n w bids windows ps ms (Ok tt)) where
  abbrev A : Auction
  A = auction_of t n bids windows

  pub settled : (ow oc nw nc : List ℕ) (totals : Totals) →
      Settled (Spare (has ms w) (length ps) (cells_of t)) (wins (has ms w) ps (cells (cells_of t)))
      (rounds_paid (has ms w) ps (cells (cells_of t))) ps ow oc nw nc → totals ≡ totals_in ps nw nc n →
      told_in n nw nc (Ok totals) ≡ award_of Multi t n bids windows n
  settled ow oc nw nc totals h u =
      let d = l.thin_is in
      let y = owner_spared t n bids windows d.0 d.1 in
      awards Multi t n bids windows f nw nc d.0 d.1 ow oc (Spare A.has (length A.prices) A.cells)
      (wins A.has A.prices (cells A.cells)) (rounds_paid A.has A.prices (cells A.cells)) y
      (λ i. multi_won A i) (λ i m. multi_cents A i (omega (arith, entries t n bids windows)) (y i m)) totals
      (rw (l.has_is, l.prices_are, ← cells_are t n bids windows) at h) (rw l.prices_are at u)
