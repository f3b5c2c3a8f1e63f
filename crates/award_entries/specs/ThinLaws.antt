-- A tender with a thin cell: its refusal is what the award answers. Assumes nothing.
use Rattle.std.specs.Prelude.{◌≡◌, List, ℕ, Err}
use Rattle.std.proofs.Math.Option.{none}
use Rattle.tender.specs.declared.Kind.{Kind}
use Rattle.tender.specs.declared.Tender.{Tender}
use Rattle.award_thin.specs.declared.Thin.{Thin}
use Rattle.award_thin.specs.declared.Thin.TheVariants.{Nobody, Alone}
use Rattle.award_check.specs.Faults.{fault_of}
use Rattle.award_check.specs.Auction.{auction_of}
use Rattle.award_laid.specs.Lay.{Tells, thin_refusal}
use Rattle.award_rule.specs.Award.{award_of}
use Rattle.award_rule.specs.Plain.{told_in}
use Rattle.award_rule.proofs.PlainLaws.{eleven, twelve}

pub refuses_thin : (k : Kind) (t : Tender) (n : ℕ) (bids windows : List ℕ) → fault_of k t n bids windows ≡ none
    → (nw nc : List ℕ) (thin : Thin) → Tells (auction_of t n bids windows) (Err thin)
    → told_in n nw nc (Err (thin_refusal t thin)) ≡ award_of k t n bids windows n
refuses_thin k t n bids windows f nw nc (Nobody x) s = eleven k t n bids windows f nw nc x s
refuses_thin k t n bids windows f nw nc (Alone x) s = twelve k t n bids windows f nw nc x s.0 s.1
