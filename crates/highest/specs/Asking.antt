-- What is known of a faultless tender that is laid out and of which no cell is thin, when the row with a number is looked for.
use Rattle.std.specs.Prelude.{◌≡◌, List, ℕ, ◌+◌, ◌*◌, ◌/◌, ◌≤◌, length, Option, Some, None, Ok}
use Rattle.std.proofs.Math.Option.{none}
use Rattle.tender.specs.declared.Kind.TheVariants.{Single, Multi}
use Rattle.tender.specs.declared.Tender.{Tender}
use Rattle.cover.specs.Sets.{Found, nothing, found}
use Rattle.award_check.specs.Faults.{fault_of}
use Rattle.award_check.specs.Cells.{cells_of}
use Rattle.award_check.specs.Auction.{houses}
use Rattle.award_laid.specs.Lay.{LaidSpans, LaidMasks}

-- the row that is answered
abbrev pub found_row : Option ℕ → Found
found_row None = nothing
found_row (Some i) = found i

-- a single tender
pub record SpansAsked (t : Tender) (n : ℕ) (bids windows ps starts ends order : List ℕ) : Type 0 where
  pub sound : fault_of Single t n bids windows ≡ none
  pub price_count : length ps ≡ n + houses t.reserve
  pub start_count : length starts ≡ n + houses t.reserve
  pub end_count : length ends ≡ n + houses t.reserve
  pub room : length ps ≤ length order
  pub laid : LaidSpans t n bids windows ps starts ends order (Ok tt)

-- a multi tender
pub record MasksAsked (t : Tender) (w n : ℕ) (bids windows ps ms : List ℕ) : Type 0 where
  pub sound : fault_of Multi t n bids windows ≡ none
  pub words : w ≡ (cells_of t + 63) / 64
  pub price_count : length ps ≡ n + houses t.reserve
  pub word_count : length ms ≡ w * (n + houses t.reserve)
  pub laid : LaidMasks t n w bids windows ps ms (Ok tt)
