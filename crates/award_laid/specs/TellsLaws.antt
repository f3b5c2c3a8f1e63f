-- What laying out tells of a tender's cells: a cell that is named is one of the tender. Assumes nothing.
use Rattle.std.specs.Prelude.{◌≡◌, refl, List, ℕ, ◌<◌, Some, None, Err}
use Rattle.std.proofs.Common.{sym, ◌∙◌, arith}
use Rattle.tender.specs.Types.{Reserve}
use Rattle.tender.specs.declared.Tender.{Tender}
use Rattle.cover.specs.Sets.{found}
use Rattle.cover.proofs.EarliestLaws.{cell_found}
use Rattle.award_thin.specs.declared.Thin.{Thin}
use Rattle.award_thin.specs.declared.Thin.TheVariants.{Nobody, Alone}
use Rattle.award_check.specs.Cells.{cells_of}
use Rattle.award_check.specs.Auction.{Auction, auction_of, thin_cell}
use Rattle.award_check.proofs.AuctionLaws.{thin_told, none_thin}
use Rattle.award_laid.specs.Lay.{Tells, named}

module _ (t : Tender) (n : ℕ) (bids windows : List ℕ) where
  abbrev A : Auction
  A = auction_of t n bids windows

  -- a cell that is found is a cell of the tender
  thin_inside : (m x : ℕ) → thin_cell A m ≡ found x → x < cells_of t
  thin_inside m x e = go t.reserve refl
    where
      go : (r : Reserve) → t.reserve ≡ r → x < cells_of t
      go None u = (cell_found A.has n (cells_of t) m x (sym (thin_told t n bids windows u m) ∙ e)).inside
      go (Some p) u = let z = sym (none_thin t n bids windows p u m) ∙ e in let z : ◌≡◌ {A = ℕ} 0 1 = cc in absurd (omega arith)

  -- a cell that is named is one of the tender
  pub named_inside : (thin : Thin) → Tells A (Err thin) → named thin < cells_of t
  named_inside (Nobody x) s = thin_inside 0 x s
  named_inside (Alone x) s = thin_inside 1 x s.1
