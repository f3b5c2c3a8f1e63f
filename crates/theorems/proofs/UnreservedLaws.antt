-- Without a reserve nothing is added: awards weigh the bids alone, and lists and texts have no line more. Assumes nothing.
use Rattle.std.specs.Prelude.{◌≡◌, refl, ◌&&◌, List, ◌++◌, map, length, None}
use Rattle.std.proofs.Common.{ap, ◌∙◌, append-nil}
use Rattle.tender.specs.declared.Tender.{Tender}
use Rattle.tender.specs.declared.AwardRow.{AwardRow}
use Rattle.tender.specs.declared.Totals.{Totals}
use Rattle.tender.specs.Tables.{Row, rows_of}
use Rattle.reader_forms.specs.Line.{BidLine}
use Rattle.award_check.specs.Auction.{offered, house_of, offers_of}
use Rattle.award_check.proofs.AuctionLaws.{without_reserve, thin_told, owners_are, cells_are}
use Rattle.award_rule.specs.Award.{won, awarded, totals_of}
use Rattle.spelling.specs.Lines.{pair_line}
use Rattle.spelling.specs.Text.{tender_text, reserve_text, head_text, bids_text, text_of}
use Rattle.listing_text.specs.Lines.{total_word, award_line, house_line, last_lines}
use Rattle.listing_text.specs.List.{win_list, list_lines}
use Rattle.theorems_calls.specs.Calls.{AwardCall, auction_by}
use Rattle.theorems.specs.Between.{BidsAlone}

pub bids_alone : (c : AwardCall) → c.tender.reserve ≡ None → BidsAlone c
unfolding offers_of house_of totals_of
bids_alone c e = record {
  offers = ap (λ r. map (offered c.windows) (rows_of c.count c.bids) ++ house_of c.tender r) e
      ∙ append-nil (map (offered c.windows) (rows_of c.count c.bids));
  thin = λ m. thin_told c.tender c.count c.bids c.windows e m
      ∙ rw (owners_are c.tender c.count c.bids c.windows, cells_are c.tender c.count c.bids c.windows) refl;
  no_house = λ r. ap (λ b. b && won r (auction_by c) (auction_by c).owners)
      (without_reserve c.tender c.count c.bids c.windows e);
}

pub no_house_line : (t : Tender) (R : List Row) (rows : List AwardRow) (totals : Totals) → t.reserve ≡ None
    → list_lines t R (awarded rows totals)
    ≡ award_line t ++ win_list R rows (length R) ++ pair_line total_word totals.cost totals.paid
unfolding list_lines last_lines house_line
no_house_line t R rows totals e = ap (λ r. award_line t ++ win_list R rows (length R)
    ++ (house_line r totals.house ++ pair_line total_word totals.cost totals.paid)) e

pub no_reserve_line : (t : Tender) (bs : List BidLine) → t.reserve ≡ None → text_of t bs ≡ tender_text t ++ bids_text bs
unfolding text_of head_text reserve_text
no_reserve_line t bs e = ap (λ r. (tender_text t ++ reserve_text r) ++ bids_text bs) e
    ∙ ap (λ s. s ++ bids_text bs) (append-nil (tender_text t))
