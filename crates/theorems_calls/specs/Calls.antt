-- The public calls, each as one record: what it was lent, what it left, what it answered, and that it kept its contract.
use Rattle.std.specs.Prelude.{◌≡◌, List, ℕ, ◌/◌, length, take, Result}
use Rattle.tender.specs.declared.Kind.{Kind}
use Rattle.tender.specs.declared.Tender.{Tender}
use Rattle.tender.specs.declared.AwardRow.{AwardRow}
use Rattle.tender.specs.Types.{Answer}
use Rattle.tender.specs.Types.{Highest}
use Rattle.tender.specs.Tables.{bid_width, window_width}
use Rattle.reader_text.specs.Read.{read_into}
use Rattle.reader.specs.Answer.{read_answer, bids_after, windows_after}
use Rattle.tender.specs.declared.Refusal.{Refusal}
use Rattle.reader_fill.specs.declared.Filled.{Filled}
use Rattle.award_check.specs.Auction.{Auction, auction_of}
use Rattle.award_rule.specs.Award.{Outcome}
use Rattle.award_outcome.specs.Promise.{told_award, Promise}
use Rattle.listing_text.specs.List.{Listed}
use Rattle.writer.specs.Writes.{Writes}
use Rattle.rewrite.specs.Rewritten.{Rewritten}
use Rattle.highest_rule.specs.Highest.{highest_of}
use Rattle.highest_text.specs.Told.{HighestTold}

-- the text and the tables lent to `read`, the tables that it left and what it answered
pub record ReadRun : Type 0 where
  pub text : List ℕ
  pub bids : List ℕ
  pub windows : List ℕ
  pub after_bids : List ℕ
  pub after_windows : List ℕ
  pub answer : Result Filled Refusal

-- the contract of `read`, its three clauses
pub record ReadKept (r : ReadRun) : Type 0 where
  pub answers : r.answer ≡ read_answer (read_into r.text (length r.bids / bid_width) (length r.windows / window_width))
  pub rows : r.after_bids ≡ bids_after r.bids (read_into r.text (length r.bids / bid_width) (length r.windows / window_width))
  pub own : r.after_windows ≡ windows_after r.windows
      (read_into r.text (length r.bids / bid_width) (length r.windows / window_width))

-- `read`
pub record ReadCall : Type 0 where
  pub run : ReadRun
  pub kept : ReadKept run

-- `award_single`, `award_multi`
pub record AwardCall : Type 0 where
  pub kind : Kind
  pub tender : Tender
  pub count : ℕ
  pub bids : List ℕ
  pub windows : List ℕ
  pub rows_before : List AwardRow
  pub rows_after : List AwardRow
  pub answer : Answer
  pub promise : Promise kind tender count bids windows rows_before rows_after answer

-- the auction that its tables say
abbrev pub auction_by : AwardCall → Auction
auction_by c = auction_of c.tender c.count c.bids c.windows

-- what an award told
abbrev pub told_by : AwardCall → Outcome
told_by c = told_award c.count c.rows_after c.answer

-- a call from bytes to bytes in a lent buffer, which promises P of the text, the buffer before and after, and the answer
pub record BytesCall (P : List ℕ → List ℕ → List ℕ → ℕ → Type 0) : Type 0 where
  pub text : List ℕ
  pub buffer : List ℕ
  pub after_buffer : List ℕ
  pub answer : ℕ
  pub promise : P text buffer after_buffer answer

-- the bytes that it wrote
abbrev pub shown : {P : List ℕ → List ℕ → List ℕ → ℕ → Type 0} → BytesCall P → List ℕ
shown l = take l.answer l.after_buffer

-- `tender_list`, from C too
abbrev pub ListCall : Type 0
ListCall = BytesCall Listed

-- `write`
pub record WriteCall : Type 0 where
  pub tender : Tender
  pub count : ℕ
  pub bids : List ℕ
  pub windows : List ℕ
  pub buffer : List ℕ
  pub after_buffer : List ℕ
  pub answer : Result ℕ Refusal
  pub promise : Writes tender count bids windows buffer after_buffer answer

-- `tender_rewrite`, from C too
abbrev pub RewriteCall : Type 0
RewriteCall = BytesCall Rewritten

-- `highest_price`: nothing lent changes
pub record HighestCall : Type 0 where
  pub tender : Tender
  pub count : ℕ
  pub bids : List ℕ
  pub windows : List ℕ
  pub bidder : ℕ
  pub answer : Highest
  pub promise : answer ≡ highest_of tender count bids windows bidder

-- `tender_highest` with a bidder number, from C too
abbrev pub HighestLineCall : ℕ → Type 0
HighestLineCall bidder = BytesCall (λ text old new r. HighestTold text bidder old new r)
