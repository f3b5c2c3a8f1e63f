-- What the inner functions of the listing leave in the buffer in which the list is made.
use Rattle.std.specs.Prelude.{List, ◌++◌, ℕ, ◌≤◌, Ok, Err}
use Rattle.tender.specs.declared.Tender.{Tender}
use Rattle.reader_text.specs.Read.{read_text}
use Rattle.tender.specs.Types.{Answer}
use Rattle.award_rule.specs.Plain.{PlainPromise}
use Rattle.spelling.specs.Lines.{refused_line}
use Rattle.spelling.specs.Written.{Written}
use Rattle.listing_text.specs.Lines.{award_line, win_lines, last_lines}
use Rattle.listing_text.specs.List.{list_of}

-- the list of an award's answer, from the numbers of the table of bids and the flags and cents
unfoldable pub answer_lines : Tender → List ℕ → List ℕ → List ℕ → ℕ → Answer → List ℕ
unfolding award_line win_lines last_lines refused_line
answer_lines t bids won cents n (Ok totals) = award_line t ++ win_lines bids won cents n ++ last_lines t.reserve totals
answer_lines t bids won cents n (Err r) = refused_line r

-- the list of the award to these tables is written: the award left the lists `won` and `cents` and answered a
pub record AwardedWritten (t : Tender) (n : ℕ) (bids windows old new : List ℕ) (end : ℕ) : Type 0 where
  pub lent : ℕ
  pub enough : n ≤ lent
  pub old_won : List ℕ
  pub old_cents : List ℕ
  pub won : List ℕ
  pub cents : List ℕ
  pub answer : Answer
  pub promise : PlainPromise t.kind t n bids windows lent old_won old_cents won cents answer
  pub written : Written old 0 (answer_lines t bids won cents n answer) new end

-- the list of the text is written at the start of the buffer
pub record Made (text old new : List ℕ) (end : ℕ) : Type 0 where
  pub written : Written old 0 (list_of (read_text text)) new end
