-- What comes of lines that all end with byte 10, and of a rest after them. Assumes nothing.
use Rattle.std.specs.Prelude.{ℕ, ◌+◌, ◌≡◌, refl, List, [], ◌++◌, Bool, length, Ok, Err}
use Rattle.std.proofs.Common.{◌∙◌, append-nil}
use Rattle.std.proofs.Math.Path.{ap}
use Rattle.std.proofs.Math.Bool.{true, false}
use Rattle.std.proofs.Math.Option.{Option}
use Rattle.tender.specs.declared.Tender.{Tender}
use Rattle.tender.specs.declared.Refusal.{Refusal}
use Rattle.tender.specs.declared.Refusal.TheVariants.{BadForm}
use Rattle.reader_forms.specs.Line.{Line}
use Rattle.reader_text.specs.Read.{ReadOutcome, accepted, refused, rows_from, all_windows, bids_of, checked, tables, begun, halted}
use Rattle.reader_text.specs.Read.{head_of, read_lines}
use Rattle.reader_text.proofs.HeadLaws.{lines_halted, lines_begun}
use Rattle.reader_text.proofs.RestLaws.{halted_rest, faulty_rest, faultless_rest}
use Rattle.reader_text.proofs.RulesLaws.{rows_from_length}
use Rattle.reader_bids.specs.Steps.{TablesHold}
use Rattle.reader_fill.specs.Answer.{fill_answer, Holds}
use Rattle.reader_fill.specs.Rest.{rest_line}

-- a refusal is answered
pub told_refused : (o : ReadOutcome) (r : Refusal) (rows spans : List ℕ) → o ≡ refused r
    → (Err r ≡ fill_answer o) × Holds o rows spans
told_refused o r rows spans e = rw e (refl, tt)

module _ (ls : List (Option Line)) where
  pub head_refused : (rest : Bool) (r : Refusal) → head_of ls ≡ halted r → read_lines (ls ++ rest_line rest) ≡ refused r
  unfolding rest_line
  head_refused true r e = halted_rest ls r e
  head_refused false r e = ap read_lines (append-nil ls) ∙ lines_halted ls r e

  module _ (t : Tender) (from : ℕ) (more : List (Option Line)) (g : head_of ls ≡ begun t from more) where
    pub bids_refused : (rest : Bool) (r : Refusal) → ((out : ReadOutcome) → checked t from [] more out ≡ refused r)
        → read_lines (ls ++ rest_line rest) ≡ refused r
    unfolding rest_line
    bids_refused true r h = faulty_rest ls t from more g r h
    bids_refused false r h = ap read_lines (append-nil ls) ∙ lines_begun ls t from more g ∙ h (tables t (bids_of more))

    module _ (k m : ℕ) (rows spans : List ℕ) (h : TablesHold t from more k m rows spans) where
      pub rest_refused : (rest : Bool) → rest ≡ true → read_lines (ls ++ rest_line rest) ≡ refused (BadForm (from + k))
      unfolding rest_line
      rest_refused rest q = rw q (faultless_rest ls t from more g k h.bids h.faultless)

      lines_accepted : read_lines (ls ++ rest_line false) ≡ accepted t (rows_from 0 (bids_of more)) (all_windows (bids_of more))
      unfolding rest_line tables
      lines_accepted = ap read_lines (append-nil ls) ∙ lines_begun ls t from more g ∙ h.faultless (tables t (bids_of more))

      pub told_accepted : (rest : Bool) → rest ≡ false
          → (Ok (record { tender = t; bids = k; windows = m }) ≡ fill_answer (read_lines (ls ++ rest_line rest)))
          × Holds (read_lines (ls ++ rest_line rest)) rows spans
      told_accepted rest q =
          let a : length (rows_from 0 (bids_of more)) ≡ k = rows_from_length 0 (bids_of more) ∙ h.bids in
          rw (q, lines_accepted) (rw (a, h.places), (rw a h.rows_are, rw h.places h.windows_are))
