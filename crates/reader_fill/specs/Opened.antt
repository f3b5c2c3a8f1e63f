-- What comes of a text's head, as the definition's value.
use Rattle.std.specs.Prelude.{◌≡◌, List, ◌∷◌, ℕ, ◌≤◌, length, drop, Some, None, Result, Ok, Err}
use Rattle.std.proofs.Math.Option.{some}
use Rattle.tender.specs.declared.Tender.{Tender}
use Rattle.reader_parts.specs.Words.{cut}
use Rattle.reader_forms.specs.Line.{reserve, lines_of}
use Rattle.reader_text.specs.Read.{begun, halted, Unreserved}
use Rattle.reader_text.specs.Read as reading
use Rattle.tender.specs.declared.Refusal.{Refusal}
use Rattle.reader_parts.specs.Answer.{Reading}
use Rattle.reader_fill.specs.declared.Head.{Head}

-- after the head h the bids begin at byte `at`, on line `from`
pub record Begins (text : List ℕ) (h : reading.Head) (t : Tender) (at from : ℕ) : Type 0 where
  pub inside : at ≤ length text
  pub lines : h ≡ begun t from (lines_of (cut 10 (drop at text)))

-- what comes of the head h
abbrev pub Opened : List ℕ → reading.Head → Result Head Refusal → Type 0
Opened text h (Ok r) = Begins text h r.tender r.at r.line
Opened text h (Err r) = h ≡ halted r

-- which line stands at byte `at`: the reserve's, with the lines from the place past it on behind it, or another
abbrev pub NextIs : List ℕ → ℕ → Reading ℕ → Type 0
NextIs text at (Some r) = (r.next ≤ length text)
    × (lines_of (cut 10 (drop at text)) ≡ some (reserve r.value) ∷ lines_of (cut 10 (drop r.next text)))
NextIs text at None = Unreserved (lines_of (cut 10 (drop at text)))
