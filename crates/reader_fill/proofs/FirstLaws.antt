-- What comes of a text's head, from what is noted of its first line. Assumes nothing.
use Rattle.std.specs.Prelude.{ℕ, ◌≡◌, List, ◌∷◌, Result}
use Rattle.std.proofs.Common.{sym, subst, arith}
use Rattle.std.proofs.Math.Option.{Option, none, some}
use Rattle.tender.specs.declared.Refusal.{Refusal}
use Rattle.tender.specs.declared.Refusal.TheVariants.{BadForm}
use Rattle.reader_forms.specs.Line.{TenderLine, Line, tender, bid, reserve}
use Rattle.reader_forms.specs.Tally.{Note, tender_note, bid_note, reserve_note, noted}
use Rattle.reader_line.specs.Answer.{head_line}
use Rattle.reader_text.specs.Read.{tender_fault, halted, reserve_in, head_of}
use Rattle.reader_text.specs.Read as reading
use Rattle.reader_text.proofs.HeadLaws.{broken_first, bid_first, reserve_first, tender_faulty, tender_faultless}
use Rattle.reader_fill.specs.Opened.{Opened}
use Rattle.reader_fill.specs.declared.Head.{Head}

pub is_tender : (m : ℕ) (table : List ℕ) (o : Option Line) (t : TenderLine) → some (tender_note t) ≡ noted m table (head_line o)
    → o ≡ some (tender t)
unfolding noted head_line
is_tender m table none t e = let z : ◌≡◌ {A = ℕ} 0 1 = cc in absurd (omega arith)
is_tender m table (some (tender u)) t e = cc
is_tender m table (some (bid b)) t e = let z : ◌≡◌ {A = ℕ} 0 1 = cc in absurd (omega arith)
is_tender m table (some (reserve p)) t e = let z : ◌≡◌ {A = ℕ} 0 1 = cc in absurd (omega arith)

-- what is noted is not the tender's line
abbrev pub NoTender : Option Note → Type 0
NoTender none = Unit {0}
NoTender (some (tender_note t)) = ⊥
NoTender (some (bid_note n p t)) = Unit {0}
NoTender (some (reserve_note p)) = Unit {0}

module _ (ls rest : List (Option Line)) (o : Option Line) (q : ls ≡ o ∷ rest) where
  pub first_other : (m : ℕ) (table : List ℕ) (x : Option Note) → x ≡ noted m table (head_line o) → NoTender x
      → head_of ls ≡ halted (BadForm 1)
  unfolding noted head_line
  first_other m table x e n = rw q (go o e)
    where
      go : (o : Option Line) → x ≡ noted m table (head_line o) → head_of (o ∷ rest) ≡ halted (BadForm 1)
      go none h = broken_first rest
      go (some (tender t)) h = absurd (subst NoTender h n)
      go (some (bid b)) h = bid_first b rest
      go (some (reserve p)) h = reserve_first p rest

  pub first_faulty : (t : TenderLine) → o ≡ some (tender t) → (f : ℕ → Refusal) → tender_fault t ≡ some f
      → head_of ls ≡ halted (f 1)
  first_faulty t e f l = rw (q, e) (tender_faulty t f rest l)

  pub first_sound : (t : TenderLine) → o ≡ some (tender t) → tender_fault t ≡ none → head_of ls ≡ reserve_in t 2 rest
  first_sound t e l = rw (q, e) (tender_faultless t rest l)

pub opened_same : (text : List ℕ) (g h : reading.Head) (r : Result Head Refusal) → g ≡ h → Opened text h r → Opened text g r
opened_same text g h r e o = subst (λ x. Opened text x r) (sym e) o
