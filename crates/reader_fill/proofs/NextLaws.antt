-- Whether the reserve's line stands next, from what is noted of the line. Assumes nothing.
use Rattle.std.specs.Prelude.{ℕ, ◌≤◌, List, ◌∷◌, length, drop}
use Rattle.std.proofs.Math.Path.{◌≡◌, subst}
use Rattle.std.proofs.Math.Option.{Option, none, some}
use Rattle.std.proofs.Common.{arith, drop_of_length-le}
use Rattle.reader_parts.specs.Words.{cut}
use Rattle.reader_forms.specs.Line.{Line, tender, bid, reserve, lines_of}
use Rattle.reader_forms.specs.Tally.{Note, tender_note, bid_note, reserve_note, noted}
use Rattle.reader_line.specs.Answer.{head_line}
use Rattle.reader_text.specs.Read.{Unreserved}

pub next_none : (text : List ℕ) (at : ℕ) → length text ≤ at → Unreserved (lines_of (cut 10 (drop at text)))
unfolding lines_of cut
next_none text at l = rw (drop_of_length-le text l) tt

-- what is noted is not the reserve's line
abbrev pub NoReserve : Option Note → Type 0
NoReserve none = Unit {0}
NoReserve (some (tender_note t)) = Unit {0}
NoReserve (some (bid_note n p t)) = Unit {0}
NoReserve (some (reserve_note p)) = ⊥

module _ (m : ℕ) (table : List ℕ) where
  pub next_other : (ls rest : List (Option Line)) (o : Option Line) → ls ≡ o ∷ rest → (x : Option Note)
      → x ≡ noted m table (head_line o) → NoReserve x → Unreserved ls
  unfolding noted head_line
  next_other ls rest o q x e n = rw q (go o e)
    where
      go : (o : Option Line) → x ≡ noted m table (head_line o) → Unreserved (o ∷ rest)
      go none h = tt
      go (some (tender t)) h = tt
      go (some (bid b)) h = tt
      go (some (reserve p)) h = subst NoReserve h n

  pub next_reserve : (ls rest : List (Option Line)) (o : Option Line) → ls ≡ o ∷ rest → (p : ℕ)
      → some (reserve_note p) ≡ noted m table (head_line o) → ls ≡ some (reserve p) ∷ rest
  unfolding noted head_line
  next_reserve ls rest o q p e = rw q (go o e)
    where
      go : (o : Option Line) → some (reserve_note p) ≡ noted m table (head_line o) → o ∷ rest ≡ some (reserve p) ∷ rest
      go none h = let z : ◌≡◌ {A = ℕ} 0 1 = cc in absurd (omega arith)
      go (some (tender t)) h = let z : ◌≡◌ {A = ℕ} 0 1 = cc in absurd (omega arith)
      go (some (bid b)) h = let z : ◌≡◌ {A = ℕ} 0 1 = cc in absurd (omega arith)
      go (some (reserve v)) h = cc
