-- The pieces between bytes 10 as lines: behind others, and from a place on. Assumes nothing.
use Rattle.std.specs.Prelude.{◌≡◌, refl, List, [], ◌∷◌, ◌++◌, map, ℕ, ◌+◌, ◌-◌, ◌≤◌, ◌<◌, length, take}
use Rattle.std.specs.Prelude.{drop}
use Rattle.std.proofs.Common.{ap, arith, drop_of_length-le}
use Rattle.std.proofs.Math.Option.{Option}
use Rattle.reader_parts.specs.Words.{cut}
use Rattle.reader_parts.proofs.CutLaws.{cut_some}
use Rattle.reader_parts.specs.Scan.{to_next}
use Rattle.reader_parts.proofs.ScanLaws.{cut_at}
use Rattle.reader_forms.specs.Line.{Line, line_of, lines_of}

-- the pieces before some other are lines
pub lines_append : (xs : List (List ℕ)) (p : List ℕ) (ps : List (List ℕ)) → lines_of (xs ++ p ∷ ps) ≡ map line_of xs
    ++ lines_of (p ∷ ps)
unfolding lines_of
lines_append [] p ps = refl
lines_append (x ∷ []) p ps = refl
lines_append (x ∷ y ∷ xs) p ps = ap {B = List (Option Line)} (λ l. line_of x ∷ l) (lines_append (y ∷ xs) p ps)

-- lines from place i on
pub lines_at : (s : List ℕ) (i e : ℕ) → i + to_next 10 (drop i s) ≡ e → e < length s
    → lines_of (cut 10 (drop i s)) ≡ line_of (take (e - i) (drop i s)) ∷ lines_of (cut 10 (drop (e + 1) s))
unfolding lines_of
lines_at s i e q h = let c = cut_some 10 (drop (e + 1) s) in rw (cut_at 10 s i e q h, c.are)

pub lines_end : (s : List ℕ) → lines_of (cut 10 (drop (length s) s)) ≡ []
unfolding lines_of cut
lines_end s = let h : length s ≤ length s = omega arith in rw (drop_of_length-le s h)
