-- The lines of bytes that end with a byte 10. Assumes nothing.
use Rattle.std.specs.Prelude.{ℕ, ◌+◌, ◌-◌, ◌<◌, ◌≡◌, refl, List, [], ◌∷◌, ◌++◌, map, false, length, take}
use Rattle.std.specs.Prelude.{drop, get_or}
use Rattle.std.proofs.Common.{ap, ◌∙◌, append-nil, arith, length-drop, get_or-drop}
use Rattle.reader_parts.specs.Words.{cut, among}
use Rattle.reader_parts.proofs.CutLaws.{cut_word, cut_append}
use Rattle.reader_parts.specs.Scan.{to_next, Ended}
use Rattle.reader_parts.proofs.ScanLaws.{next_upto}
use Rattle.reader_forms.specs.Line.{line_of, lines_of}
use Rattle.reader_forms.specs.LineFront.{first_line}
use Rattle.reader_forms.proofs.PiecesLaws.{lines_append, lines_at}

module _ (s : List ℕ) (at : ℕ) (x : Ended s) (h : at < length s) where
  -- a byte 10 follows
  pub ended_in : at + to_next 10 (drop at s) < length s
  ended_in =
      let k : at + (length s - 1 - at) ≡ length s - 1 = omega arith in
      let l : length s - 1 - at < length (drop at s) = rw length-drop (omega arith) in
      let e : get_or (drop at s) (length s - 1 - at) 0 ≡ 10 = get_or-drop at s (length s - 1 - at) 0 ∙ ap (λ i. get_or s i 0) k
      ∙ x.1 in
      omega (arith, next_upto 10 (drop at s) (length s - 1 - at) l e)

  -- the next line, and those after its byte 10
  pub lines_on : lines_of (cut 10 (drop at s)) ≡ line_of (first_line (drop at s))
      ∷ lines_of (cut 10 (drop (at + to_next 10 (drop at s) + 1) s))
  lines_on =
      let e : at + to_next 10 (drop at s) - at ≡ to_next 10 (drop at s) = omega arith in
      lines_at s at (at + to_next 10 (drop at s)) refl ended_in
      ∙ ap (λ n. line_of (take n (drop at s)) ∷ lines_of (cut 10 (drop (at + to_next 10 (drop at s) + 1) s))) e

  -- by the place where they begin
  pub lines_next : (e : ℕ) → at + to_next 10 (drop at s) + 1 ≡ e
      → lines_of (cut 10 (drop at s)) ≡ line_of (first_line (drop at s)) ∷ lines_of (cut 10 (drop e s))
  lines_next e q = lines_on ∙ ap (λ n. line_of (first_line (drop at s)) ∷ lines_of (cut 10 (drop n s))) q

cut_none : (d : ℕ) (y : List ℕ) → among d y ≡ false → cut d y ≡ y ∷ []
unfolding cut
cut_none d y n = rw (append-nil y) at (cut_word d y [] [] [] n refl)

-- the bytes after the last byte 10 are a line by themselves
pub lines_rest : (x y : List ℕ) → among 10 y ≡ false
    → lines_of (cut 10 (x ++ 10 ∷ y)) ≡ lines_of (cut 10 (x ++ 10 ∷ [])) ++ lines_of (y ∷ [])
unfolding lines_of cut
lines_rest x y n =
    let a : lines_of (cut 10 (x ++ 10 ∷ y)) ≡ map line_of (cut 10 x) ++ lines_of (y ∷ []) =
    rw (cut_append 10 x y, cut_none 10 y n) (lines_append (cut 10 x) y []) in
    let b : lines_of (cut 10 (x ++ 10 ∷ [])) ≡ map line_of (cut 10 x) =
    rw (cut_append 10 x []) (lines_append (cut 10 x) [] [] ∙ append-nil (map line_of (cut 10 x))) in
    a ∙ rw b

-- and alone where there is no byte 10
pub lines_none : (y : List ℕ) → among 10 y ≡ false → lines_of (cut 10 y) ≡ lines_of (y ∷ [])
lines_none y n = rw (cut_none 10 y n)
