-- The lines of a text are those up to its last byte 10, and the rest. Assumes nothing.
use Rattle.std.specs.Prelude.{◌≡◌, ◌≢◌, refl, List, [], ◌∷◌, ◌++◌, false, ℕ, suc, ◌+◌, ◌-◌, ◌≤◌}
use Rattle.std.specs.Prelude.{◌<◌, length, get_or, take, drop, ltb}
use Rattle.std.proofs.Common.{sym, ap, ◌∙◌, arith, take-append-drop, length-drop, take-suc, get_or-take, get_or-drop, length-take-le}
use Rattle.std.proofs.Common.{lt-ltb, le-ltb, ne_eqb}
use Rattle.std.proofs.Math.Seq.{append_snoc}
use Rattle.reader_parts.specs.Words.{cut, among}
use Rattle.reader_parts.specs.Scan.{Ended}
use Rattle.reader_forms.specs.Line.{lines_of}
use Rattle.reader_forms.proofs.EndedLaws.{lines_rest, lines_none}
use Rattle.reader_text.specs.Read.{refused, halted, head_of, read_lines}
use Rattle.reader_text.proofs.HeadLaws.{no_line, broken_first, lines_halted}
use Rattle.tender.specs.declared.Refusal.TheVariants.{BadForm}
use Rattle.reader_fill.specs.Rest.{LinesEnd, rest_line}

-- the search from the end

none_among : (s : List ℕ) → ((k : ℕ) → k < length s → get_or s k 0 ≢ 10) → among 10 s ≡ false
unfolding among
none_among [] n = refl
none_among (b ∷ s) n = rw (ne_eqb b 10 (n 0 (omega arith))) (none_among s (λ k h. n (suc k) (omega arith)))

none_from : (text : List ℕ) (i : ℕ) → ((k : ℕ) → i ≤ k → k < length text → get_or text k 0 ≢ 10)
    → among 10 (drop i text) ≡ false
none_from text i n =
    none_among (drop i text) (λ k h. rw get_or-drop (n (i + k) (omega arith) (omega (arith, length-drop i text))))

pub last_found : (text : List ℕ) (i : ℕ) → i < length text → get_or text i 0 ≡ 10
    → ((k : ℕ) → i + 1 ≤ k → k < length text → get_or text k 0 ≢ 10) → LinesEnd text (i + 1)
last_found text i h e n =
    let q : i + 1 - 1 ≡ i = omega arith in
    record { inside = omega arith; last = λ z. rw q e; none_after = none_from text (i + 1) n }

pub none_found : (text : List ℕ) → ((k : ℕ) → k < length text → get_or text k 0 ≢ 10) → LinesEnd text 0
none_found text n =
    record { inside = omega arith; last = λ z. absurd (omega arith); none_after = none_from text 0 (λ k l h. n k h) }

-- the rest

rest_is : (y : List ℕ) (n e : ℕ) → length y ≡ n - e → lines_of (y ∷ []) ≡ rest_line (ltb e n)
unfolding lines_of rest_line
rest_is [] n e h = rw (le-ltb e n (omega arith))
rest_is (b ∷ y) n e h = rw (lt-ltb e n (omega arith))

module _ (text : List ℕ) (e : ℕ) (x : LinesEnd text e) (h : 0 < e) where
  pub front_ended : Ended (take e text)
  front_ended =
      let l = length-take-le e text x.inside in
      let i : e - 1 < e = omega arith in
      (omega (arith, l), rw l (get_or-take e text (e - 1) 0 i ∙ x.last h))

  pub front_length : length (take e text) ≤ length text
  front_length = omega (arith, length-take-le e text x.inside, x.inside)

  front : take e text ≡ take (e - 1) text ++ 10 ∷ []
  front =
      let q : suc (e - 1) ≡ e = omega arith in
      ap (λ n. take n text) (sym q) ∙ take-suc text (e - 1) 0 (omega (arith, x.inside))
      ∙ ap (λ b. take (e - 1) text ++ b ∷ []) (x.last h)

  pub lines_parted : lines_of (cut 10 text) ≡ lines_of (cut 10 (take e text)) ++ rest_line (ltb e (length text))
  lines_parted =
      let a : text ≡ take (e - 1) text ++ 10 ∷ drop e text =
      sym (take-append-drop e text) ∙ ap (λ l. l ++ drop e text) front ∙ append_snoc (take (e - 1) text) 10 (drop e text) in
      ap (λ l. lines_of (cut 10 l)) a ∙ lines_rest (take (e - 1) text) (drop e text) x.none_after
      ∙ rw (front, rest_is (drop e text) (length text) e (length-drop e text))

-- no line ends
pub lines_unended : (text : List ℕ) (e : ℕ) → LinesEnd text e → e ≡ 0
    → read_lines (lines_of (cut 10 text)) ≡ refused (BadForm 1)
unfolding lines_of
lines_unended text e x z = lines_halted (lines_of (cut 10 text)) (BadForm 1) (ap head_of (lines_none text n) ∙ go text)
  where
    n : among 10 text ≡ false
    n = rw z at x.none_after

    go : (y : List ℕ) → head_of (lines_of (y ∷ [])) ≡ halted (BadForm 1)
    go [] = no_line
    go (b ∷ y) = broken_first []
