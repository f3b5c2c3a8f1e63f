-- Each byte of an accepted text is a digit, a space, a bracket, a newline or a letter. Assumes nothing.
use Rattle.std.specs.Prelude.{◌≡◌, refl, List, [], ◌∷◌, true, ℕ}
use Rattle.std.proofs.Math.Option.{Option, none, some}
use Rattle.tender.specs.declared.Window.{Window}
use Rattle.tender.specs.declared.Tender.{Tender}
use Rattle.tender.specs.Tables.{Row}
use Rattle.reader_parts.specs.Words.{cut}
use Rattle.reader_forms.specs.LinePlain.{plain, all_plain}
use Rattle.reader_forms.proofs.LinePlainLaws.{PlainPieces, cut_plain, line_plain}
use Rattle.reader_forms.specs.Line.{Line, line_of, lines_of}
use Rattle.reader_text.specs.Read.{accepted, read_lines, read_text}
use Rattle.reader_parts.proofs.CutLaws.{Pieces, cut_some}
use Rattle.reader_text.proofs.ReadLaws.{read_lines_lem}
use Rattle.reader_text.proofs.HeadLaws.{AllRead, accepted_head, accepted_read}

pieces_plain : (p : List ℕ) (ps : List (List ℕ)) → AllRead (lines_of (p ∷ ps)) → PlainPieces (p ∷ ps)
unfolding lines_of all_plain
pieces_plain [] [] a = (refl, tt)
pieces_plain (b ∷ p) [] a = absurd a
pieces_plain p (q ∷ ps) a = go (line_of p) refl a (pieces_plain q ps)
  where
    go : (x : Option Line) → line_of p ≡ x → AllRead (x ∷ lines_of (q ∷ ps))
        → (AllRead (lines_of (q ∷ ps)) → PlainPieces (q ∷ ps))
        → PlainPieces (p ∷ q ∷ ps)
    go none e h ih = absurd h
    go (some l) e h ih = (line_plain p l e, ih h)

pub plain_law : (T : Tender) (R : List Row) (W : List Window) (text : List ℕ) → read_text text ≡ accepted T R W
    → all_plain text ≡ true
unfolding plain
plain_law T R W text e = go (lines_of (cut 10 text)) refl (cut_some 10 text) (read_lines_lem T R W text e)
  where
    go : (ls : List (Option Line)) → lines_of (cut 10 text) ≡ ls → Pieces (cut 10 text) → read_lines ls ≡ accepted T R W
        → all_plain text ≡ true
    go ls q c x =
        let m : lines_of (c.first ∷ c.rest) ≡ ls = rw (← c.are) q in
        let r : AllRead (lines_of (c.first ∷ c.rest)) = rw m (accepted_read T R W ls (accepted_head T R W ls x)) in
        cut_plain 10 text refl (rw c.are (pieces_plain c.first c.rest r))
