-- A window takes six bytes of its line, so an accepted text has at most 10,922 windows; a bid takes 16 with the byte 10 of its line.
-- Assumes nothing.
use Rattle.std.specs.Prelude.{◌≡◌, refl, List, [], ◌∷◌, Bool, true, false, cond, ℕ, suc, ◌+◌, ◌*◌, ◌≤◌, length}
use Rattle.std.specs.Prelude.{eqb, ltb}
use Rattle.std.proofs.Common.{ap, ◌∙◌, arith, length-append, ltb-false}
use Rattle.std.proofs.Math.Option.{Option, none, some}
use Rattle.tender.specs.declared.Window.{Window}
use Rattle.tender.specs.declared.Tender.{Tender}
use Rattle.tender.specs.Tables.{Row}
use Rattle.reader_parts.specs.Words.{cut, grow_first}
use Rattle.reader_forms.specs.Line.{BidLine, Line, tender, bid, reserve, line_of, lines_of}
use Rattle.reader_parts.proofs.CutLaws.{Pieces, cut_some}
use Rattle.reader_forms.proofs.SizeLaws.{line_long}
use Rattle.tender.specs.declared.Refusal.TheVariants.{TextTooLong}
use Rattle.reader_text.specs.Read.{accepted, refused, bids_of, all_windows, read_lines, read_text}
use Rattle.reader_text.proofs.ReadLaws.{never, read_lines_lem}
use Rattle.reader_text.proofs.HeadLaws.{head_is, accepted_head}
use Rattle.reader_text.proofs.RulesLaws.{rows_from_length}

-- the bytes of the pieces, with one for what stands after each
size : List (List ℕ) → ℕ
size [] = 0
size (p ∷ ps) = length p + 1 + size ps

cut_size : (d : ℕ) (s : List ℕ) → size (cut d s) ≡ length s + 1
unfolding cut grow_first size
cut_size d [] = refl
cut_size d (b ∷ s) = go (eqb b d) (cut_some d s) (cut_size d s)
  where
    grown : (ps : List (List ℕ)) → Pieces ps → size (grow_first b ps) ≡ suc (size ps)
    grown ps c = rw c.are (omega arith)

    go : (t : Bool) → Pieces (cut d s) → size (cut d s) ≡ length s + 1
        → size (cond t ([] ∷ cut d s) (grow_first b (cut d s))) ≡ suc (length s)
        + 1
    go true c e = omega arith
    go false c e = omega (arith, grown (cut d s) c)

-- each of the bids has a window, and so many bytes suffice for them
abbrev Sized : List BidLine → ℕ → Type 0
Sized bs bytes = (length bs ≤ length (all_windows bs)) × (6 * length (all_windows bs) + 10 * length bs ≤ bytes)

-- the bids among the lines
lines_size : (ps : List (List ℕ)) → Sized (bids_of (lines_of ps)) (size ps)
unfolding lines_of bids_of all_windows size
lines_size [] = (omega arith, omega arith)
lines_size ([] ∷ []) = (omega arith, omega arith)
lines_size ((b ∷ p) ∷ []) = (omega arith, omega arith)
lines_size (p ∷ q ∷ ps) = go (line_of p) (line_long p) (lines_size (q ∷ ps))
  where
    go : (x : Option Line)
        → ((b : BidLine) → x ≡ some (bid b) → (1 ≤ length b.windows) × (6 * length b.windows + 9 ≤ length p))
        → Sized (bids_of (lines_of (q ∷ ps))) (size (q ∷ ps))
        → Sized (bids_of (x ∷ lines_of (q ∷ ps))) (length p + 1 + size (q ∷ ps))
    go none f ih = (ih.0, omega (arith, ih.1))
    go (some (tender t)) f ih = (ih.0, omega (arith, ih.1))
    go (some (reserve v)) f ih = (ih.0, omega (arith, ih.1))
    go (some (bid b)) f ih =
        let l = f b refl in
        let n = length-append b.windows (all_windows (bids_of (lines_of (q ∷ ps)))) in
        (omega (arith, ih.0, l.0), omega (arith, ih.1, l.1))

pub short_text : (T : Tender) (R : List Row) (W : List Window) (text : List ℕ) → read_text text ≡ accepted T R W
    → length text ≤ 65536
unfolding read_text
short_text T R W text e = go (ltb 65536 (length text)) refl e
  where
    go : (t : Bool) → ltb 65536 (length text) ≡ t → cond t (refused TextTooLong) (read_lines (lines_of (cut 10 text)))
        ≡ accepted T R W
        → length text ≤ 65536
    go true f x = never x
    go false f x = ltb-false 65536 (length text) f

-- the rows and the windows of an accepted text
sizes : (T : Tender) (R : List Row) (W : List Window) (text : List ℕ) → read_text text ≡ accepted T R W
    → (length R ≤ length W) × (6 * length W + 10 * length R ≤ length text + 1)
sizes T R W text e = go (lines_of (cut 10 text)) (lines_size (cut 10 text)) (read_lines_lem T R W text e)
  where
    go : (ls : List (Option Line)) → Sized (bids_of ls) (size (cut 10 text)) → read_lines ls ≡ accepted T R W
        → (length R ≤ length W) × (6 * length W + 10 * length R ≤ length text + 1)
    go ls h x =
        let g = accepted_head T R W ls x in
        let k = rw (head_is ls T g.from g.rest g.head).bids at h in
        let w = ap length g.windows in
        let r = ap length g.rows ∙ rows_from_length 0 (bids_of g.rest) in
        (omega (arith, k.0), omega (arith, k.1, cut_size 10 text))

pub size_law : (T : Tender) (R : List Row) (W : List Window) (text : List ℕ) → read_text text ≡ accepted T R W → length W ≤ 10922
size_law T R W text e = omega (arith, (sizes T R W text e).1, short_text T R W text e)

-- a bid takes 16 bytes at least, as "(bid 1 1 (0 1))" and a byte 10
pub bids_few : (T : Tender) (R : List Row) (W : List Window) (text : List ℕ) → read_text text ≡ accepted T R W
    → 16 * length R ≤ length text + 1
bids_few T R W text e = let s = sizes T R W text e in omega (arith, s.0, s.1)
