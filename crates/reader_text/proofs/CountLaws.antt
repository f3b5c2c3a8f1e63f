-- How much an accepted text fills: a row for each line after the head, at most 1,000 rows and 32,000 windows. Assumes nothing.
use Rattle.std.specs.Prelude.{◌≡◌, refl, List, [], ◌∷◌, ◌++◌, map, Bool, true, false, cond, ℕ, ◌+◌, ◌*◌}
use Rattle.std.specs.Prelude.{◌≤◌, length, eqb}
use Rattle.std.proofs.Common.{ap, ◌∙◌, arith, length-append, le-leb}
use Rattle.std.proofs.Math.Option.{Option, none, some}
use Rattle.std.proofs.lemmas.List.{length-map}
use Rattle.tender.specs.declared.Kind.{Kind}
use Rattle.tender.specs.declared.Window.{Window}
use Rattle.tender.specs.declared.Tender.{Tender}
use Rattle.tender.specs.Tables.{Row}
use Rattle.reader_parts.specs.Words.{cut, grow_first}
use Rattle.reader_forms.specs.Line.{Line, head_lines, line_of, lines_of}
use Rattle.reader_text.specs.Read.{ReadOutcome, accepted, refused, bids_of, read_lines, read_text, fitted, read_into}
use Rattle.reader_parts.proofs.CutLaws.{Pieces, cut_some}
use Rattle.reader_text.proofs.ReadLaws.{read_lines_lem}
use Rattle.reader_text.proofs.HeadLaws.{head_is, AllRead, accepted_head, accepted_read}
use Rattle.reader_text.specs.Rules.{RowsRules, bytes_like}
use Rattle.reader_text.proofs.RulesLaws.{rows_from_length, rules_law}

-- the lines of an accepted text

cut_count : (d : ℕ) (s : List ℕ) → length (cut d s) ≡ bytes_like d s + 1
unfolding cut bytes_like
cut_count d [] = refl
cut_count d (b ∷ s) = go (eqb b d) (cut_some d s) (cut_count d s)
  where
    grown : (ps : List (List ℕ)) → Pieces ps → length (grow_first b ps) ≡ length ps
    grown ps c = rw c.are

    go : (t : Bool) → Pieces (cut d s) → length (cut d s) ≡ bytes_like d s + 1
        → length (cond t ([] ∷ cut d s) (grow_first b (cut d s)))
        ≡ cond t 1 0
        + bytes_like d s + 1
    go true c e = omega arith
    go false c e = omega (arith, grown (cut d s) c)

lines_count : (p : List ℕ) (ps : List (List ℕ)) → AllRead (lines_of (p ∷ ps))
    → length (lines_of (p ∷ ps)) + 1 ≡ length (p ∷ ps)
unfolding lines_of
lines_count [] [] a = refl
lines_count (b ∷ p) [] a = absurd a
lines_count p (q ∷ ps) a = go (line_of p) a (lines_count q ps)
  where
    go : (x : Option Line) → AllRead (x ∷ lines_of (q ∷ ps))
        → (AllRead (lines_of (q ∷ ps)) → length (lines_of (q ∷ ps)) + 1 ≡ length (q ∷ ps))
        → length (x ∷ lines_of (q ∷ ps)) + 1 ≡ length (p ∷ q ∷ ps)
    go none h ih = absurd h
    go (some l) h ih = omega (arith, ih h)

-- an accepted text has a row for each line after the head; each line ends with byte 10
pub lines_law : (T : Tender) (R : List Row) (W : List Window) (text : List ℕ) → read_text text ≡ accepted T R W
    → length R + length (head_lines T) ≡ bytes_like 10 text
lines_law T R W text e = go (lines_of (cut 10 text)) refl (cut_some 10 text) (read_lines_lem T R W text e)
  where
    go : (ls : List (Option Line)) → lines_of (cut 10 text) ≡ ls → Pieces (cut 10 text) → read_lines ls ≡ accepted T R W
        → length R + length (head_lines T) ≡ bytes_like 10 text
    go ls q c x =
        let g = accepted_head T R W ls x in
        let i = head_is ls T g.from g.rest g.head in
        let m : lines_of (c.first ∷ c.rest) ≡ ls = rw (← c.are) q in
        let r : AllRead (lines_of (c.first ∷ c.rest)) = rw m (accepted_read T R W ls g) in
        let o : length g.rest ≡ length (bids_of g.rest) = ap length g.bids ∙ simp length-map in
        let n : length ls ≡ length (head_lines T) + length g.rest = ap length i.lines
        ∙ length-append (map (λ l. some l) (head_lines T)) g.rest ∙ omega (arith, length-map (head_lines T) (λ l. some l)) in
        omega (
          arith,
          lines_count c.first c.rest r,
          ap length m,
          ap length c.are,
          cut_count 10 text,
          ap length g.rows,
          rows_from_length 0 (bids_of g.rest),
        )

-- counts

windows_few : (k : Kind) (used : List ℕ) (at : ℕ) (R : List Row) (end : ℕ) → RowsRules k used at R end
    → end ≤ at + 32 * length R
windows_few k used at [] end h = omega (arith, h)
windows_few k used at (r ∷ rs) end (h, hs) = let a = h.few_windows in
    let b = windows_few k (used ++ r.bidder ∷ []) (at + r.count) rs end hs in omega (arith, a, b)

-- at most 1,000 rows and 32,000 windows
pub counts_law : (T : Tender) (R : List Row) (W : List Window) (text : List ℕ) → read_text text ≡ accepted T R W
    → (length R ≤ 1000)
    × (length W ≤ 32000)
counts_law T R W text e =
    let r = rules_law T R W text e in
    let a = r.few_bids in
    let b = windows_few T.kind [] 0 R (length W) r.rows in
    (a, omega (arith, a, b))

-- tables of that size never answer 8
pub room_law : (text : List ℕ) (bid_rows window_rows : ℕ) → 1000 ≤ bid_rows → 32000 ≤ window_rows
    → read_into text bid_rows window_rows ≡ read_text text
unfolding read_into fitted
room_law text b w hb hw = go (read_text text) refl
  where
    go : (o : ReadOutcome) → read_text text ≡ o → fitted b w o ≡ o
    go (refused r) e = refl
    go (accepted T R W) e =
        let c = counts_law T R W text e in
        rw (le-leb (length R) b (omega (arith, c.0)), le-leb (length W) w (omega (arith, c.1)))
