-- An accepted text is the text spelt again from what was read, up to the spelling of prices. Assumes nothing.
use Rattle.std.specs.Prelude.{◌≡◌, refl, List, [], ◌∷◌, ◌++◌, map, ℕ, ◌+◌, ◌≤◌, length, Some, None}
use Rattle.std.proofs.Common.{sym, ap, subst, ◌∙◌, append_assoc, append-nil, arith}
use Rattle.std.proofs.Math.Option.{Option, none, some}
use Rattle.tender.specs.declared.Kind.{Kind}
use Rattle.tender.specs.declared.Window.{Window}
use Rattle.tender.specs.Types.{Reserve}
use Rattle.tender.specs.declared.Tender.{Tender}
use Rattle.tender.specs.Keywords.{reserve_word}
use Rattle.tender.specs.Tables.{Row, flat_windows}
use Rattle.reader_parts.specs.Words.{cut}
use Rattle.reader_forms.specs.Line.{BidLine, Line, bid, reserve_lines, head_lines, line_of_words, line_of, lines_of}
use Rattle.reader_parts.proofs.CutLaws.{cut_some}
use Rattle.reader_parts.proofs.RejoinedLaws.{rejoined, rejoined_cut}
use Rattle.reader_text.specs.Read.{accepted, rows_from, all_windows, bids_of, read_text}
use Rattle.reader_text.specs.Rules.{RowsRules}
use Rattle.reader_text.proofs.RulesLaws.{rules_law}
use Rattle.reader_text.proofs.ReadLaws.{read_lines_lem}
use Rattle.reader_text.proofs.HeadLaws.{head_is, accepted_head}
use Rattle.spelling.specs.Lines.{one_line_as}
use Rattle.spelling.specs.Text.{bid_text_as, tender_text, bid_in}
use Rattle.spelling.specs.Spelt.{SpeltBids, SpeltReserve, Spelt}
use Rattle.spelling.proofs.WordLaws.{spaced, tender_words, one_words, bid_words, bid_line_lem, tender_line_lem, one_line_lem}
use Rattle.writer_back.specs.OwnLaws.{bids_filled}
use Rattle.writer_back.specs.SpeltWordLaws.{words_as, Priced, words_are}

-- the lines one after the other, each ended by byte 10
abbrev pub LinesSpelt : List ℕ → List Line → Type 0
LinesSpelt s [] = s ≡ []
LinesSpelt s (x ∷ xs) = (p : List ℕ) × (rest : List ℕ) × Priced p x × (s ≡ spaced (words_as p x) ++ 10 ∷ rest)
    × LinesSpelt rest xs

-- the pieces between bytes 10: the lines, and nothing after the last
pieces_are : (p : List ℕ) (ps : List (List ℕ)) (xs : List Line) → lines_of (p ∷ ps) ≡ map (λ x. some x) xs
    → LinesSpelt (rejoined 10 (p ∷ ps)) xs
unfolding lines_of line_of rejoined
pieces_are [] [] [] e = refl
pieces_are [] [] (x ∷ xs) e = let n = ap length e in absurd (omega (arith, n))
pieces_are (b ∷ p) [] [] e = let n = ap length e in absurd (omega (arith, n))
pieces_are (b ∷ p) [] (x ∷ xs) e = let f : none ≡ some x = cc in let z : ◌≡◌ {A = ℕ} 0 1 = cc in absurd (omega arith)
pieces_are p (q ∷ ps) [] e = let n = ap length e in absurd (omega (arith, n))
pieces_are p (q ∷ ps) (x ∷ xs) e =
    let f : line_of_words (cut 32 p) ≡ some x = cc in
    let g : lines_of (q ∷ ps) ≡ map (λ x. some x) xs = cc in
    let w = words_are (cut 32 p) x f in
    let i : p ≡ spaced (words_as w.p x) = sym (rejoined_cut 32 p) ∙ ap (rejoined 32) w.are in
    (w.p, rejoined 10 (q ∷ ps), w.priced, ap (λ l. l ++ 10 ∷ rejoined 10 (q ∷ ps)) i, pieces_are q ps xs g)

lines_of_lem : (above : List Line) (bs : List BidLine) → map (λ x. some x) above ++ map (λ b. some (bid b)) bs
    ≡ map (λ x. some x) (above ++ map (λ b. bid b) bs)
lines_of_lem [] [] = refl
lines_of_lem [] (b ∷ bs) = ap {B = List (Option Line)} (λ l. some (bid b) ∷ l) (lines_of_lem [] bs)
lines_of_lem (x ∷ above) bs = ap {B = List (Option Line)} (λ l. some x ∷ l) (lines_of_lem above bs)

-- the bids whose lines an accepted text has after its head, and whose rows and windows it fills into the tables
pub record BidsRead (text : List ℕ) (T : Tender) (R : List Row) (W : List Window) : Type 0 where
  pub bids : List BidLine
  pub rows : R ≡ rows_from 0 bids
  pub windows : W ≡ all_windows bids
  pub lines : LinesSpelt text (head_lines T ++ map (λ b. bid b) bids)

pub bids_read : (text : List ℕ) (T : Tender) (R : List Row) (W : List Window) → read_text text ≡ accepted T R W
    → BidsRead text T R W
bids_read text T R W e =
    let c = cut_some 10 text in
    let ls = lines_of (cut 10 text) in
    let g = accepted_head T R W ls (read_lines_lem T R W text e) in
    let i = head_is ls T g.from g.rest g.head in
    let bs = bids_of g.rest in
    let xs = head_lines T ++ map (λ b. bid b) bs in
    let m : lines_of (c.first ∷ c.rest) ≡ map (λ x. some x) (head_lines T) ++ map (λ b. some (bid b)) bs = ap lines_of (sym c.are)
    ∙ i.lines ∙ ap (λ r. map (λ x. some x) (head_lines T) ++ r) g.bids in
    let t : rejoined 10 (c.first ∷ c.rest) ≡ text = ap (rejoined 10) (sym c.are) ∙ rejoined_cut 10 text in
    record {
      bids = bs;
      rows = g.rows;
      windows = g.windows;
      lines = subst (λ s. LinesSpelt s xs) t (pieces_are c.first c.rest xs (m ∙ lines_of_lem (head_lines T) bs));
    }

-- the bids of the rows, whatever stands past the windows
pub bids_of_lem : (text : List ℕ) (T : Tender) (R : List Row) (W : List Window) (w : List ℕ) (s : BidsRead text T R W)
    → map (bid_in (flat_windows W ++ w)) R ≡ s.bids
bids_of_lem text T R W w s =
    ap (λ (u : List Window). map (bid_in (flat_windows u ++ w)) R) s.windows
    ∙ ap (map (bid_in (flat_windows (all_windows s.bids) ++ w))) s.rows
    ∙ bids_filled 0 (flat_windows (all_windows s.bids) ++ w) w s.bids refl

-- the words of the lines are their bytes

-- what begins with a line's words begins with its bytes
as_bytes : (line words s rest : List ℕ) → line ≡ words ++ 10 ∷ [] → s ≡ words ++ 10 ∷ rest → s ≡ line ++ rest
as_bytes line words s rest e f = f ∙ sym (append_assoc words (10 ∷ []) rest) ∙ ap (λ l. l ++ rest) (sym e)

-- the bids' lines; each bid has a window
bids_are : (k : Kind) (used : List ℕ) (at : ℕ) (bs : List BidLine) (end : ℕ) (s : List ℕ)
    → RowsRules k used at (rows_from at bs) end → LinesSpelt s (map (λ b. bid b) bs) → SpeltBids s bs
unfolding rows_from
bids_are k used at [] end s h e = e
bids_are k used at (b ∷ bs) end s (h, hs) (p, rest, v, e, more) =
    go b.windows refl h.some_window
    (bids_are k (used ++ b.bidder ∷ []) (at + length b.windows) bs end rest hs more)
  where
    go : (ws : List Window) → b.windows ≡ ws → 1 ≤ length ws → SpeltBids rest bs → SpeltBids s (b ∷ bs)
    go [] q l later = absurd (omega arith)
    go (w ∷ ws) q l later =
        let f : bid_text_as p b ≡ spaced (bid_words b.bidder p b.windows) ++ 10 ∷ [] =
        rw q (bid_line_lem p b.bidder b.price w ws) in
        (p, rest, v, as_bytes (bid_text_as p b) (spaced (bid_words b.bidder p b.windows)) s rest f e, later)

-- the lines after the tender's
record Headed (s : List ℕ) (r : Reserve) (ls : List Line) : Type 0 where
  reserve : List ℕ
  rest : List ℕ
  is : s ≡ reserve ++ rest
  reserve_is : SpeltReserve reserve r
  lines : LinesSpelt rest ls

headed : (s : List ℕ) (r : Reserve) (ls : List Line) → LinesSpelt s (reserve_lines r ++ ls) → Headed s r ls
unfolding reserve_lines
headed s None ls h = record { reserve = []; rest = s; is = refl; reserve_is = refl; lines = h }
headed s (Some v) ls (p, rest, h, e, more) = record {
  reserve = one_line_as reserve_word p;
  rest = rest;
  is = as_bytes (one_line_as reserve_word p) (spaced (one_words reserve_word p)) s rest (one_line_lem reserve_word p) e;
  reserve_is = (p, h, refl);
  lines = more;
}

-- No bid is dropped or shortened: an accepted text is the one spelt from its tender, rows and windows, up to the spelling of prices.
pub spelt_again : (text : List ℕ) (T : Tender) (R : List Row) (W : List Window) → read_text text ≡ accepted T R W
    → Spelt text T (map (bid_in (flat_windows W)) R)
unfolding head_lines tender_words
spelt_again text T R W e = go s.lines
  where
    s : BidsRead text T R W
    s = bids_read text T R W e

    rules : RowsRules T.kind [] 0 (rows_from 0 s.bids) (length W)
    rules = rw s.rows at (rules_law T R W text e).rows

    bids_same : s.bids ≡ map (bid_in (flat_windows W)) R
    bids_same = sym (bids_of_lem text T R W [] s) ∙ ap (λ ws. map (bid_in ws) R) (append-nil (flat_windows W))

    go : LinesSpelt text (head_lines T ++ map (λ b. bid b) s.bids) → Spelt text T (map (bid_in (flat_windows W)) R)
    go (p, rest, v, q, more) =
        let h = headed rest T.reserve (map (λ b. bid b) s.bids) more in
        subst (Spelt text T) bids_same (record {
          reserve = h.reserve;
          bids = h.rest;
          is = as_bytes (tender_text T) (spaced (tender_words T)) text rest (tender_line_lem T) q ∙ ap (λ l. tender_text T ++ l) h.is;
          reserve_is = h.reserve_is;
          bids_are = bids_are T.kind [] 0 s.bids (length W) h.rest rules h.lines;
        })
