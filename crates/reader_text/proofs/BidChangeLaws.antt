-- In an accepted text a bid may have any other price and any other windows within the limits: the text stays accepted if it is not too
-- long. With the price alone another the windows stay. Assumes nothing.
use Rattle.std.specs.Prelude.{◌≡◌, true, false, ℕ, ◌+◌, ◌≤◌, length, ltb}
use Rattle.std.proofs.Math.Path.{refl}
use Rattle.std.proofs.Common.{ap, ◌∙◌, arith, le-ltb}
use mathlib.Core.List.{List, [], ◌∷◌, ◌++◌, map}
use Rattle.std.proofs.Math.Bool.{not}
use Rattle.std.proofs.Math.Option.{Option, none, some}
use Rattle.tender.specs.declared.Window.{Window}
use Rattle.tender.specs.declared.Tender.{Tender}
use Rattle.tender.specs.Limits.{most_windows, ordered, early, lawful, every}
use Rattle.tender.specs.Tables.{Row}
use Rattle.reader_parts.specs.Words.{and_then, cut, among, numeral_of, price_of}
use Rattle.reader_forms.specs.Line.{BidLine, Line, tender, bid, reserve, windows_in, bid_of, line_of, lines_of}
use Rattle.reader_text.specs.Read.{ReadOutcome, accepted, rows_from, all_windows, bids_of, line_fault, bid_fault_in, bid_fault_after}
use Rattle.reader_text.specs.Read.{bid_fault, checked, tables, read_lines, read_text}
use Rattle.reader_text.proofs.FaultLaws.{lawful_every, no_fault}
use Rattle.reader_parts.proofs.CutLaws.{Pieces, cut_some, cut_end}
use Rattle.reader_text.proofs.HeadLaws.{lines_begun}
use Rattle.reader_text.proofs.ReadLaws.{never, judged_out}
use Rattle.reader_text.specs.Differ.{bid_line, Word, DifferInPrice, DifferInBid, those_in, windows_by}
use Rattle.reader_text.proofs.BidLaws.{line_of_lem, parts, BidFound, text_lines, found, bid_law, price_as_bid, windows_same}
use Rattle.reader_text.proofs.RulesLaws.{faultless_bid}

unfoldable at_price : ℕ → BidLine → BidLine
at_price v b = record { bidder = b.bidder; price = v; windows = b.windows }

fault_price : (u : Tender) (used : List ℕ) (b : BidLine) (v : ℕ) → v ≤ 100000000 → bid_fault u used b ≡ none
    → bid_fault u used (at_price v b) ≡ none
unfolding bid_fault bid_fault_after bid_fault_in line_fault at_price
fault_price u used b v l e =
    let p = (faultless_bid u used b e).price_high in
    let m : ltb 100000000 b.price ≡ false = le-ltb 100000000 b.price p in
    let n : ltb 100000000 v ≡ false = le-ltb 100000000 v l in
    rw n (rw m at e)

module _ (T : Tender) (R : List Row) (W : List Window) where
  -- the tables play no part in the checks
  checked_any : (u : Tender) (at : ℕ) (used : List ℕ) (ls : List (Option Line)) (out o : ReadOutcome)
      → checked u at used ls out ≡ accepted T R W → checked u at used ls o ≡ o
  unfolding checked
  checked_any u at used [] out o e = refl
  checked_any u at used (none ∷ ls) out o e = never e
  checked_any u at used (some (tender t) ∷ ls) out o e = never e
  checked_any u at used (some (reserve p) ∷ ls) out o e = never e
  checked_any u at used (some (bid b) ∷ ls) out o e =
      let j = judged_out T R W (bid_fault u used b) at (checked u (at + 1) (used ++ b.bidder ∷ []) ls out) e in
      rw j.0 (checked_any u (at + 1) (used ++ b.bidder ∷ []) ls out o j.1)

  -- a line's bid may be any other that has no fault where the first has none, of the same bidder
  checked_other : (u : Tender) (at : ℕ) (used : List ℕ) (xs : List (Option Line)) (b c : BidLine) (ys : List (Option Line))
      (out o : ReadOutcome) → c.bidder ≡ b.bidder
      → ((used : List ℕ) → bid_fault u used b ≡ none → bid_fault u used c ≡ none)
      → checked u at used (xs ++ some (bid b) ∷ ys) out ≡ accepted T R W → checked u at used (xs ++ some (bid c) ∷ ys) o ≡ o
  unfolding checked
  checked_other u at used [] b c ys out o s f e =
      let j = judged_out T R W (bid_fault u used b) at (checked u (at + 1) (used ++ b.bidder ∷ []) ys out) e in
      rw (f used j.0, s) (checked_any u (at + 1) (used ++ b.bidder ∷ []) ys out o j.1)
  checked_other u at used (none ∷ xs) b c ys out o s f e = never e
  checked_other u at used (some (tender t) ∷ xs) b c ys out o s f e = never e
  checked_other u at used (some (reserve p) ∷ xs) b c ys out o s f e = never e
  checked_other u at used (some (bid d) ∷ xs) b c ys out o s f e =
      let j = judged_out T R W (bid_fault u used d) at (checked u (at + 1) (used ++ d.bidder ∷ []) (xs ++ some (bid b) ∷ ys) out) e in
      rw j.0 (checked_other u (at + 1) (used ++ d.bidder ∷ []) xs b c ys out o s f j.1)

bid_of_lem : (n q : List ℕ) (ws : List (List ℕ)) (b : BidLine) → numeral_of n ≡ some b.bidder → price_of q ≡ some b.price
    → windows_in ws ≡ some b.windows → bid_of (n ∷ q ∷ ws) ≡ some (bid b)
unfolding bid_of and_then
bid_of_lem n q ws b hn hq hw = rw (hn, hq, hw)

line_lines : (n q f : List ℕ) (ps : List (List ℕ)) → Word n → Word q → Pieces ps
    → lines_of (bid_line n q f ∷ ps) ≡ bid_of (n ∷ q ∷ cut 32 f)
    ∷ lines_of ps
unfolding lines_of
line_lines n q f ps wn wq c = rw c.are (rw (line_of_lem n q f wn wq))

pub short : (text : List ℕ) → length text ≤ 65536 → read_text text ≡ read_lines (lines_of (cut 10 text))
unfolding read_text
short text l = rw (le-ltb 65536 (length text) l)

-- the text with the bid c on the line
changed : (before n p q after f g : List ℕ) (ps : List (List ℕ)) (T : Tender) (R : List Row) (W : List Window) → Word n → Word q
    → cut 10 after ≡ g ∷ ps → (x : BidFound before n p f ps T R W) (c : BidLine) → bid_of (n ∷ q ∷ cut 32 g) ≡ some (bid c)
    → c.bidder ≡ x.b.bidder → ((used : List ℕ) → bid_fault T used x.b ≡ none → bid_fault T used c ≡ none)
    → length (before ++ 10 ∷ bid_line n q after) ≤ 65536
    → (bs : List BidLine) × (read_text (before ++ 10 ∷ bid_line n q after) ≡ tables T bs)
changed before n p q after f g ps T R W wn wq e x c is s fault lu =
    let xs = map line_of (cut 10 before) in
    let ls = x.line.between ++ some (bid c) ∷ lines_of ps in
    let r : lines_of (bid_line n q g ∷ ps) ≡ some (bid c) ∷ lines_of ps = line_lines n q g ps wn wq x.ended
    ∙ ap (λ o. o ∷ lines_of ps) is in (
      bids_of ls,
      short (before ++ 10 ∷ bid_line n q after) lu
          ∙ ap read_lines (text_lines before n q after g ps wn wq e T R W ∙ ap (λ l. xs ++ l) r)
          ∙ lines_begun (xs ++ some (bid c) ∷ lines_of ps) T x.line.from ls (x.line.head c)
          ∙ checked_other T R W T x.line.from [] x.line.between x.b c (lines_of ps)
          (tables T (bids_of (x.line.between ++ some (bid x.b) ∷ lines_of ps))) (tables T (bids_of ls)) s fault x.line.sound,
    )

pub price_change : (t u bidder p q : List ℕ) (v : ℕ) (T : Tender) (R : List Row) (W : List Window) → DifferInPrice t u bidder p q →
    read_text t ≡ accepted T R W → price_of q ≡ some v → v ≤ 100000000 → length u ≤ 65536
    → (S : List Row) × (read_text u ≡ accepted T S W)
unfolding tables at_price
price_change t u n p q v T R W d h hv lv lu =
    let s = cut_some 10 d.after in
    let x = found d.before n p d.after s.first s.rest d.bidder_word d.p_word s.are T R W (rw d.left at h) in
    let m = parts n p (cut 32 s.first) x.b x.is in
    go (changed d.before n p q d.after s.first s.first s.rest T R W d.bidder_word d.q_word s.are x
    (at_price v x.b) (bid_of_lem n q (cut 32 s.first) (at_price v x.b) m.bidder_is hv m.windows_are) refl
    (λ used. fault_price T used x.b v lv) (rw d.right at lu))
  where
    go : (bs : List BidLine) × (read_text (d.before ++ 10 ∷ bid_line n q d.after) ≡ tables T bs)
        → (S : List Row) × (read_text u ≡ accepted T S W)
    go (bs, e) =
        let k : read_text u ≡ accepted T (rows_from 0 bs) (all_windows bs) = rw d.right e in
        let m = price_as_bid t u n p q T R W d h in
        let l = bid_law t u n p q m.ws m.ws T T R (rows_from 0 bs) W (all_windows bs) m.differ h k in
        (rows_from 0 bs, k ∙ ap (accepted T (rows_from 0 bs)) (windows_same l))

-- windows are written where there are any
written : (vs : List ℕ) → 1 ≤ length (windows_by vs) → windows_in (cut 32 vs) ≡ some (windows_by vs)
unfolding windows_by
written vs l = go (windows_in (cut 32 vs)) l
  where
    go : (o : Option (List Window)) → 1 ≤ length (those_in o) → o ≡ some (those_in o)
    go none l = absurd (omega arith)
    go (some ws) l = refl

-- the second bid's windows
module _ (t u n p q ws vs : List ℕ) (v : ℕ) (T : Tender) (R : List Row) (W : List Window) (d : DifferInBid t u n p q ws vs)
    (h : read_text t ≡ accepted T R W) (hv : price_of q ≡ some v) (lv : v ≤ 100000000) (some_window : 1 ≤ length (windows_by vs))
    (few : length (windows_by vs) ≤ most_windows T.kind) (lawful_too : every lawful (windows_by vs) ≡ true) where
  first : BidFound d.before n p ws (cut 10 d.after) T R W
  first = found d.before n p (ws ++ 10 ∷ d.after) ws (cut 10 d.after) d.bidder_word d.p_word
      (cut_end 10 ws d.after d.ws_line) T R W (rw d.left at h)

  abbrev other : BidLine
  other = record { bidder = first.b.bidder; price = v; windows = windows_by vs }

  faultless_too : (used : List ℕ) → bid_fault T used first.b ≡ none → bid_fault T used other ≡ none
  unfolding bid_fault bid_fault_after
  faultless_too used e =
      let f = faultless_bid T used first.b e in
      let l = lawful_every (windows_by vs) lawful_too in
      no_fault T (length used) first.b.bidder v (length (windows_by vs)) (not (every ordered (windows_by vs)))
      (not (every early (windows_by vs))) (among first.b.bidder used) f.few_bids few f.bidder_low f.bidder_high lv
      (ap not l.0) (ap not l.1) f.bidder_new

  pub bid_change : length u ≤ 65536 → (S : List Row) × (X : List Window) × (read_text u ≡ accepted T S X)
  unfolding tables
  bid_change lu =
      let m = parts n p (cut 32 ws) first.b first.is in
      go (changed d.before n p q (vs ++ 10 ∷ d.after) ws vs (cut 10 d.after) T R W d.bidder_word d.q_word
      (cut_end 10 vs d.after d.vs_line) first other
      (bid_of_lem n q (cut 32 vs) other m.bidder_is hv (written vs some_window)) refl faultless_too (rw d.right at lu))
    where
      go : (bs : List BidLine) × (read_text (d.before ++ 10 ∷ bid_line n q (vs ++ 10 ∷ d.after)) ≡ tables T bs)
          → (S : List Row) × (X : List Window) × (read_text u ≡ accepted T S X)
      go (bs, e) = (rows_from 0 bs, all_windows bs, rw d.right e)
