-- What is written reads back as the same bids, and two accepted texts are written with equal bytes exactly when they have the same
-- bids (paper 02, request 2). Assumes nothing.
use Rattle.std.specs.Prelude.{◌≡◌, refl, true, ◌&&◌, List, [], ◌∷◌, ◌++◌, map, ℕ, zero, suc, ◌+◌, ◌/◌}
use Rattle.std.specs.Prelude.{◌≤◌, ◌<◌, length, get_or, leb}
use Rattle.std.proofs.Common.{sym, ap, ◌∙◌, arith, le-ltb}
use Rattle.std.proofs.Math.Option.{none, some}
use Rattle.tender.specs.declared.Window.{Window}
use Rattle.tender.specs.declared.Tender.{Tender}
use Rattle.tender.specs.Limits.{as_window, sound_tender}
use Rattle.tender.specs.RulesLaws.{rules_lawful, sound_rules}
use Rattle.tender.specs.Tables.{Row, rows_of, own, flat_rows, flat_windows, bid_width}
use Rattle.cover.proofs.SetLaws.{and_split}
use Rattle.reader_parts.specs.Words.{cut}
use Rattle.reader_forms.specs.Line.{BidLine, head_lines, lines_of}
use Rattle.reader_text.specs.Read.{accepted, rows_from, all_windows, bids_of, tables, begun, Unreserved, head_of, read_lines, read_text}
use Rattle.reader_text.proofs.HeadLaws.{lines_begun, head_of_lem}
use Rattle.reader_text.proofs.RulesLaws.{rules_law, rows_from_length}
use Rattle.spelling.specs.Text.{bid_in, text_of}
use Rattle.spelling.proofs.BackLaws.{as_lines, text_back}
use Rattle.award_check.specs.Cells.{holds, no_row}
use Rattle.award_check.specs.Faults.{row_fault, is_same_kind, fault_of}
use Rattle.award_check.proofs.AlikeLaws.{faultless}
use Rattle.award_check.proofs.TextLaws.{rows_flat, never_nine}
use Rattle.runs.specs.Runs.{joined}
use Rattle.runs.proofs.JoinedLaws.{joined_holds, joined_same}
use Rattle.writer_line.specs.Respelt.{respelt}
use Rattle.writer_text.specs.Canonical.{respelt_in, canonical}
use Rattle.writer_back.specs.Same.{Same, ReadBack}
use Rattle.writer_back.specs.BidLaws.{lawful_named, reserve_named, rows_told, rows_checked, AllLawful, row_lawful}
use Rattle.writer_back.specs.OwnLaws.{no_bid, bid_filled, respelt_length, respelt_at}

-- a tender and rows without a fault
pub record Lawful (t : Tender) (rows : List Row) (windows : List ℕ) : Type 0 where
  pub sound : sound_tender t ≡ true
  pub rows_too : row_fault t windows 1 [] 0 rows ≡ none

pub lawful_tables : (t : Tender) (n : ℕ) (bids windows : List ℕ) → fault_of t.kind t n bids windows ≡ none
    → Lawful t (rows_of n bids) windows
lawful_tables t n bids windows e =
    let f = faultless t.kind t n bids windows e in
    let a = and_split (is_same_kind t.kind t.kind && sound_tender t) (leb n (length bids / bid_width)) f.tender in
    record { sound = (and_split (is_same_kind t.kind t.kind) (sound_tender t) a.0).1; rows_too = f.rows }

-- the text reads back

lines_are : (t : Tender) (rows : List Row) (windows : List ℕ) → Lawful t rows windows
    → lines_of (cut 10 (canonical t rows windows)) ≡ map (λ x. some x) (head_lines t) ++ as_lines (respelt_in windows rows)
unfolding canonical
lines_are t rows windows h =
    let s = sound_rules t h.sound in
    text_back t (respelt_in windows rows) (lawful_named (as_window t.window) (rules_lawful (as_window t.window) s.window))
    (reserve_named t.reserve s.reserve) (rows_told t windows 1 [] 0 rows h.rows_too)

bids_as : (bs : List BidLine) → bids_of (as_lines bs) ≡ bs
unfolding bids_of as_lines
bids_as [] = refl
bids_as (b ∷ bs) = ap (λ l. b ∷ l) (bids_as bs)

bids_next : (bs : List BidLine) → Unreserved (as_lines bs)
unfolding as_lines
bids_next [] = tt
bids_next (b ∷ bs) = tt

lines_read : (t : Tender) (rows : List Row) (windows : List ℕ) → Lawful t rows windows →
    read_lines (map (λ x. some x) (head_lines t) ++ as_lines (respelt_in windows rows))
    ≡ accepted t (rows_from 0 (respelt_in windows rows)) (all_windows (respelt_in windows rows))
unfolding tables
lines_read t rows windows h =
    let ls = as_lines (respelt_in windows rows) in
    lines_begun (map (λ x. some x) (head_lines t) ++ ls) t _ ls
    (head_of_lem t ls h.sound (λ e. bids_next (respelt_in windows rows)))
    ∙ rows_checked t windows 1 [] 0 _ rows (tables t (bids_of ls)) h.rows_too refl
    ∙ ap (tables t) (bids_as (respelt_in windows rows))

text_read : (text : List ℕ) → length text ≤ 65536 → read_text text ≡ read_lines (lines_of (cut 10 text))
unfolding read_text
text_read text l = rw (le-ltb 65536 (length text) l)

minutes_at : (windows : List ℕ) (rows : List Row) (i m : ℕ) → AllLawful windows rows → i < length rows
    → holds (joined (own windows (get_or rows i no_row))) m ≡ holds (own windows (get_or rows i no_row)) m
minutes_at windows [] i m h l = absurd (omega arith)
minutes_at windows (r ∷ rs) zero m h l = joined_holds (own windows r) m h.0
minutes_at windows (r ∷ rs) (suc i) m h l = minutes_at windows rs i m h.1 (omega arith)

-- the tables that the text fills, whatever stands past them
filled_same : (t : Tender) (rows : List Row) (windows v : List ℕ) → Lawful t rows windows →
    Same t rows windows t (rows_from 0 (respelt_in windows rows)) (flat_windows (all_windows (respelt_in windows rows)) ++ v)
unfolding respelt bid_in
filled_same t rows windows v h = record {
  tenders = refl;
  count = sym (rows_from_length 0 bs ∙ respelt_length windows rows);
  bidders = λ i l. sym (ap (λ (b : BidLine). b.bidder) (at i l));
  prices = λ i l. sym (ap (λ (b : BidLine). b.price) (at i l));
  minutes = λ i l m. sym (ap (λ (b : BidLine). holds b.windows m) (at i l)
      ∙ minutes_at windows rows i m (row_lawful t windows 1 [] 0 rows h.rows_too) l);
}
  where
    bs : List BidLine
    bs = respelt_in windows rows

    at : (i : ℕ) → i < length rows
        → bid_in (flat_windows (all_windows bs) ++ v) (get_or (rows_from 0 bs) i no_row)
        ≡ respelt (bid_in windows (get_or rows i no_row))
    at i l = bid_filled 0 (flat_windows (all_windows bs) ++ v) v bs i refl ∙ respelt_at windows rows i l

-- the text of tables without a fault, where it is not above 65,536 bytes, reads back as the same bids
pub reads_back : (t : Tender) (n : ℕ) (bids windows : List ℕ) → fault_of t.kind t n bids windows ≡ none
    → length (canonical t (rows_of n bids) windows) ≤ 65536 →
    ReadBack (canonical t (rows_of n bids) windows) t (rows_of n bids) windows
reads_back t n bids windows e l =
    let h = lawful_tables t n bids windows e in
    record {
      R = rows_from 0 (respelt_in windows (rows_of n bids));
      W = all_windows (respelt_in windows (rows_of n bids));
      reads = text_read (canonical t (rows_of n bids) windows) l ∙ ap read_lines (lines_are t (rows_of n bids) windows h)
          ∙ lines_read t (rows_of n bids) windows h;
      same = λ v. filled_same t (rows_of n bids) windows v h;
    }

-- equal bytes have equal lines, and so the same bids

lines_same : (t : Tender) (bs : List BidLine) (t' : Tender) (bs' : List BidLine) → sound_tender t ≡ true
    → sound_tender t' ≡ true
    → map (λ x. some x) (head_lines t) ++ as_lines bs ≡ map (λ x. some x) (head_lines t') ++ as_lines bs'
    → (t ≡ t') × (bs ≡ bs')
lines_same t bs t' bs' s s' e =
    let h : begun t (length (head_lines t) + 1) (as_lines bs) ≡ begun t' (length (head_lines t') + 1) (as_lines bs') =
    sym (head_of_lem t (as_lines bs) s (λ q. bids_next bs)) ∙ ap head_of e ∙ head_of_lem t' (as_lines bs') s' (λ q. bids_next bs') in
    let p : t ≡ t' = cc in
    let q : as_lines bs ≡ as_lines bs' = cc in
    (p, sym (bids_as bs) ∙ ap bids_of q ∙ bids_as bs')

bids_same : (t : Tender) (rows : List Row) (windows : List ℕ) (t' : Tender) (rows' : List Row) (windows' : List ℕ)
    → Lawful t rows windows → Lawful t' rows' windows' → t ≡ t'
    → respelt_in windows rows ≡ respelt_in windows' rows' →
    Same t rows windows t' rows' windows'
unfolding respelt bid_in
bids_same t rows windows t' rows' windows' h h' p q =
    let c : length rows ≡ length rows' = sym (respelt_length windows rows) ∙ ap length q ∙ respelt_length windows' rows' in
    record {
      tenders = p;
      count = c;
      bidders = λ i l. ap (λ (b : BidLine). b.bidder) (at c i l);
      prices = λ i l. ap (λ (b : BidLine). b.price) (at c i l);
      minutes = λ i l m.
          sym (minutes_at windows rows i m (row_lawful t windows 1 [] 0 rows h.rows_too) l)
          ∙ ap (λ (b : BidLine). holds b.windows m) (at c i l)
          ∙ minutes_at windows' rows' i m (row_lawful t' windows' 1 [] 0 rows' h'.rows_too) (omega arith);
    }
  where
    at : length rows ≡ length rows' → (i : ℕ) → i < length rows
        → respelt (bid_in windows (get_or rows i no_row)) ≡ respelt (bid_in windows' (get_or rows' i no_row))
    at c i l = sym (respelt_at windows rows i l) ∙ ap (λ bs. get_or bs i no_bid) q ∙ respelt_at windows' rows' i (omega arith)

-- tables without a fault have the same text only where they have the same bids
pub text_same : (t : Tender) (rows : List Row) (windows : List ℕ) (t' : Tender) (rows' : List Row) (windows' : List ℕ)
    → Lawful t rows windows → Lawful t' rows' windows' →
    canonical t rows windows ≡ canonical t' rows' windows' → Same t rows windows t' rows' windows'
text_same t rows windows t' rows' windows' h h' e =
    let s = lines_same t (respelt_in windows rows) t' (respelt_in windows' rows') h.sound h'.sound
    (sym (lines_are t rows windows h) ∙ ap (λ x. lines_of (cut 10 x)) e ∙ lines_are t' rows' windows' h') in
    bids_same t rows windows t' rows' windows' h h' s.0 s.1

-- the same bids have the same text

row_respelt : (windows windows' : List ℕ) (r r' : Row) → r.bidder ≡ r'.bidder → r.price ≡ r'.price
    → ((m : ℕ) → holds (own windows r) m ≡ holds (own windows' r') m)
    → respelt (bid_in windows r) ≡ respelt (bid_in windows' r')
unfolding respelt bid_in
row_respelt windows windows' r r' b p h =
    go r.bidder r'.bidder r.price r'.price (joined (own windows r)) (joined (own windows' r')) b p
    (joined_same (own windows r) (own windows' r') h)
  where
    go : (n n' p p' : ℕ) (l l' : List Window) → n ≡ n' → p ≡ p' → l ≡ l'
        → ◌≡◌ {A = BidLine} (record { bidder = n; price = p; windows = l }) (record { bidder = n'; price = p'; windows = l' })
    go n n' p p' l l' a b c = rw (a, b, c)

rows_respelt : (windows windows' : List ℕ) (rows rows' : List Row) → length rows ≡ length rows' →
    ((i : ℕ) → i < length rows → (get_or rows i no_row).bidder ≡ (get_or rows' i no_row).bidder) →
    ((i : ℕ) → i < length rows → (get_or rows i no_row).price ≡ (get_or rows' i no_row).price) →
    ((i : ℕ) → i < length rows → (m : ℕ)
    → holds (own windows (get_or rows i no_row)) m ≡ holds (own windows' (get_or rows' i no_row)) m) →
    respelt_in windows rows ≡ respelt_in windows' rows'
unfolding respelt_in
rows_respelt windows windows' [] [] c b p h = refl
rows_respelt windows windows' [] (s ∷ ss) c b p h = absurd (omega arith)
rows_respelt windows windows' (r ∷ rs) [] c b p h = absurd (omega arith)
rows_respelt windows windows' (r ∷ rs) (s ∷ ss) c b p h =
    ap (λ x. x ∷ respelt_in windows rs) (row_respelt windows windows' r s (b 0 (omega arith)) (p 0 (omega arith)) (h 0 (omega arith)))
    ∙ ap (λ l. respelt (bid_in windows' s) ∷ l)
    (rows_respelt windows windows' rs ss (omega arith) (λ i l. b (suc i) (omega arith)) (λ i l. p (suc i) (omega arith))
    (λ i l. h (suc i) (omega arith)))

pub same_text : (t : Tender) (rows : List Row) (windows : List ℕ) (t' : Tender) (rows' : List Row) (windows' : List ℕ)
    → Same t rows windows t' rows' windows' → canonical t rows windows ≡ canonical t' rows' windows'
unfolding canonical
same_text t rows windows t' rows' windows' s =
    ap (λ (u : Tender). text_of u (respelt_in windows rows)) s.tenders
    ∙ ap (text_of t') (rows_respelt windows windows' rows rows' s.count s.bidders s.prices s.minutes)

-- the tables of an accepted text, whatever stands past them
pub read_lawful : (text : List ℕ) (T : Tender) (R : List Row) (W : List Window) (v : List ℕ) → read_text text ≡ accepted T R W
    → Lawful T R (flat_windows W ++ v)
read_lawful text T R W v e =
    let h = lawful_tables T (length R) (flat_rows R ++ []) (flat_windows W ++ v) (never_nine T R W [] v (rules_law T R W text e)) in
    rw (rows_flat R []) at h

-- two accepted texts are written with equal bytes exactly when tender, bidders, prices, entry order and each bid's minutes agree
pub same_bytes : (x x' : List ℕ) (T T' : Tender) (R R' : List Row) (W W' : List Window) (v v' : List ℕ)
    → read_text x ≡ accepted T R W → read_text x' ≡ accepted T' R' W' →
    (canonical T R (flat_windows W ++ v) ≡ canonical T' R' (flat_windows W' ++ v')
    → Same T R (flat_windows W ++ v) T' R' (flat_windows W' ++ v'))
    × (Same T R (flat_windows W ++ v) T' R' (flat_windows W' ++ v')
    → canonical T R (flat_windows W ++ v) ≡ canonical T' R' (flat_windows W' ++ v'))
same_bytes x x' T T' R R' W W' v v' e e' = (
  text_same T R (flat_windows W ++ v) T' R' (flat_windows W' ++ v') (read_lawful x T R W v e)
      (read_lawful x' T' R' W' v' e'),
  same_text T R (flat_windows W ++ v) T' R' (flat_windows W' ++ v'),
)

-- what is read back is written with the same bytes
pub writes_the_same : (t : Tender) (rows : List Row) (windows text : List ℕ) (b : ReadBack text t rows windows) (v : List ℕ)
    → canonical t b.R (flat_windows b.W ++ v) ≡ canonical t rows windows
writes_the_same t rows windows text b v = sym (same_text t rows windows t b.R (flat_windows b.W ++ v) (b.same v))
