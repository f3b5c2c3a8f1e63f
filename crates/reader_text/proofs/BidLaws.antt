-- Two accepted texts that differ in how one bid's price and windows are written give the same tender and the same bids but for that one.
-- Assumes nothing.
use Rattle.std.specs.Prelude.{◌≡◌, refl, Bool, true, false, cond, ℕ, eqb}
use Rattle.std.proofs.Common.{ap, sym, ◌∙◌, arith, eqb-true}
use mathlib.Core.List.{List, [], ◌∷◌, ◌++◌, map, append_assoc}
use Rattle.std.proofs.Math.Option.{Option, none, some}
use Rattle.tender.specs.Keywords.{bid_word}
use Rattle.tender.specs.declared.Window.{Window}
use Rattle.tender.specs.declared.Tender.{Tender}
use Rattle.tender.specs.Tables.{Row}
use Rattle.reader_parts.specs.Words.{and_then, grow_first, cut, among, numeral_of, price_of}
use Rattle.reader_forms.specs.Line.{BidLine, Line, tender, bid, reserve, windows_in, bid_of, line_of_words, line_of, lines_of}
use Rattle.reader_text.specs.Read.{accepted, rows_from, all_windows, bids_of, checked, tables, begun, head_of, read_lines, read_text}
use Rattle.reader_parts.proofs.CutLaws.{Pieces, cut_some, cut_end, cut_word, cut_append}
use Rattle.reader_forms.proofs.PiecesLaws.{lines_append}
use Rattle.reader_text.specs.Differ.{bid_line, Word, DifferInPrice, DifferInBid, those_in, windows_by}
use Rattle.reader_text.proofs.ReadLaws.{read_lines_lem}
use Rattle.reader_text.proofs.HeadLaws.{head_before, read_at, Begun, accepted_head, accepted_read}

-- the line's words
line_words : (bidder p after : List ℕ) → Word bidder → Word p → cut 32 (bid_line bidder p after) ≡ (40 ∷ bid_word) ∷ bidder
    ∷ p ∷ cut 32 after
unfolding bid_line among
line_words n p s wn wp =
    cut_end 32 (40 ∷ bid_word) (n ++ 32 ∷ (p ++ 32 ∷ s)) refl
    ∙ ap (λ l. (40 ∷ bid_word) ∷ l) (cut_end 32 n (p ++ 32 ∷ s) wn.no_space
    ∙ ap (λ l. n ∷ l) (cut_end 32 p s wp.no_space))

pub line_of_lem : (bidder p after : List ℕ) → Word bidder → Word p
    → line_of (bid_line bidder p after) ≡ bid_of (bidder ∷ p ∷ cut 32 after)
unfolding line_of
line_of_lem n p s wn wp = ap line_of_words (line_words n p s wn wp)

-- the pieces from the line on
line_cut : (bidder p after f : List ℕ) (ps : List (List ℕ)) → Word bidder → Word p → cut 10 after ≡ f ∷ ps
    → cut 10 (bid_line bidder p after) ≡ bid_line bidder p f ∷ ps
unfolding bid_line bid_word among cut
line_cut n p s f ps wn wp e =
    let a : cut 10 (32 ∷ s) ≡ (32 ∷ f) ∷ ps = rw e in
    let b : cut 10 (32 ∷ (p ++ 32 ∷ s)) ≡ (32 ∷ (p ++ 32 ∷ f)) ∷ ps =
    rw (cut_word 10 p (32 ∷ s) (32 ∷ f) ps wp.no_end a) in
    let c : cut 10 (32 ∷ (n ++ 32 ∷ (p ++ 32 ∷ s))) ≡ (32 ∷ (n ++ 32 ∷ (p ++ 32 ∷ f))) ∷ ps =
    rw (cut_word 10 n (32 ∷ (p ++ 32 ∷ s)) (32 ∷ (p ++ 32 ∷ f)) ps wn.no_end b) in
    cut_word 10 (40 ∷ bid_word) (32 ∷ (n ++ 32 ∷ (p ++ 32 ∷ s))) (32 ∷ (n ++ 32 ∷ (p ++ 32 ∷ f))) ps refl c

pub record Parts (n p : List ℕ) (ws : List (List ℕ)) (b : BidLine) : Type 0 where
  pub bidder_is : numeral_of n ≡ some b.bidder
  pub price_is : price_of p ≡ some b.price
  pub windows_are : windows_in ws ≡ some b.windows

pub parts : (n p : List ℕ) (ws : List (List ℕ)) (b : BidLine) → bid_of (n ∷ p ∷ ws) ≡ some (bid b) → Parts n p ws b
unfolding bid_of and_then
parts n p ws b e = go (numeral_of n) (price_of p) (windows_in ws) refl refl refl e
  where
    go : (x y : Option ℕ) (z : Option (List Window)) → numeral_of n ≡ x → price_of p ≡ y → windows_in ws ≡ z →
        and_then x (λ i. and_then y (λ v. and_then z (λ l. some (bid (record { bidder = i; price = v; windows = l }))))) ≡ some (bid b)
        → Parts n p ws b
    go none y z hx hy hz h = let c : ◌≡◌ {A = ℕ} 0 1 = cc in absurd (omega arith)
    go (some i) none z hx hy hz h = let c : ◌≡◌ {A = ℕ} 0 1 = cc in absurd (omega arith)
    go (some i) (some v) none hx hy hz h = let c : ◌≡◌ {A = ℕ} 0 1 = cc in absurd (omega arith)
    go (some i) (some v) (some l) hx hy hz h =
        let q : ◌≡◌ {A = BidLine} (record { bidder = i; price = v; windows = l }) b = cc in
        record {
          bidder_is = hx ∙ ap (λ (k : BidLine). some k.bidder) q;
          price_is = hy ∙ ap (λ (k : BidLine). some k.price) q;
          windows_are = hz ∙ ap (λ (k : BidLine). some k.windows) q;
        }

bids_append : (xs : List (Option Line)) (b : BidLine) (ys : List (Option Line)) → bids_of (xs ++ some (bid b) ∷ ys) ≡ bids_of xs
    ++ b ∷ bids_of ys
unfolding bids_of
bids_append [] b ys = refl
bids_append (none ∷ xs) b ys = bids_append xs b ys
bids_append (some (tender t) ∷ xs) b ys = bids_append xs b ys
bids_append (some (reserve p) ∷ xs) b ys = bids_append xs b ys
bids_append (some (bid c) ∷ xs) b ys = ap {B = List BidLine} (λ l. c ∷ l) (bids_append xs b ys)

windows_append : (bs cs : List BidLine) → all_windows (bs ++ cs) ≡ all_windows bs ++ all_windows cs
unfolding all_windows
windows_append [] cs = refl
windows_append (b ∷ bs) cs = rw (windows_append bs cs, append_assoc)

-- what is read of a bid's words is a bid
is_bid : (n p : List ℕ) (ws : List (List ℕ)) (l : Line) → bid_of (n ∷ p ∷ ws) ≡ some l
    → (b : BidLine) × (bid_of (n ∷ p ∷ ws) ≡ some (bid b))
unfolding bid_of and_then
is_bid n p ws l e = go (numeral_of n) (price_of p) (windows_in ws) e
  where
    go : (x y : Option ℕ) (z : Option (List Window)) →
        and_then x (λ i. and_then y (λ v. and_then z (λ l. some (bid (record { bidder = i; price = v; windows = l }))))) ≡ some l →
        (b : BidLine) × (and_then x (λ i. and_then y (λ v. and_then z (λ l. some (bid (record {
          bidder = i;
          price = v;
          windows =
              l;
        })))))
        ≡ some (bid b))
    go none y z h = let c : ◌≡◌ {A = ℕ} 0 1 = cc in absurd (omega arith)
    go (some i) none z h = let c : ◌≡◌ {A = ℕ} 0 1 = cc in absurd (omega arith)
    go (some i) (some v) none h = let c : ◌≡◌ {A = ℕ} 0 1 = cc in absurd (omega arith)
    go (some i) (some v) (some w) h = (record { bidder = i; price = v; windows = w }, refl)

-- the tables of accepted lines, with the bid on one of them; whatever the bid there, the head is the same
pub record LineHeld (b : BidLine) (xs ys : List (Option Line)) (T : Tender) (R : List Row) (W : List Window) : Type 0 where
  pub from : ℕ
  pub between : List (Option Line)
  pub head : (c : BidLine) → head_of (xs ++ some (bid c) ∷ ys) ≡ begun T from (between ++ some (bid c) ∷ ys)
  pub sound : checked T from [] (between ++ some (bid b) ∷ ys) (tables T (bids_of (between ++ some (bid b) ∷ ys)))
      ≡ accepted T R W
  pub rows : R ≡ rows_from 0 (bids_of (between ++ some (bid b) ∷ ys))
  pub windows : W ≡ all_windows (bids_of (between ++ some (bid b) ∷ ys))

pub line_held : (T : Tender) (R : List Row) (W : List Window) (b : BidLine) (xs ys : List (Option Line))
    → Begun T R W (xs ++ some (bid b) ∷ ys) → LineHeld b xs ys T R W
line_held T R W b xs ys g =
    let h = head_before xs ys T g.from g.rest b g.head in
    record {
      from = g.from;
      between = h.between;
      head = h.any;
      sound = sym (ap (λ r. checked T g.from [] r (tables T (bids_of r))) h.rest_is) ∙ g.sound;
      rows = g.rows ∙ ap (λ r. rows_from 0 (bids_of r)) h.rest_is;
      windows = g.windows ∙ ap (λ r. all_windows (bids_of r)) h.rest_is;
    }

-- the same of a text with a bid's line in it, whose bytes from there on have the pieces f and ps
pub record BidFound (before n p f : List ℕ) (ps : List (List ℕ)) (T : Tender) (R : List Row) (W : List Window) : Type 0 where
  pub b : BidLine
  pub is : bid_of (n ∷ p ∷ cut 32 f) ≡ some (bid b)
  pub line : LineHeld b (map line_of (cut 10 before)) (lines_of ps) T R W
  pub ended : Pieces ps

module _ (before n p after f : List ℕ) (ps : List (List ℕ)) (wn : Word n) (wp : Word p) (e : cut 10 after ≡ f ∷ ps) (T : Tender)
    (R : List Row) (W : List Window) where
  pub text_lines : lines_of (cut 10 (before ++ 10 ∷ bid_line n p after))
      ≡ map line_of (cut 10 before) ++ lines_of (bid_line n p f ∷ ps)
  text_lines = rw (
    cut_append 10 before (bid_line n p after),
    line_cut n p after f ps wn wp e,
    lines_append (cut 10 before) (bid_line n p f) ps,
  )

  pub found : read_text (before ++ 10 ∷ bid_line n p after) ≡ accepted T R W → BidFound before n p f ps T R W
  unfolding lines_of bid_line
  found h = go ps (rw text_lines at (read_lines_lem T R W (before ++ 10 ∷ bid_line n p after) h))
    where
      xs : List (Option Line)
      xs = map line_of (cut 10 before)

      held : (qs : List (List ℕ)) (x : Option Line) → Begun T R W (xs ++ x ∷ lines_of qs) → Pieces qs
          → (b : BidLine) × (bid_of (n ∷ p ∷ cut 32 f) ≡ some (bid b)) → x ≡ bid_of (n ∷ p ∷ cut 32 f)
          → BidFound before n p f qs T R W
      held qs x g c (b, q) w = record {
        b = b;
        is = q;
        line = line_held T R W b xs (lines_of qs) (rw (w ∙ q) at g);
        ended = c;
      }

      go : (qs : List (List ℕ)) → read_lines (xs ++ lines_of (bid_line n p f ∷ qs)) ≡ accepted T R W
          → BidFound before n p f qs T R W
      go [] x =
          let g = accepted_head T R W (xs ++ none ∷ []) x in
          let l = read_at xs none [] (accepted_read T R W (xs ++ none ∷ []) g) in
          let z : ◌≡◌ {A = ℕ} 0 1 = cc l.1 in absurd (omega arith)
      go (q ∷ qs) x =
          let g = accepted_head T R W (xs ++ line_of (bid_line n p f) ∷ lines_of (q ∷ qs)) x in
          let l = read_at xs (line_of (bid_line n p f)) (lines_of (q ∷ qs)) (accepted_read T R W _ g) in
          held (q ∷ qs) (line_of (bid_line n p f)) g (record { first = q; rest = qs; are = refl })
          (is_bid n p (cut 32 f) l.0 (sym (line_of_lem n p f wn wp) ∙ l.1)) (line_of_lem n p f wn wp)

-- what two accepted texts answer that differ in one bid: the same tender, and the same bids but for that one's price and windows
pub record DifferInOneBid (T U : Tender) (R S : List Row) (W X : List Window) (n p q ws vs : List ℕ) : Type 0 where
  pub tenders : T ≡ U
  pub before : List BidLine
  pub b : BidLine
  pub c : BidLine
  pub after : List BidLine
  pub first : Parts n p (cut 32 ws) b
  pub second : Parts n q (cut 32 vs) c
  pub rows : R ≡ rows_from 0 (before ++ b ∷ after)
  pub rows_too : S ≡ rows_from 0 (before ++ c ∷ after)
  pub windows : W ≡ all_windows (before ++ b ∷ after)
  pub windows_too : X ≡ all_windows (before ++ c ∷ after)

pub windows_by_lem : {n p : List ℕ} {b : BidLine} (ws : List ℕ) → Parts n p (cut 32 ws) b → windows_by ws ≡ b.windows
unfolding windows_by
windows_by_lem ws h = ap those_in h.windows_are

both_found : {before n p q f g : List ℕ} {ps : List (List ℕ)} {T U : Tender} {R S : List Row} {W X : List Window}
    → BidFound before n p f ps T R W → BidFound before n q g ps U S X → DifferInOneBid T U R S W X n p q f g
both_found {n = n} {p = p} {q = q} {f = f} {g = g} {ps = ps} {T = T} {U = U} x y =
    let b = x.b in
    let c = y.b in
    let zs = x.line.between in
    let same : begun U y.line.from (y.line.between ++ some (bid c) ∷ lines_of ps)
    ≡ begun T x.line.from (zs ++ some (bid c) ∷ lines_of ps) = sym (y.line.head c) ∙ x.line.head c in
    let lines : y.line.between ++ some (bid c) ∷ lines_of ps ≡ zs ++ some (bid c) ∷ lines_of ps = cc (same) in
    let hx = bids_append zs b (lines_of ps) in
    let hy = ap bids_of lines ∙ bids_append zs c (lines_of ps) in
    record {
      tenders = cc (same);
      before = bids_of zs;
      b = b;
      c = c;
      after = bids_of (lines_of ps);
      first = parts n p (cut 32 f) b x.is;
      second = parts n q (cut 32 g) c y.is;
      rows = x.line.rows ∙ ap (rows_from 0) hx;
      rows_too = y.line.rows ∙ ap (rows_from 0) hy;
      windows = x.line.windows ∙ ap all_windows hx;
      windows_too = y.line.windows ∙ ap all_windows hy;
    }

pub bid_law : (t u n p q ws vs : List ℕ) (T U : Tender) (R S : List Row) (W X : List Window) → DifferInBid t u n p q ws vs
    → read_text t ≡ accepted T R W → read_text u ≡ accepted U S X → DifferInOneBid T U R S W X n p q ws vs
bid_law t u n p q ws vs T U R S W X d h k = both_found
    (found d.before n p (ws ++ 10 ∷ d.after) ws (cut 10 d.after) d.bidder_word d.p_word
    (cut_end 10 ws d.after d.ws_line) T R W (rw d.left at h))
    (found d.before n q (vs ++ 10 ∷ d.after) vs (cut 10 d.after) d.bidder_word d.q_word
    (cut_end 10 vs d.after d.vs_line) U S X (rw d.right at k))

-- the first of two pieces or more ends with the byte d
record EndedBy (d : ℕ) (s f : List ℕ) : Type 0 where
  rest : List ℕ
  are : s ≡ f ++ d ∷ rest
  without : among d f ≡ false

ended_by : (d : ℕ) (s f g : List ℕ) (gs : List (List ℕ)) → cut d s ≡ f ∷ g ∷ gs → EndedBy d s f
unfolding cut among
ended_by d [] f g gs e = let z : ◌≡◌ {A = ℕ} 0 1 = cc in absurd (omega arith)
ended_by d (b ∷ s) f g gs e = go (eqb b d) refl (cut_some d s) (λ h. ended_by d s h g gs) e
  where
    grown : (h : List ℕ) → eqb b d ≡ false → EndedBy d s h → b ∷ h ≡ f → EndedBy d (b ∷ s) f
    grown h q m k = record { rest = m.rest; are = rw (← k) (ap (λ r. b ∷ r) m.are); without = rw (← k) (rw q m.without) }

    go : (t : Bool) → eqb b d ≡ t → Pieces (cut d s) → ((h : List ℕ) → cut d s ≡ h ∷ g ∷ gs → EndedBy d s h)
        → cond t ([] ∷ cut d s) (grow_first b (cut d s)) ≡ f ∷ g ∷ gs → EndedBy d (b ∷ s) f
    go true q c ih e = let k : [] ≡ f = cc in record { rest = s; are = rw (← k, eqb-true b d q); without = rw (← k) }
    go false q c ih e =
        let k : grow_first b (c.first ∷ c.rest) ≡ f ∷ g ∷ gs = ap (grow_first b) (sym c.are) ∙ e in
        let l : c.rest ≡ g ∷ gs = cc (k) in
        grown c.first q (ih c.first (c.are ∙ ap (λ r. c.first ∷ r) l)) (cc (k))

-- accepted texts that differ in a price differ in that bid, with the same windows
pub record SameWindows (t u n p q : List ℕ) : Type 0 where
  pub ws : List ℕ
  pub differ : DifferInBid t u n p q ws ws

pub price_as_bid : (t u n p q : List ℕ) (T : Tender) (R : List Row) (W : List Window) → DifferInPrice t u n p q
    → read_text t ≡ accepted T R W → SameWindows t u n p q
price_as_bid t u n p q T R W d h =
    let s = cut_some 10 d.after in
    let x = found d.before n p d.after s.first s.rest d.bidder_word d.p_word s.are T R W (rw d.left at h) in
    let e = ended_by 10 d.after s.first x.ended.first x.ended.rest (s.are ∙ ap (λ ps. s.first ∷ ps) x.ended.are) in
    record {
      ws = s.first;
      differ = record {
        before = d.before;
        after = e.rest;
        left = d.left ∙ ap (λ r. d.before ++ 10 ∷ bid_line n p r) e.are;
        right = d.right ∙ ap (λ r. d.before ++ 10 ∷ bid_line n q r) e.are;
        bidder_word = d.bidder_word;
        p_word = d.p_word;
        q_word = d.q_word;
        ws_line = e.without;
        vs_line = e.without;
      };
    }

-- and then both have the same windows
pub windows_same : {T U : Tender} {R S : List Row} {W X : List Window} {n p q ws : List ℕ} → DifferInOneBid T U R S W X n p q ws ws
    → X ≡ W
unfolding all_windows
windows_same d =
    let e : d.c.windows ≡ d.b.windows = cc (d.first.windows_are, d.second.windows_are) in
    d.windows_too ∙ windows_append d.before (d.c ∷ d.after)
    ∙ ap (λ ws. all_windows d.before ++ (ws ++ all_windows d.after)) e
    ∙ sym (d.windows ∙ windows_append d.before (d.b ∷ d.after))
