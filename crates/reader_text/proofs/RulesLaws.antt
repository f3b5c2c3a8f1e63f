-- An accepted text keeps every rule. Assumes nothing.
use Rattle.std.specs.Prelude.{◌≡◌, refl, Bool, true, false, cond, not, ◌&&◌, ◌||◌, ℕ, suc, ◌+◌, ◌≤◌, ◌<◌, leb}
use Rattle.std.specs.Prelude.{ltb}
use Rattle.std.proofs.Common.{ap, arith, zero-add, length-append, ltb-false, leb-true, leb-false}
use mathlib.Core.List.{List, [], ◌∷◌, ◌++◌, map}
use Rattle.std.proofs.Math.Option.{Option, none, some}
use Rattle.std.proofs.Math.ListN.{length}
use Rattle.std.proofs.lemmas.Bool.{not-false}
use Rattle.tender.specs.Keywords.{bid_word, reserve_word, tender_word}
use Rattle.tender.specs.declared.Kind.{Kind}
use Rattle.tender.specs.declared.Kind.TheVariants.{Single, Multi}
use Rattle.tender.specs.declared.Span.{Span}
use Rattle.tender.specs.declared.Window.{Window}
use Rattle.tender.specs.declared.Tender.{Tender}
use Rattle.tender.specs.Limits.{is_single, lawful, sound_tender, within, ordered, early, every}
use Rattle.tender.specs.RulesLaws.{lawful_rules, every_split, sound_rules}
use Rattle.tender.specs.Tables.{Row}
use Rattle.reader_parts.specs.Words.{and_then, cut, among, equal_bytes, closed, numeral_of, price_of}
use Rattle.reader_forms.specs.Line.{BidLine, Line, tender, bid, reserve, kind_of, windows_in, tender_of, bid_of, reserve_of, line_of_words}
use Rattle.reader_parts.specs.Windows.{span_of, window_of}
use Rattle.reader_forms.specs.Line.{head_lines, line_of, lines_of}
use Rattle.reader_parts.proofs.GivenLaws.{both_true as and_split}
use Rattle.tender.specs.declared.Refusal.{Refusal}
use Rattle.tender.specs.declared.Refusal.TheVariants.{OutsideLimits, TooMany, EmptyWindow, BidderRepeated, SeveralWindows}
use Rattle.tender.specs.declared.Refusal.TheVariants.{LateWindow}
use Rattle.reader_text.specs.Read.{ReadOutcome, accepted, rows_from, all_windows, bids_of, line_fault, bid_fault_in, bid_fault_after}
use Rattle.reader_text.specs.Read.{bid_fault}
use Rattle.reader_text.specs.Read.{checked, tables, read_text}
use Rattle.reader_text.proofs.FaultLaws.{every_lawful}
use Rattle.reader_parts.proofs.CutLaws.{neither}
use Rattle.reader_text.proofs.ReadLaws.{never, read_lines_lem, judged_out}
use Rattle.reader_text.proofs.HeadLaws.{head_is, accepted_head}
use Rattle.reader_text.specs.Rules.{RowsRules, WindowsRules, Rules}

-- a bid that was read has a window

abbrev Filled : Option Line → Type 0
Filled none = Unit {0}
Filled (some (tender t)) = Unit {0}
Filled (some (bid b)) = 1 ≤ length b.windows
Filled (some (reserve p)) = Unit {0}

abbrev Long : Option (List Window) → Type 0
Long none = Unit {0}
Long (some l) = 1 ≤ length l

windows_long : (ws : List (List ℕ)) → Long (windows_in ws)
unfolding windows_in and_then
windows_long [] = tt
windows_long (s ∷ []) = tt
windows_long (s ∷ e ∷ []) = go (closed e)
  where
    last : (o : Option Window) → Long (and_then o (λ w. some (w ∷ [])))
    last none = tt
    last (some w) = omega arith

    go : (o : Option (List ℕ)) → Long (and_then o (λ z. and_then (window_of s z) (λ w. some (w ∷ []))))
    go none = tt
    go (some z) = last (window_of s z)
windows_long (s ∷ e ∷ x ∷ ws) = go (window_of s e) (windows_in (x ∷ ws))
  where
    go : (o : Option Window) (r : Option (List Window)) → Long (and_then o (λ w. and_then r (λ l. some (w ∷ l))))
    go none r = tt
    go (some w) none = tt
    go (some w) (some l) = omega arith

bid_filled : (ws : List (List ℕ)) → Filled (bid_of ws)
unfolding bid_of and_then
bid_filled [] = tt
bid_filled (n ∷ []) = tt
bid_filled (n ∷ p ∷ ws) = go (numeral_of n) (price_of p) (windows_in ws) (windows_long ws)
  where
    go : (x y : Option ℕ) (z : Option (List Window)) → Long z
        → Filled (and_then x (λ i. and_then y (λ v. and_then z (λ l. some (bid (record { bidder = i; price = v; windows = l }))))))
    go none y z h = tt
    go (some i) none z h = tt
    go (some i) (some v) none h = tt
    go (some i) (some v) (some l) h = h

tender_filled : (ws : List (List ℕ)) → Filled (tender_of ws)
unfolding tender_of and_then
tender_filled [] = tt
tender_filled (k ∷ []) = tt
tender_filled (k ∷ s ∷ []) = tt
tender_filled (k ∷ s ∷ e ∷ []) = go (kind_of k) (closed e)
  where
    last : (y : Kind) (o : Option Span) → Filled (and_then o (λ w. some (tender (record { kind = y; window = w }))))
    last y none = tt
    last y (some w) = tt

    go : (x : Option Kind) (o : Option (List ℕ)) → Filled
        (and_then x (λ y. and_then o (λ z. and_then (span_of s z) (λ w. some (tender (record { kind = y; window = w }))))))
    go none o = tt
    go (some y) none = tt
    go (some y) (some z) = last y (span_of s z)
tender_filled (k ∷ s ∷ e ∷ x ∷ ws) = tt

reserve_filled : (ws : List (List ℕ)) → Filled (reserve_of ws)
unfolding reserve_of and_then
reserve_filled [] = tt
reserve_filled (p ∷ []) = go (closed p)
  where
    last : (o : Option ℕ) → Filled (and_then o (λ v. some (reserve v)))
    last none = tt
    last (some v) = tt

    go : (o : Option (List ℕ)) → Filled (and_then o (λ z. and_then (price_of z) (λ v. some (reserve v))))
    go none = tt
    go (some z) = last (price_of z)
reserve_filled (p ∷ x ∷ ws) = tt

words_filled : (ws : List (List ℕ)) → Filled (line_of_words ws)
unfolding line_of_words
words_filled [] = tt
words_filled (w ∷ ws) = go (equal_bytes w (40 ∷ tender_word)) (equal_bytes w (40 ∷ bid_word)) (equal_bytes w (40 ∷ reserve_word))
  where
    go : (a b c : Bool) → Filled (cond a (tender_of ws) (cond b (bid_of ws) (cond c (reserve_of ws) none)))
    go true b c = tender_filled ws
    go false true c = bid_filled ws
    go false false true = reserve_filled ws
    go false false false = tt

abbrev AllFilled : List (Option Line) → Type 0
AllFilled [] = Unit {0}
AllFilled (x ∷ ls) = Filled x × AllFilled ls

lines_filled : (ps : List (List ℕ)) → AllFilled (lines_of ps)
unfolding lines_of line_of
lines_filled [] = tt
lines_filled ([] ∷ []) = tt
lines_filled ((b ∷ p) ∷ []) = (tt, tt)
lines_filled (p ∷ q ∷ ps) = (words_filled (cut 32 p), lines_filled (q ∷ ps))

filled_after : (xs ys : List (Option Line)) → AllFilled (xs ++ ys) → AllFilled ys
filled_after [] ys a = a
filled_after (x ∷ xs) ys a = filled_after xs ys a.1

-- a bid without a fault

cond_none : (t : Bool) (n : ℕ → Refusal) (x : Option (ℕ → Refusal)) → cond t (some n) x ≡ none → (t ≡ false) × (x ≡ none)
cond_none true n x e = let z : ◌≡◌ {A = ℕ} 0 1 = cc in absurd (omega arith)
cond_none false n x e = (refl, e)

pub record Passed (t : Tender) (bids bidder price count : ℕ) (empty late used : Bool) : Type 0 where
  pub few_bids : bids < 1000
  pub few_windows : count ≤ 32
  pub bidder_low : 1 ≤ bidder
  pub bidder_high : bidder ≤ 999999
  pub price_high : price ≤ 100000000
  pub one_window : t.kind ≡ Single → count ≤ 1
  pub not_empty : empty ≡ false
  pub not_late : late ≡ false
  pub bidder_new : used ≡ false

pub passed : (t : Tender) (bids bidder price count : ℕ) (empty late used : Bool)
    → bid_fault_in t bids bidder price count empty late used ≡ none → Passed t bids bidder price count empty late used
unfolding bid_fault_in line_fault within
passed t bids bidder price count empty late used e =
    let c4 = cond_none (leb 1000 bids || ltb 32 count) TooMany _ e in
    let c3 = cond_none (not (within 1 999999 bidder) || ltb 100000000 price) OutsideLimits _ c4.1 in
    let c7 = cond_none (is_single t.kind && ltb 1 count) SeveralWindows _ c3.1 in
    let c5 = cond_none empty EmptyWindow _ c7.1 in
    let c15 = cond_none late LateWindow _ c5.1 in
    let c6 = cond_none used BidderRepeated _ c15.1 in
    let f4 = neither (leb 1000 bids) (ltb 32 count) c4.0 in
    let f3 = neither (not (within 1 999999 bidder)) (ltb 100000000 price) c3.0 in
    let w = and_split (leb 1 bidder) (leb bidder 999999) (not-false (within 1 999999 bidder) f3.0) in
    record {
      few_bids = leb-false 1000 bids f4.0;
      few_windows = ltb-false 32 count f4.1;
      bidder_low = leb-true 1 bidder w.0;
      bidder_high = leb-true bidder 999999 w.1;
      price_high = ltb-false 100000000 price f3.1;
      one_window = one t.kind c7.0;
      not_empty = c5.0;
      not_late = c15.0;
      bidder_new = c6.0;
    }
  where
    one : (m : Kind) → is_single m && ltb 1 count ≡ false → m ≡ Single → count ≤ 1
    one Single h q = ltb-false 1 count h
    one Multi h q = let z : ◌≡◌ {A = ℕ} 0 1 = cc in absurd (omega arith)

abbrev pub FaultlessAfter : Tender → ℕ → BidLine → Bool → Type 0
FaultlessAfter t bids b used = Passed t bids b.bidder b.price (length b.windows) (not (every ordered b.windows))
    (not (every early b.windows)) used

pub faultless_after : (t : Tender) (bids : ℕ) (b : BidLine) (used : Bool) → bid_fault_after t bids b used ≡ none
    → FaultlessAfter t bids b used
unfolding bid_fault_after
faultless_after t bids b used e = passed t bids b.bidder b.price (length b.windows) (not (every ordered b.windows))
    (not (every early b.windows)) used e

abbrev pub FaultlessBid : Tender → List ℕ → BidLine → Type 0
FaultlessBid t used b = FaultlessAfter t (length used) b (among b.bidder used)

pub faultless_bid : (t : Tender) (used : List ℕ) (b : BidLine) → bid_fault t used b ≡ none → FaultlessBid t used b
unfolding bid_fault
faultless_bid t used b e = faultless_after t (length used) b (among b.bidder used) e

-- the windows of a bid before those of others
windows_rules : (ws us : List Window) → every lawful ws ≡ true → WindowsRules us → WindowsRules (ws ++ us)
windows_rules [] us e h = h
windows_rules (w ∷ ws) us e h =
    let s = every_split lawful w ws e in
    (lawful_rules w s.0, windows_rules ws us s.1 h)

record Sound (k : Kind) (used : List ℕ) (at : ℕ) (bs : List BidLine) : Type 0 where
  few_bids : length used ≤ 1000 → length used + length bs ≤ 1000
  rows : RowsRules k used at (rows_from at bs) (at + length (all_windows bs))
  windows : WindowsRules (all_windows bs)

more : (t : Tender) (used : List ℕ) (at : ℕ) (b : BidLine) (bs : List BidLine) → 1 ≤ length b.windows → FaultlessBid t used b
    → Sound t.kind (used ++ b.bidder ∷ []) (at + length b.windows) bs → Sound t.kind used at (b ∷ bs)
unfolding rows_from all_windows
more t used at b bs l h s =
    let e : at + length (b.windows ++ all_windows bs) ≡ at + length b.windows + length (all_windows bs) =
    simp length-append (omega arith) in
    let f = h.few_bids in
    let g = s.few_bids in
    let m = length-append used (b.bidder ∷ []) in
    record {
      few_bids = λ u. omega (arith, m, g (omega (arith, m)));
      rows = (
        record {
          bidder_low = h.bidder_low;
          bidder_high = h.bidder_high;
          bidder_new = h.bidder_new;
          price_high = h.price_high;
          some_window = l;
          few_windows = h.few_windows;
          one_window = λ q. omega (arith, h.one_window q);
          begins = refl;
        },
        rw e s.rows,
      );
      windows = windows_rules b.windows (all_windows bs)
          (every_lawful b.windows (not-false _ h.not_empty) (not-false _ h.not_late)) s.windows;
    }

pub rows_from_length : (at : ℕ) (bs : List BidLine) → length (rows_from at bs) ≡ length bs
unfolding rows_from
rows_from_length at [] = refl
rows_from_length at (b ∷ bs) = ap suc (rows_from_length (at + length b.windows) bs)

module _ (T : Tender) (R : List Row) (W : List Window) where
  sound : (u : Tender) (n : ℕ) (used : List ℕ) (at : ℕ) (ls : List (Option Line)) (out : ReadOutcome) → AllFilled ls
      → checked u n used ls out ≡ accepted T R W → Sound u.kind used at (bids_of ls)
  unfolding checked bids_of rows_from all_windows
  sound u n used at [] out a e = record { few_bids = λ h. omega arith; rows = omega arith; windows = tt }
  sound u n used at (none ∷ ls) out a e = never e
  sound u n used at (some (tender t) ∷ ls) out a e = never e
  sound u n used at (some (reserve p) ∷ ls) out a e = never e
  sound u n used at (some (bid b) ∷ ls) out a e =
      let j = judged_out T R W (bid_fault u used b) n (checked u (n + 1) (used ++ b.bidder ∷ []) ls out) e in
      more u used at b (bids_of ls) a.0 (faultless_bid u used b j.0)
      (sound u (n + 1) (used ++ b.bidder ∷ []) (at + length b.windows) ls out a.1 j.1)

  by_bids : (bs : List BidLine) → sound_tender T ≡ true → Sound T.kind [] 0 bs → R ≡ rows_from 0 bs → W ≡ all_windows bs
      → Rules T R W
  by_bids bs l s r w = record {
    tender = sound_rules T l;
    few_bids = rw r (omega (arith, rows_from_length 0 bs, s.few_bids (omega arith)));
    rows = rw (r, w) (rw zero-add at s.rows);
    windows = rw w s.windows;
  }

  -- every rule holds of what an accepted text gives
  pub rules_law : (text : List ℕ) → read_text text ≡ accepted T R W → Rules T R W
  rules_law text e =
      let ls = lines_of (cut 10 text) in
      let g = accepted_head T R W ls (read_lines_lem T R W text e) in
      let i = head_is ls T g.from g.rest g.head in
      let a : AllFilled (map (λ l. some l) (head_lines T) ++ g.rest) = rw i.lines at (lines_filled (cut 10 text)) in
      let f = filled_after (map (λ l. some l) (head_lines T)) g.rest a in
      by_bids (bids_of g.rest) i.sound (sound T g.from [] 0 g.rest (tables T (bids_of g.rest)) f g.sound)
      g.rows g.windows
