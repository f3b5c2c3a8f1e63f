-- A bid's line has six bytes for each of its windows and nine beside them, so that a text's length bounds how many bids and windows it
-- has. Assumes nothing.
use Rattle.std.specs.Prelude.{◌≡◌, refl, List, [], ◌∷◌, Bool, true, false, cond, not, ◌&&◌, ℕ, ◌+◌, ◌*◌}
use Rattle.std.specs.Prelude.{◌≤◌, length, eqb}
use Rattle.std.proofs.Common.{ap, ◌∙◌, arith, length-append, leb-true}
use Rattle.std.proofs.Math.Option.{none, some}
use Rattle.tender.specs.declared.Window.{Window}
use Rattle.tender.specs.Keywords.{tender_word, bid_word, reserve_word}
use Rattle.tender.specs.Limits.{within}
use Rattle.reader_parts.specs.Words.{grow_first, cut, equal_bytes, opened, closed, digits, leading_zero, numeral_of, price_of}
use Rattle.reader_forms.specs.Line.{BidLine, bid, kind_of, windows_in, tender_of, bid_of, reserve_of, line_of_words, line_of}
use Rattle.reader_parts.specs.Windows.{span_of, window_of}
use Rattle.reader_parts.proofs.CutLaws.{Pieces, cut_some}
use Rattle.reader_parts.proofs.PriceFormLaws.{PriceForm, plainly, pointed, price_form}
use Rattle.reader_parts.proofs.GivenLaws.{same_is, both_true, then_some, cond_some}

-- the bytes of the pieces, with one after each
bytes_of : List (List ℕ) → ℕ
bytes_of [] = 0
bytes_of (p ∷ ps) = length p + 1 + bytes_of ps

cut_bytes : (d : ℕ) (s : List ℕ) → bytes_of (cut d s) ≡ length s + 1
unfolding cut bytes_of
cut_bytes d [] = refl
cut_bytes d (b ∷ s) = go (eqb b d) (cut_some d s) (cut_bytes d s)
  where
    grown : (ps : List (List ℕ)) → Pieces ps → bytes_of (grow_first b ps) ≡ bytes_of ps + 1
    grown ps c = rw c.are (omega arith)

    go : (t : Bool) → Pieces (cut d s) → bytes_of (cut d s) ≡ length s + 1
        → bytes_of (cond t ([] ∷ cut d s) (grow_first b (cut d s))) ≡ length (b ∷ s) + 1
    go true c e = omega arith
    go false c e = grown (cut d s) c ∙ omega arith

numeral_long : (w : List ℕ) (v : ℕ) → numeral_of w ≡ some v → 1 ≤ length w
unfolding numeral_of within
numeral_long w v e =
    let c = cond_some (within 1 9 (length w) && not (leading_zero w)) (digits 0 w) v e in
    leb-true 1 (length w) (both_true _ _ (both_true (within 1 9 (length w)) (not (leading_zero w)) c.0).0).0

price_long : (w : List ℕ) (v : ℕ) → price_of w ≡ some v → 1 ≤ length w
price_long w v e = go (price_form w v e)
  where
    go : PriceForm w v → 1 ≤ length w
    go (plainly n) = numeral_long w v n
    go (pointed p) = omega (arith, ap length p.are, length-append p.whole (46 ∷ p.cents))

opened_long : (w r : List ℕ) → opened w ≡ some r → length w ≡ length r + 1
unfolding opened
opened_long [] r e = let z : ◌≡◌ {A = ℕ} 0 1 = cc in absurd (omega arith)
opened_long (b ∷ w) r e = let q : w ≡ r = cc (cond_some (eqb b 40) (some w) r e).1 in rw q (omega arith)

closed_long : (w r : List ℕ) → closed w ≡ some r → length w ≡ length r + 1
unfolding closed
closed_long [] r e = let z : ◌≡◌ {A = ℕ} 0 1 = cc in absurd (omega arith)
closed_long (b ∷ []) r e = let q : [] ≡ r = cc (cond_some (eqb b 41) (some []) r e).1 in rw (← q)
closed_long (b ∷ c ∷ w) r e =
    let t = then_some (closed (c ∷ w)) _ r e in
    let q : b ∷ t.0 ≡ r = cc t.2 in
    omega (arith, closed_long (c ∷ w) t.0 t.1, ap length q)

window_long : (s e : List ℕ) (w : Window) → window_of s e ≡ some w → (2 ≤ length s) × (2 ≤ length e)
unfolding window_of span_of
window_long s e w h =
    let a = then_some (opened s) _ w h in
    let z = then_some (closed e) _ w a.2 in
    let v = then_some (span_of a.0 z.0) _ w z.2 in
    let n = then_some (numeral_of a.0) _ v.0 v.1 in
    let m = then_some (numeral_of z.0) _ v.0 n.2 in (
      omega (arith, opened_long s a.0 a.1, numeral_long a.0 n.0 n.1),
      omega (arith, closed_long e z.0 z.1, numeral_long z.0 m.0 m.1),
    )

-- one window at least, and the bracket that closes the line
windows_long : (ws : List (List ℕ)) (l : List Window) → windows_in ws ≡ some l
    → (1 ≤ length l) × (6 * length l + 1 ≤ bytes_of ws)
unfolding windows_in bytes_of
windows_long [] l h = let z : ◌≡◌ {A = ℕ} 0 1 = cc in absurd (omega arith)
windows_long (s ∷ []) l h = let z : ◌≡◌ {A = ℕ} 0 1 = cc in absurd (omega arith)
windows_long (s ∷ e ∷ []) l h =
    let z = then_some (closed e) _ l h in
    let w = then_some (window_of s z.0) _ l z.2 in
    let q : w.0 ∷ [] ≡ l = cc w.2 in
    let b = window_long s z.0 w.0 w.1 in
    let n = ap length q in (omega arith, omega (arith, b.0, b.1, closed_long e z.0 z.1))
windows_long (s ∷ e ∷ x ∷ ws) l h =
    let w = then_some (window_of s e) _ l h in
    let r = then_some (windows_in (x ∷ ws)) _ l w.2 in
    let q : w.0 ∷ r.0 ≡ l = cc r.2 in
    let b = window_long s e w.0 w.1 in
    let n = ap length q in (omega arith, omega (arith, b.0, b.1, (windows_long (x ∷ ws) r.0 r.1).1))

tender_no_bid : (ws : List (List ℕ)) (b : BidLine) → tender_of ws ≡ some (bid b) → ⊥
unfolding tender_of
tender_no_bid [] b h = let z : ◌≡◌ {A = ℕ} 0 1 = cc in omega arith
tender_no_bid (k ∷ []) b h = let z : ◌≡◌ {A = ℕ} 0 1 = cc in omega arith
tender_no_bid (k ∷ s ∷ []) b h = let z : ◌≡◌ {A = ℕ} 0 1 = cc in omega arith
tender_no_bid (k ∷ s ∷ e ∷ []) b h =
    let y = then_some (kind_of k) _ (bid b) h in
    let z = then_some (closed e) _ (bid b) y.2 in
    let w = then_some (span_of s z.0) _ (bid b) z.2 in
    let q = w.2 in
    let z : ◌≡◌ {A = ℕ} 0 1 = cc in omega arith
tender_no_bid (k ∷ s ∷ e ∷ x ∷ ws) b h = let z : ◌≡◌ {A = ℕ} 0 1 = cc in omega arith

reserve_no_bid : (ws : List (List ℕ)) (b : BidLine) → reserve_of ws ≡ some (bid b) → ⊥
unfolding reserve_of
reserve_no_bid [] b h = let z : ◌≡◌ {A = ℕ} 0 1 = cc in omega arith
reserve_no_bid (p ∷ []) b h =
    let z = then_some (closed p) _ (bid b) h in
    let v = then_some (price_of z.0) _ (bid b) z.2 in
    let q = v.2 in
    let z : ◌≡◌ {A = ℕ} 0 1 = cc in omega arith
reserve_no_bid (p ∷ x ∷ ws) b h = let z : ◌≡◌ {A = ℕ} 0 1 = cc in omega arith

bid_long : (ws : List (List ℕ)) (b : BidLine) → bid_of ws ≡ some (bid b)
    → (1 ≤ length b.windows) × (6 * length b.windows + 5 ≤ bytes_of ws)
unfolding bid_of bytes_of
bid_long [] b h = let z : ◌≡◌ {A = ℕ} 0 1 = cc in absurd (omega arith)
bid_long (n ∷ []) b h = let z : ◌≡◌ {A = ℕ} 0 1 = cc in absurd (omega arith)
bid_long (n ∷ p ∷ ws) b h =
    let y = then_some (numeral_of n) _ (bid b) h in
    let v = then_some (price_of p) _ (bid b) y.2 in
    let l = then_some (windows_in ws) _ (bid b) v.2 in
    let q : ◌≡◌ {A = BidLine} (record { bidder = y.0; price = v.0; windows = l.0 }) b = cc l.2 in
    let long = windows_long ws l.0 l.1 in
    let same = ap (λ (c : BidLine). length c.windows) q in
    (omega (arith, long.0), omega (arith, long.1, numeral_long n y.0 y.1, price_long p v.0 v.1))

-- the windows of a bid's line, which has one at least, and its bytes
pub line_long : (line : List ℕ) (b : BidLine) → line_of line ≡ some (bid b)
    → (1 ≤ length b.windows) × (6 * length b.windows + 9 ≤ length line)
unfolding line_of line_of_words bytes_of bid_word
line_long line b h = let l = go (cut 32 line) h in (l.0, omega (arith, l.1, cut_bytes 32 line))
  where
    go : (ws : List (List ℕ)) → line_of_words ws ≡ some (bid b)
        → (1 ≤ length b.windows) × (6 * length b.windows + 10 ≤ bytes_of ws)
    go [] e = let z : ◌≡◌ {A = ℕ} 0 1 = cc in absurd (omega arith)
    go (w ∷ ws) e = first (equal_bytes w (40 ∷ tender_word)) (equal_bytes w (40 ∷ bid_word)) refl (equal_bytes w (40 ∷ reserve_word)) e
      where
        first : (x y : Bool) → equal_bytes w (40 ∷ bid_word) ≡ y → (z : Bool)
            → cond x (tender_of ws) (cond y (bid_of ws) (cond z (reserve_of ws) none)) ≡ some (bid b)
            → (1 ≤ length b.windows) × (6 * length b.windows + 10 ≤ bytes_of (w ∷ ws))
        first true y s z q = absurd (tender_no_bid ws b q)
        first false true s z q =
            let l = bid_long ws b q in
            (l.0, omega (arith, l.1, ap length (same_is w (40 ∷ bid_word) s)))
        first false false s true q = absurd (reserve_no_bid ws b q)
        first false false s false q = let z : ◌≡◌ {A = ℕ} 0 1 = cc in absurd (omega arith)
