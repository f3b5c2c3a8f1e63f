-- Each byte of a line of the form is a digit, a point, a space, a bracket or a letter. Assumes nothing.
use Rattle.std.specs.Prelude.{◌≡◌, refl, List, [], ◌∷◌, ◌++◌, Bool, true, false, cond, not, ◌&&◌, ℕ, ◌+◌, ◌-◌}
use Rattle.std.specs.Prelude.{◌*◌, length, eqb}
use Rattle.std.proofs.Common.{ap, ◌∙◌, arith, eqb-true}
use Rattle.std.proofs.Math.Option.{none, some}
use Rattle.tender.specs.Keywords.{bid_word, multi_word, reserve_word, single_word, tender_word}
use Rattle.tender.specs.declared.Kind.{Kind}
use Rattle.tender.specs.declared.Kind.TheVariants.{Single, Multi}
use Rattle.tender.specs.declared.Span.{Span}
use Rattle.tender.specs.declared.Window.{Window}
use Rattle.tender.specs.Limits.{within}
use Rattle.reader_parts.specs.Words.{grow_first, cut, equal_bytes, opened, closed, digits, leading_zero, numeral_of, price_of}
use Rattle.reader_forms.specs.Line.{Line, kind_of, windows_in, tender_of, bid_of, reserve_of, line_of_words, line_of}
use Rattle.reader_parts.specs.Windows.{span_of, window_of}
use Rattle.reader_parts.proofs.GivenLaws.{both_true, then_some, cond_some, same_is}
use Rattle.reader_parts.proofs.CutLaws.{Pieces, cut_some}
use Rattle.reader_parts.proofs.PriceFormLaws.{PriceForm, plainly, pointed, price_form}
use Rattle.reader_forms.specs.LinePlain.{plain, all_plain}

abbrev pub PlainPieces : List (List ℕ) → Type 0
PlainPieces [] = Unit {0}
PlainPieces (p ∷ ps) = (all_plain p ≡ true) × PlainPieces ps

both : (a b : Bool) → a ≡ true → b ≡ true → a && b ≡ true
both a b h k = rw (h, k)

pub cut_plain : (d : ℕ) (s : List ℕ) → plain d ≡ true → PlainPieces (cut d s) → all_plain s ≡ true
unfolding cut all_plain
cut_plain d [] h a = refl
cut_plain d (b ∷ s) h a = go (eqb b d) refl (cut d s) (cut_some d s) (cut_plain d s h) a
  where
    more : (p : List ℕ) (ps : List (List ℕ)) → (PlainPieces (p ∷ ps) → all_plain s ≡ true)
        → PlainPieces (grow_first b (p ∷ ps)) → plain b
        && all_plain s ≡ true
    more p ps ih x = let y = both_true (plain b) (all_plain p) x.0 in both (plain b) (all_plain s) y.0 (ih (y.1, x.1))

    go : (t : Bool) → eqb b d ≡ t → (ps : List (List ℕ)) → Pieces ps → (PlainPieces ps → all_plain s ≡ true)
        → PlainPieces (cond t ([] ∷ ps) (grow_first b ps)) → plain b && all_plain s ≡ true
    go true e ps c ih x = both (plain b) (all_plain s) (rw (eqb-true b d e) h) (ih x.1)
    go false e [] c ih x = let q : [] ≡ c.first ∷ c.rest = c.are in let z : ◌≡◌ {A = ℕ} 0 1 = cc in absurd (omega arith)
    go false e (p ∷ ps) c ih x = more p ps ih x

digit_plain : (b : ℕ) → within 48 57 b ≡ true → plain b ≡ true
unfolding plain
digit_plain b e = rw e

digits_plain : (v : ℕ) (w : List ℕ) (x : ℕ) → digits v w ≡ some x → all_plain w ≡ true
unfolding digits all_plain
digits_plain v [] x e = refl
digits_plain v (b ∷ w) x e =
    let c = cond_some (within 48 57 b) (digits (v * 10 + (b - 48)) w) x e in
    both (plain b) (all_plain w) (digit_plain b c.0) (digits_plain (v * 10 + (b - 48)) w x c.1)

number_plain : (w : List ℕ) (x : ℕ) → numeral_of w ≡ some x → all_plain w ≡ true
unfolding numeral_of
number_plain w x e = digits_plain 0 w x (cond_some (within 1 9 (length w) && not (leading_zero w)) (digits 0 w) x e).1

append_plain : (v w : List ℕ) → all_plain v ≡ true → all_plain w ≡ true → all_plain (v ++ w) ≡ true
unfolding all_plain
append_plain [] w h k = k
append_plain (b ∷ v) w h k =
    let y = both_true (plain b) (all_plain v) h in both (plain b) (all_plain (v ++ w)) y.0 (append_plain v w y.1 k)

price_plain : (w : List ℕ) (x : ℕ) → price_of w ≡ some x → all_plain w ≡ true
unfolding all_plain plain
price_plain w x e = go (price_form w x e)
  where
    go : PriceForm w x → all_plain w ≡ true
    go (plainly n) = number_plain w x n
    go (pointed p) = rw p.are (append_plain p.whole (46 ∷ p.cents) (number_plain p.whole p.x p.whole_is)
        (digits_plain 0 p.cents p.y p.cents_are))

opened_plain : (w r : List ℕ) → opened w ≡ some r → all_plain r ≡ true → all_plain w ≡ true
unfolding opened all_plain
opened_plain [] r e h = refl
opened_plain (b ∷ w) r e h =
    let c = cond_some (eqb b 40) (some w) r e in
    let q : w ≡ r = cc c.1 in
    rw (eqb-true b 40 c.0, q) h

closed_plain : (w r : List ℕ) → closed w ≡ some r → all_plain r ≡ true → all_plain w ≡ true
unfolding closed all_plain
closed_plain [] r e h = refl
closed_plain (b ∷ []) r e h = rw (eqb-true b 41 (cond_some (eqb b 41) (some []) r e).0)
closed_plain (b ∷ c ∷ w) r e h =
    let t = then_some (closed (c ∷ w)) (λ s. some (b ∷ s)) r e in
    let q : b ∷ t.0 ≡ r = cc t.2 in
    let y : all_plain (b ∷ t.0) ≡ true = ap all_plain q ∙ h in
    let z = both_true (plain b) (all_plain t.0) y in
    both (plain b) (all_plain (c ∷ w)) z.0 (closed_plain (c ∷ w) t.0 t.1 z.1)

span_plain : (s e : List ℕ) (w : Span) → span_of s e ≡ some w → (all_plain s ≡ true) × (all_plain e ≡ true)
unfolding span_of
span_plain s e w h =
    let a = then_some (numeral_of s) _ w h in
    let z = then_some (numeral_of e) _ w a.2 in
    (number_plain s a.0 a.1, number_plain e z.0 z.1)

window_plain : (s e : List ℕ) (w : Window) → window_of s e ≡ some w → (all_plain s ≡ true) × (all_plain e ≡ true)
unfolding window_of
window_plain s e w h =
    let a = then_some (opened s) _ w h in
    let z = then_some (closed e) _ w a.2 in
    let n = then_some (span_of a.0 z.0) _ w z.2 in
    let p = span_plain a.0 z.0 n.0 n.1 in
    (opened_plain s a.0 a.1 p.0, closed_plain e z.0 z.1 p.1)

windows_plain : (ws : List (List ℕ)) (l : List Window) → windows_in ws ≡ some l → PlainPieces ws
unfolding windows_in
windows_plain [] l h = tt
windows_plain (s ∷ []) l h = let z : ◌≡◌ {A = ℕ} 0 1 = cc in absurd (omega arith)
windows_plain (s ∷ e ∷ []) l h =
    let a = then_some (closed e) _ l h in
    let w = then_some (window_of s a.0) _ l a.2 in
    let p = window_plain s a.0 w.0 w.1 in
    (p.0, (closed_plain e a.0 a.1 p.1, tt))
windows_plain (s ∷ e ∷ x ∷ ws) l h =
    let w = then_some (window_of s e) _ l h in
    let r = then_some (windows_in (x ∷ ws)) _ l w.2 in
    let p = window_plain s e w.0 w.1 in
    (p.0, (p.1, windows_plain (x ∷ ws) r.0 r.1))

kind_plain : (w : List ℕ) (k : Kind) → kind_of w ≡ some k → all_plain w ≡ true
unfolding kind_of all_plain single_word multi_word
kind_plain w k e = go (equal_bytes w single_word) refl (equal_bytes w multi_word) refl e
  where
    go : (a : Bool) → equal_bytes w single_word ≡ a → (b : Bool) → equal_bytes w multi_word ≡ b
        → cond a (some Single) (cond b (some Multi) none) ≡ some k
        → all_plain w ≡ true
    go true h b j x = rw (same_is w single_word h)
    go false h true j x = rw (same_is w multi_word j)
    go false h false j x = let z : ◌≡◌ {A = ℕ} 0 1 = cc in absurd (omega arith)

tender_plain : (ws : List (List ℕ)) (x : Line) → tender_of ws ≡ some x → PlainPieces ws
unfolding tender_of
tender_plain [] x h = tt
tender_plain (k ∷ []) x h = let z : ◌≡◌ {A = ℕ} 0 1 = cc in absurd (omega arith)
tender_plain (k ∷ s ∷ []) x h = let z : ◌≡◌ {A = ℕ} 0 1 = cc in absurd (omega arith)
tender_plain (k ∷ s ∷ e ∷ []) x h =
    let y = then_some (kind_of k) _ x h in
    let z = then_some (closed e) _ x y.2 in
    let w = then_some (span_of s z.0) _ x z.2 in
    let p = span_plain s z.0 w.0 w.1 in
    (kind_plain k y.0 y.1, (p.0, (closed_plain e z.0 z.1 p.1, tt)))
tender_plain (k ∷ s ∷ e ∷ u ∷ ws) x h = let z : ◌≡◌ {A = ℕ} 0 1 = cc in absurd (omega arith)

bid_plain : (ws : List (List ℕ)) (x : Line) → bid_of ws ≡ some x → PlainPieces ws
unfolding bid_of
bid_plain [] x h = tt
bid_plain (n ∷ []) x h = let z : ◌≡◌ {A = ℕ} 0 1 = cc in absurd (omega arith)
bid_plain (n ∷ p ∷ ws) x h =
    let y = then_some (numeral_of n) _ x h in
    let v = then_some (price_of p) _ x y.2 in
    let l = then_some (windows_in ws) _ x v.2 in
    (number_plain n y.0 y.1, (price_plain p v.0 v.1, windows_plain ws l.0 l.1))

reserve_plain : (ws : List (List ℕ)) (x : Line) → reserve_of ws ≡ some x → PlainPieces ws
unfolding reserve_of
reserve_plain [] x h = tt
reserve_plain (p ∷ []) x h =
    let z = then_some (closed p) _ x h in
    let v = then_some (price_of z.0) _ x z.2 in
    (closed_plain p z.0 z.1 (price_plain z.0 v.0 v.1), tt)
reserve_plain (p ∷ u ∷ ws) x h = let z : ◌≡◌ {A = ℕ} 0 1 = cc in absurd (omega arith)

pub line_plain : (line : List ℕ) (x : Line) → line_of line ≡ some x → all_plain line ≡ true
unfolding line_of all_plain
line_plain line x h = cut_plain 32 line refl (words (cut 32 line) h)
  where
    words : (ws : List (List ℕ)) → line_of_words ws ≡ some x → PlainPieces ws
    words [] e = tt
    words (w ∷ ws) e =
        go (equal_bytes w (40 ∷ tender_word)) refl (equal_bytes w (40 ∷ bid_word)) refl (equal_bytes w (40 ∷ reserve_word)) refl e
      where
        go : (a : Bool) → equal_bytes w (40 ∷ tender_word) ≡ a → (b : Bool) → equal_bytes w (40 ∷ bid_word) ≡ b
            → (c : Bool) → equal_bytes w (40 ∷ reserve_word) ≡ c
            → cond a (tender_of ws) (cond b (bid_of ws) (cond c (reserve_of ws) none)) ≡ some x → PlainPieces (w ∷ ws)
        go true h b j c k y = (rw (same_is w (40 ∷ tender_word) h), tender_plain ws x y)
        go false h true j c k y = (rw (same_is w (40 ∷ bid_word) j), bid_plain ws x y)
        go false h false j true k y = (rw (same_is w (40 ∷ reserve_word) k), reserve_plain ws x y)
        go false h false j false k y = let z : ◌≡◌ {A = ℕ} 0 1 = cc in absurd (omega arith)
