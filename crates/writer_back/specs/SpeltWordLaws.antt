-- The words of a line are those of what was read of it, with some word for its price. Assumes nothing.
use Rattle.std.specs.Prelude.{◌≡◌, refl, Bool, true, false, cond, List, [], ◌∷◌, ◌++◌, ℕ, length, None}
use Rattle.std.proofs.Common.{ap, ◌∙◌, arith}
use Rattle.std.proofs.Math.Option.{Option, none, some}
use Rattle.tender.specs.declared.Kind.{Kind}
use Rattle.tender.specs.declared.Kind.TheVariants.{Single, Multi}
use Rattle.tender.specs.declared.Span.{Span}
use Rattle.tender.specs.declared.Window.{Window}
use Rattle.tender.specs.Limits.{as_window}
use Rattle.tender.specs.Keywords.{tender_word, reserve_word, bid_word, single_word, multi_word}
use Rattle.reader_parts.specs.Words.{and_then, equal_bytes, opened, closed, numeral_of, price_of}
use Rattle.reader_forms.specs.Line.{Line, tender, bid, reserve, kind_of, windows_in, tender_of, bid_of, reserve_of, line_of_words}
use Rattle.reader_parts.specs.Windows.{span_of, window_of}
use Rattle.reader_parts.proofs.GivenLaws.{same_is, opened_some, closed_some}
use Rattle.reader_text.specs.Read.{tender_with}
use Rattle.spelling.specs.Decimal.{decimal}
use Rattle.spelling.specs.Lines.{kind_word}
use Rattle.spelling.proofs.DecimalLaws.{numeral_spelling}
use Rattle.spelling.proofs.WordLaws.{tender_words, one_words, window_words, bid_words}

-- words

record SpeltSpan (s e : List ℕ) (w : Span) : Type 0 where
  start_is : s ≡ decimal w.start
  end_is : e ≡ decimal w.end

span_is : (s e : List ℕ) (w : Span) → span_of s e ≡ some w → SpeltSpan s e w
unfolding span_of and_then
span_is s e w h = go (numeral_of s) (numeral_of e) refl refl h
  where
    go : (x y : Option ℕ) → numeral_of s ≡ x → numeral_of e ≡ y
        → and_then x (λ a. and_then y (λ z. some (record { start = a; end = z })))
        ≡ some w → SpeltSpan s e w
    go none y f g q = let z : ◌≡◌ {A = ℕ} 0 1 = cc in absurd (omega arith)
    go (some a) none f g q = let z : ◌≡◌ {A = ℕ} 0 1 = cc in absurd (omega arith)
    go (some a) (some z) f g q =
        let k : ◌≡◌ {A = Span} (record { start = a; end = z }) w = cc in
        record {
          start_is = numeral_spelling s a f ∙ ap (λ (v : Span). decimal v.start) k;
          end_is = numeral_spelling e z g
              ∙ ap (λ (v : Span). decimal v.end) k;
        }

record Bracketed (s e : List ℕ) (w : Window) : Type 0 where
  start_is : s ≡ 40 ∷ decimal w.start
  end_is : e ≡ decimal w.end ++ 41 ∷ []

window_is : (s e : List ℕ) (w : Window) → window_of s e ≡ some w → Bracketed s e w
unfolding window_of and_then
window_is s e w h = go (opened s) (closed e) refl refl h
  where
    inner : (a z : List ℕ) → opened s ≡ some a → closed e ≡ some z → (o : Option Span) → span_of a z ≡ o
        → and_then o (λ v. some (as_window v)) ≡ some w → Bracketed s e w
    inner a z f g none i q = let n : ◌≡◌ {A = ℕ} 0 1 = cc in absurd (omega arith)
    inner a z f g (some v) i q =
        let k = span_is a z v i in
        let u : ◌≡◌ {A = Window} (as_window v) w = cc in
        record {
          start_is = opened_some s a f ∙ ap (λ l. 40 ∷ l) k.start_is ∙ ap (λ (x : Window). 40 ∷ decimal x.start) u;
          end_is = closed_some e z g ∙ ap (λ l. l ++ 41 ∷ []) k.end_is ∙ ap (λ (x : Window). decimal x.end ++ 41 ∷ []) u;
        }

    go : (x y : Option (List ℕ)) → opened s ≡ x → closed e ≡ y
        → and_then x (λ a. and_then y (λ z. and_then (span_of a z) (λ v. some (as_window v)))) ≡ some w → Bracketed s e w
    go none y f g q = let z : ◌≡◌ {A = ℕ} 0 1 = cc in absurd (omega arith)
    go (some a) none f g q = let z : ◌≡◌ {A = ℕ} 0 1 = cc in absurd (omega arith)
    go (some a) (some z) f g q = inner a z f g (span_of a z) refl q

windows_are : (ws : List (List ℕ)) (l : List Window) → windows_in ws ≡ some l → ws ≡ window_words l
unfolding windows_in and_then window_words
windows_are [] l h = let z : ◌≡◌ {A = ℕ} 0 1 = cc in absurd (omega arith)
windows_are (s ∷ []) l h = let z : ◌≡◌ {A = ℕ} 0 1 = cc in absurd (omega arith)
windows_are (s ∷ e ∷ []) l h = go (closed e) refl h
  where
    last : (z : List ℕ) → e ≡ z ++ 41 ∷ [] → (o : Option Window) → window_of s z ≡ o
        → and_then o (λ w. some (w ∷ [])) ≡ some l
        → s ∷ e ∷ [] ≡ window_words l
    last z f none g q = let n : ◌≡◌ {A = ℕ} 0 1 = cc in absurd (omega arith)
    last z f (some w) g q =
        let k : w ∷ [] ≡ l = cc in
        let b = window_is s z w g in
        rw (← k) (rw (b.start_is, f, b.end_is))

    go : (o : Option (List ℕ)) → closed e ≡ o → and_then o (λ z. and_then (window_of s z) (λ w. some (w ∷ []))) ≡ some l
        → s ∷ e ∷ [] ≡ window_words l
    go none f q = let n : ◌≡◌ {A = ℕ} 0 1 = cc in absurd (omega arith)
    go (some z) f q = last z (closed_some e z f) (window_of s z) refl q
windows_are (s ∷ e ∷ x ∷ ws) l h = go (window_of s e) (windows_in (x ∷ ws)) refl refl h (windows_are (x ∷ ws))
  where
    longer : (w : Window) (r : List Window) → Bracketed s e w → x ∷ ws ≡ window_words r
        → s ∷ e ∷ x ∷ ws ≡ window_words (w ∷ r)
    longer w [] b f = let n = ap length f in absurd (omega (arith, n))
    longer w (v ∷ r) b f = rw (b.start_is, b.end_is)
        (ap (λ l. (40 ∷ decimal w.start) ∷ (decimal w.end ++ 41 ∷ []) ∷ l) f)

    go : (o : Option Window) (p : Option (List Window)) → window_of s e ≡ o → windows_in (x ∷ ws) ≡ p
        → and_then o (λ w. and_then p (λ r. some (w ∷ r))) ≡ some l →
        ((r : List Window) → windows_in (x ∷ ws) ≡ some r → x ∷ ws ≡ window_words r) → s ∷ e ∷ x ∷ ws ≡ window_words l
    go none p f g q ih = let n : ◌≡◌ {A = ℕ} 0 1 = cc in absurd (omega arith)
    go (some w) none f g q ih = let n : ◌≡◌ {A = ℕ} 0 1 = cc in absurd (omega arith)
    go (some w) (some r) f g q ih = let k : w ∷ r ≡ l = cc in longer w r (window_is s e w f) (ih r g) ∙ ap window_words k

kind_is : (w : List ℕ) (k : Kind) → kind_of w ≡ some k → w ≡ kind_word k
unfolding kind_of kind_word
kind_is w k h = go (equal_bytes w single_word) (equal_bytes w multi_word) refl refl h
  where
    go : (a b : Bool) → equal_bytes w single_word ≡ a → equal_bytes w multi_word ≡ b
        → cond a (some Single) (cond b (some Multi) none) ≡ some k
        → w ≡ kind_word k
    go true b f g q = let e : Single ≡ k = cc in same_is w single_word f ∙ ap kind_word e
    go false true f g q = let e : Multi ≡ k = cc in same_is w multi_word g ∙ ap kind_word e
    go false false f g q = let n : ◌≡◌ {A = ℕ} 0 1 = cc in absurd (omega arith)

-- lines

-- the words of a line that was read, its price written as the word p
abbrev pub words_as : List ℕ → Line → List (List ℕ)
words_as p (tender t) = tender_words (tender_with t None)
words_as p (bid b) = bid_words b.bidder p b.windows
words_as p (reserve v) = one_words reserve_word p

-- p is read as the price of the line, where it has one
abbrev pub Priced : List ℕ → Line → Type 0
Priced p (tender t) = Unit {0}
Priced p (bid b) = price_of p ≡ some b.price
Priced p (reserve v) = price_of p ≡ some v

-- the words are those of the line, with some word for its price
pub record WordsSpelt (ws : List (List ℕ)) (x : Line) : Type 0 where
  pub p : List ℕ
  pub priced : Priced p x
  pub are : ws ≡ words_as p x

tender_is : (ws : List (List ℕ)) (x : Line) → tender_of ws ≡ some x → WordsSpelt ((40 ∷ tender_word) ∷ ws) x
unfolding tender_of and_then tender_words
tender_is [] x h = let z : ◌≡◌ {A = ℕ} 0 1 = cc in absurd (omega arith)
tender_is (k ∷ []) x h = let z : ◌≡◌ {A = ℕ} 0 1 = cc in absurd (omega arith)
tender_is (k ∷ s ∷ []) x h = let z : ◌≡◌ {A = ℕ} 0 1 = cc in absurd (omega arith)
tender_is (k ∷ s ∷ e ∷ []) x h = go (kind_of k) (closed e) refl refl h
  where
    last : (y : Kind) (z : List ℕ) → k ≡ kind_word y → e ≡ z ++ 41 ∷ [] → (o : Option Span) → span_of s z ≡ o
        → and_then o (λ w. some (tender (record { kind = y; window = w }))) ≡ some x →
        WordsSpelt ((40 ∷ tender_word) ∷ k ∷ s ∷ e ∷ []) x
    last y z f g none i q = let n : ◌≡◌ {A = ℕ} 0 1 = cc in absurd (omega arith)
    last y z f g (some w) i q =
        let u : tender (record { kind = y; window = w }) ≡ x = cc in
        let b = span_is s z w i in
        rw (← u) record { p = []; priced = tt; are = rw (f, g, b.start_is, b.end_is) }

    go : (o : Option Kind) (p : Option (List ℕ)) → kind_of k ≡ o → closed e ≡ p
        → and_then o (λ y. and_then p (λ z. and_then (span_of s z) (λ w. some (tender (record { kind = y; window = w })))))
        ≡ some x →
        WordsSpelt ((40 ∷ tender_word) ∷ k ∷ s ∷ e ∷ []) x
    go none p f g q = let n : ◌≡◌ {A = ℕ} 0 1 = cc in absurd (omega arith)
    go (some y) none f g q = let n : ◌≡◌ {A = ℕ} 0 1 = cc in absurd (omega arith)
    go (some y) (some z) f g q = last y z (kind_is k y f) (closed_some e z g) (span_of s z) refl q
tender_is (k ∷ s ∷ e ∷ y ∷ ws) x h = let z : ◌≡◌ {A = ℕ} 0 1 = cc in absurd (omega arith)

bid_is : (ws : List (List ℕ)) (x : Line) → bid_of ws ≡ some x → WordsSpelt ((40 ∷ bid_word) ∷ ws) x
unfolding bid_of and_then bid_words
bid_is [] x h = let z : ◌≡◌ {A = ℕ} 0 1 = cc in absurd (omega arith)
bid_is (n ∷ []) x h = let z : ◌≡◌ {A = ℕ} 0 1 = cc in absurd (omega arith)
bid_is (n ∷ p ∷ ws) x h = go (numeral_of n) (price_of p) (windows_in ws) refl refl refl h
  where
    go : (a b : Option ℕ) (c : Option (List Window)) → numeral_of n ≡ a → price_of p ≡ b → windows_in ws ≡ c →
        and_then a (λ i. and_then b (λ v. and_then c (λ l. some (bid (record { bidder = i; price = v; windows = l }))))) ≡ some x
        → WordsSpelt ((40 ∷ bid_word) ∷ n ∷ p ∷ ws) x
    go none b c f g i q = let z : ◌≡◌ {A = ℕ} 0 1 = cc in absurd (omega arith)
    go (some y) none c f g i q = let z : ◌≡◌ {A = ℕ} 0 1 = cc in absurd (omega arith)
    go (some y) (some v) none f g i q = let z : ◌≡◌ {A = ℕ} 0 1 = cc in absurd (omega arith)
    go (some y) (some v) (some l) f g i q =
        let u : bid (record { bidder = y; price = v; windows = l }) ≡ x = cc in
        rw (← u) record { p = p; priced = g; are = rw (numeral_spelling n y f, windows_are ws l i) }

reserve_is : (ws : List (List ℕ)) (x : Line) → reserve_of ws ≡ some x → WordsSpelt ((40 ∷ reserve_word) ∷ ws) x
unfolding reserve_of and_then one_words
reserve_is [] x h = let z : ◌≡◌ {A = ℕ} 0 1 = cc in absurd (omega arith)
reserve_is (p ∷ []) x h = go (closed p) refl h
  where
    last : (z : List ℕ) → p ≡ z ++ 41 ∷ [] → (o : Option ℕ) → price_of z ≡ o
        → and_then o (λ v. some (reserve v)) ≡ some x
        → WordsSpelt ((40 ∷ reserve_word) ∷ p ∷ []) x
    last z f none i q = let n : ◌≡◌ {A = ℕ} 0 1 = cc in absurd (omega arith)
    last z f (some v) i q = let u : reserve v ≡ x = cc in rw (← u) record { p = z; priced = i; are = rw f }

    go : (o : Option (List ℕ)) → closed p ≡ o → and_then o (λ z. and_then (price_of z) (λ v. some (reserve v))) ≡ some x
        → WordsSpelt ((40 ∷ reserve_word) ∷ p ∷ []) x
    go none f q = let n : ◌≡◌ {A = ℕ} 0 1 = cc in absurd (omega arith)
    go (some z) f q = last z (closed_some p z f) (price_of z) refl q
reserve_is (p ∷ y ∷ ws) x h = let z : ◌≡◌ {A = ℕ} 0 1 = cc in absurd (omega arith)

pub words_are : (ws : List (List ℕ)) (x : Line) → line_of_words ws ≡ some x → WordsSpelt ws x
unfolding line_of_words
words_are [] x h = let z : ◌≡◌ {A = ℕ} 0 1 = cc in absurd (omega arith)
words_are (w ∷ ws) x h =
    go (equal_bytes w (40 ∷ tender_word)) (equal_bytes w (40 ∷ bid_word)) (equal_bytes w (40 ∷ reserve_word)) refl refl refl h
  where
    go : (a b c : Bool) → equal_bytes w (40 ∷ tender_word) ≡ a → equal_bytes w (40 ∷ bid_word) ≡ b
        → equal_bytes w (40 ∷ reserve_word) ≡ c
        → cond a (tender_of ws) (cond b (bid_of ws) (cond c (reserve_of ws) none)) ≡ some x → WordsSpelt (w ∷ ws) x
    go true b c f g i q = rw (same_is w (40 ∷ tender_word) f) (tender_is ws x q)
    go false true c f g i q = rw (same_is w (40 ∷ bid_word) g) (bid_is ws x q)
    go false false true f g i q = rw (same_is w (40 ∷ reserve_word) i) (reserve_is ws x q)
    go false false false f g i q = let z : ◌≡◌ {A = ℕ} 0 1 = cc in absurd (omega arith)
