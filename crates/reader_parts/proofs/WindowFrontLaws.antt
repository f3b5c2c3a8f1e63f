-- A span, and a window, read from the front of bytes is that of the two words there. Assumes nothing.
use Rattle.std.specs.Prelude.{ℕ, ◌≤◌, ◌<◌, ◌≡◌, List, [], ◌∷◌, ◌++◌, false}
use Rattle.std.proofs.Common.{ap, ◌∙◌, append_assoc, arith, ne_eqb}
use Rattle.std.proofs.Math.Option.{some}
use Rattle.tender.specs.declared.Span.{Span}
use Rattle.tender.specs.declared.Window.{Window}
use Rattle.tender.specs.Limits.{as_window}
use Rattle.reader_parts.specs.Words.{and_then, among, opened, closed, numeral_of}
use Rattle.reader_parts.specs.Windows.{span_of, window_of}
use Rattle.reader_parts.specs.Front.{got, onward, past, number_front, span_front, window_front}
use Rattle.reader_parts.proofs.FrontLaws.{onward_got, past_got}
use Rattle.reader_parts.proofs.RejoinedLaws.{among_append}
use Rattle.reader_parts.proofs.GivenLaws.{then_some, opened_some, closed_some, closed_back}
use Rattle.reader_parts.proofs.NumberFrontLaws.{number_without, number_read, number_from}

-- "S E)"

span_both : (s e : List ℕ) (a z : ℕ) → numeral_of s ≡ some a → numeral_of e ≡ some z
    → span_of s e ≡ some (record { start = a; end = z })
unfolding span_of and_then
span_both s e a z h k = rw (h, k)

pub span_without : (d : ℕ) (s e : List ℕ) (w : Span) → d ≤ 41 → span_of s e ≡ some w
    → (among d s ≡ false) × (among d e ≡ false)
unfolding span_of
span_without d s e w l h =
    let a = then_some (numeral_of s) _ w h in
    let z = then_some (numeral_of e) _ w a.2 in
    (number_without d s a.0 (omega arith) a.1, number_without d e z.0 (omega arith) z.1)

pub span_read : (s e : List ℕ) (w : Span) (r : List ℕ) → span_of s e ≡ some w
    → span_front (s ++ 32 ∷ (e ++ 41 ∷ r)) ≡ got w r
unfolding span_of span_front onward past
span_read s e w r h =
    let a = then_some (numeral_of s) _ w h in
    let z = then_some (numeral_of e) _ w a.2 in
    let q : ◌≡◌ {A = Span} (record { start = a.0; end = z.0 }) w = cc z.2 in
    rw (number_read s a.0 32 (e ++ 41 ∷ r) (omega arith) a.1, number_read e z.0 41 r (omega arith) z.1)
    (ap (λ (x : Span). got x r) q)

pub record SpanLed (s : List ℕ) (w : Span) (r : List ℕ) : Type 0 where
  pub first : List ℕ
  pub last : List ℕ
  pub are : s ≡ first ++ 32 ∷ (last ++ 41 ∷ r)
  pub is : span_of first last ≡ some w

span_bytes : (v w : List ℕ) {s t u x y r : List ℕ} → s ≡ v ++ t → t ≡ 32 ∷ u → u ≡ w ++ x → x ≡ 41 ∷ y → y ≡ r
    → s ≡ v ++ 32 ∷ (w ++ 41 ∷ r)
span_bytes v w a b c d e = cc

pub span_from : (s : List ℕ) (w : Span) (r : List ℕ) → span_front s ≡ got w r → SpanLed s w r
unfolding span_front
span_from s w r h =
    let a = onward_got (number_front s) _ w r h in
    let b = past_got 32 a.1 _ w r a.3 in
    let c = onward_got (number_front b.0) _ w r b.2 in
    let d = past_got 41 c.1 _ w r c.3 in
    let m = number_from s a.0 a.1 a.2 in
    let n = number_from b.0 c.0 c.1 c.2 in
    let q : ◌≡◌ {A = Span} (record { start = a.0; end = c.0 }) w = cc d.2 in
    let p : d.0 ≡ r = cc d.2 in
    record {
      first = m.word;
      last = n.word;
      are = span_bytes m.word n.word m.are b.1 n.are d.1 p;
      is = span_both m.word n.word a.0 c.0 m.is n.is ∙ ap (λ (x : Span). some x) q;
    }

-- a bracket is no byte below it

opened_without : (d : ℕ) (w a : List ℕ) → d < 40 → opened w ≡ some a → among d a ≡ false → among d w ≡ false
unfolding among
opened_without d w a l e h = rw (opened_some w a e, ne_eqb 40 d (λ q. omega arith)) h

pub closed_without : (d : ℕ) (w z : List ℕ) → d < 40 → closed w ≡ some z → among d z ≡ false → among d w ≡ false
unfolding among
closed_without d w z l e h = rw (closed_some w z e) (among_append d z (41 ∷ []) h (rw (ne_eqb 41 d (λ q. omega arith))))

-- " (S E)"

pub window_without : (d : ℕ) (s e : List ℕ) (w : Window) → d < 40 → window_of s e ≡ some w
    → (among d s ≡ false) × (among d e ≡ false)
unfolding window_of among
window_without d s e w l h =
    let a = then_some (opened s) _ w h in
    let z = then_some (closed e) _ w a.2 in
    let n = then_some (span_of a.0 z.0) _ w z.2 in
    let k = span_without d a.0 z.0 n.0 (omega arith) n.1 in
    (opened_without d s a.0 l a.1 k.0, closed_without d e z.0 l z.1 k.1)

brackets_read : (s e a z : List ℕ) (v : Span) (r : List ℕ) → s ≡ 40 ∷ a → e ≡ z ++ 41 ∷ [] → span_of a z ≡ some v
    → window_front (32 ∷ (s ++ 32 ∷ (e ++ r))) ≡ got (as_window v) r
unfolding window_front onward past
brackets_read s e a z v r p q h = rw (p, q, append_assoc z (41 ∷ []) r) (rw (span_read a z v r h))

pub window_read : (s e : List ℕ) (w : Window) (r : List ℕ) → window_of s e ≡ some w
    → window_front (32 ∷ (s ++ 32 ∷ (e ++ r))) ≡ got w r
unfolding window_of
window_read s e w r h =
    let a = then_some (opened s) _ w h in
    let z = then_some (closed e) _ w a.2 in
    let n = then_some (span_of a.0 z.0) _ w z.2 in
    let q : ◌≡◌ {A = Window} (as_window n.0) w = cc n.2 in
    brackets_read s e a.0 z.0 n.0 r (opened_some s a.0 a.1) (closed_some e z.0 z.1) n.1
    ∙ ap (λ (x : Window). got x r) q

pub record WindowLed (s : List ℕ) (w : Window) (r : List ℕ) : Type 0 where
  pub first : List ℕ
  pub last : List ℕ
  pub are : s ≡ 32 ∷ (first ++ 32 ∷ (last ++ r))
  pub is : window_of first last ≡ some w

window_bytes : (v w r : List ℕ) {s t u : List ℕ} → s ≡ 32 ∷ t → t ≡ 40 ∷ u → u ≡ v ++ 32 ∷ (w ++ 41 ∷ r)
    → s ≡ 32 ∷ ((40 ∷ v) ++ 32 ∷ ((w ++ 41 ∷ []) ++ r))
window_bytes v w r a b c = rw (append_assoc w (41 ∷ []) r) (cc)

pub window_from : (s : List ℕ) (w : Window) (r : List ℕ) → window_front s ≡ got w r → WindowLed s w r
unfolding window_front window_of and_then opened
window_from s w r h =
    let a = past_got 32 s _ w r h in
    let b = past_got 40 a.0 _ w r a.2 in
    let c = onward_got (span_front b.0) _ w r b.2 in
    let q : ◌≡◌ {A = Window} (as_window c.0) w = cc c.3 in
    let p : c.1 ≡ r = cc c.3 in
    let m = span_from b.0 c.0 r (c.2 ∙ ap (λ l. got c.0 l) p) in
    record {
      first = 40 ∷ m.first;
      last = m.last ++ 41 ∷ [];
      are = window_bytes m.first m.last r a.1 b.1 m.are;
      is = rw (closed_back m.last, m.is, q);
    }
