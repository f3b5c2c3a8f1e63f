-- The words of a line have no byte below a bracket, so neither a space nor byte 10. Assumes nothing.
use Rattle.std.specs.Prelude.{ℕ, ◌<◌, Bool, ◌&&◌, leb}
use Rattle.std.proofs.Math.Path.{◌≡◌, refl}
use mathlib.Core.List.{List, [], ◌∷◌}
use Rattle.std.proofs.Math.Bool.{true, false, cond}
use Rattle.std.proofs.Math.Option.{none, some}
use Rattle.std.proofs.Common.{arith}
use borrow.Author.Tests.{leb-true, ne_eqb}
use Rattle.tender.specs.declared.Kind.{Kind}
use Rattle.tender.specs.declared.Kind.TheVariants.{Single, Multi}
use Rattle.tender.specs.declared.Window.{Window}
use Rattle.tender.specs.Keywords.{bytes, tender_word, bid_word, reserve_word, single_word, multi_word}
use Rattle.reader_parts.specs.Words.{among, equal_bytes, closed, numeral_of, price_of}
use Rattle.reader_parts.specs.Windows.{span_of, window_of}
use Rattle.reader_parts.proofs.GivenLaws.{both_true, then_some, same_is}
use Rattle.reader_parts.proofs.RejoinedLaws.{Without}
use Rattle.reader_parts.proofs.NumberFrontLaws.{number_without}
use Rattle.reader_parts.proofs.PriceFrontLaws.{price_without}
use Rattle.reader_parts.proofs.WindowFrontLaws.{span_without, closed_without, window_without}
use Rattle.reader_forms.specs.Line.{Line, kind_of, windows_in, tender_of, bid_of, reserve_of, line_of_words}

-- each byte is a bracket or above
high : List ℕ → Bool
high [] = true
high (b ∷ w) = leb 40 b && high w

module _ (d : ℕ) (l : d < 40) where
  high_without : (w : List ℕ) → high w ≡ true → among d w ≡ false
  unfolding high among
  high_without [] e = refl
  high_without (b ∷ w) e =
      let t = both_true (leb 40 b) (high w) e in
      let k = leb-true 40 b t.0 in
      rw (ne_eqb b d (λ q. omega arith)) (high_without w t.1)

  same_without : (w v : List ℕ) → equal_bytes w v ≡ true → high v ≡ true → among d w ≡ false
  same_without w v e h = rw (same_is w v e) (high_without v h)

  windows_without : (ws : List (List ℕ)) (x : List Window) → windows_in ws ≡ some x → Without d ws
  unfolding windows_in
  windows_without [] x h = tt
  windows_without (s ∷ []) x h = let z : ◌≡◌ {A = ℕ} 0 1 = cc in absurd (omega arith)
  windows_without (s ∷ e ∷ []) x h =
      let z = then_some (closed e) _ x h in
      let w = then_some (window_of s z.0) _ x z.2 in
      let p = window_without d s z.0 w.0 l w.1 in
      (p.0, (closed_without d e z.0 l z.1 p.1, tt))
  windows_without (s ∷ e ∷ y ∷ ws) x h =
      let w = then_some (window_of s e) _ x h in
      let r = then_some (windows_in (y ∷ ws)) _ x w.2 in
      let p = window_without d s e w.0 l w.1 in
      (p.0, (p.1, windows_without (y ∷ ws) r.0 r.1))

  kind_without : (w : List ℕ) (k : Kind) → kind_of w ≡ some k → among d w ≡ false
  unfolding kind_of high single_word multi_word bytes
  kind_without w k e = go (equal_bytes w single_word) refl (equal_bytes w multi_word) refl e
    where
      go : (a : Bool) → equal_bytes w single_word ≡ a → (b : Bool) → equal_bytes w multi_word ≡ b
          → cond a (some Single) (cond b (some Multi) none) ≡ some k → among d w ≡ false
      go true h b j x = same_without w single_word h refl
      go false h true j x = same_without w multi_word j refl
      go false h false j x = let z : ◌≡◌ {A = ℕ} 0 1 = cc in absurd (omega arith)

  tender_without : (ws : List (List ℕ)) (x : Line) → tender_of ws ≡ some x → Without d ws
  unfolding tender_of
  tender_without [] x h = tt
  tender_without (k ∷ []) x h = let z : ◌≡◌ {A = ℕ} 0 1 = cc in absurd (omega arith)
  tender_without (k ∷ s ∷ []) x h = let z : ◌≡◌ {A = ℕ} 0 1 = cc in absurd (omega arith)
  tender_without (k ∷ s ∷ e ∷ []) x h =
      let y = then_some (kind_of k) _ x h in
      let z = then_some (closed e) _ x y.2 in
      let w = then_some (span_of s z.0) _ x z.2 in
      let p = span_without d s z.0 w.0 (omega arith) w.1 in
      (kind_without k y.0 y.1, (p.0, (closed_without d e z.0 l z.1 p.1, tt)))
  tender_without (k ∷ s ∷ e ∷ u ∷ ws) x h = let z : ◌≡◌ {A = ℕ} 0 1 = cc in absurd (omega arith)

  bid_without : (ws : List (List ℕ)) (x : Line) → bid_of ws ≡ some x → Without d ws
  unfolding bid_of
  bid_without [] x h = tt
  bid_without (n ∷ []) x h = let z : ◌≡◌ {A = ℕ} 0 1 = cc in absurd (omega arith)
  bid_without (n ∷ p ∷ ws) x h =
      let y = then_some (numeral_of n) _ x h in
      let v = then_some (price_of p) _ x y.2 in
      let w = then_some (windows_in ws) _ x v.2 in (
        number_without d n y.0 (omega arith) y.1,
        (price_without d p v.0 (omega arith) v.1, windows_without ws w.0 w.1),
      )

  reserve_without : (ws : List (List ℕ)) (x : Line) → reserve_of ws ≡ some x → Without d ws
  unfolding reserve_of
  reserve_without [] x h = tt
  reserve_without (p ∷ []) x h =
      let z = then_some (closed p) _ x h in
      let v = then_some (price_of z.0) _ x z.2 in
      (closed_without d p z.0 l z.1 (price_without d z.0 v.0 (omega arith) v.1), tt)
  reserve_without (p ∷ u ∷ ws) x h = let z : ◌≡◌ {A = ℕ} 0 1 = cc in absurd (omega arith)

  pub line_without : (ws : List (List ℕ)) (x : Line) → line_of_words ws ≡ some x → Without d ws
  unfolding line_of_words high tender_word bid_word reserve_word bytes
  line_without [] x h = tt
  line_without (w ∷ ws) x h =
      go (equal_bytes w (40 ∷ tender_word)) refl (equal_bytes w (40 ∷ bid_word)) refl (equal_bytes w (40 ∷ reserve_word)) refl h
    where
      go : (a : Bool) → equal_bytes w (40 ∷ tender_word) ≡ a → (b : Bool) → equal_bytes w (40 ∷ bid_word) ≡ b
          → (c : Bool) → equal_bytes w (40 ∷ reserve_word) ≡ c
          → cond a (tender_of ws) (cond b (bid_of ws) (cond c (reserve_of ws) none)) ≡ some x → Without d (w ∷ ws)
      go true e b f c g q = (same_without w (40 ∷ tender_word) e refl, tender_without ws x q)
      go false e true f c g q = (same_without w (40 ∷ bid_word) f refl, bid_without ws x q)
      go false e false f true g q = (same_without w (40 ∷ reserve_word) g refl, reserve_without ws x q)
      go false e false f false g q = let z : ◌≡◌ {A = ℕ} 0 1 = cc in absurd (omega arith)
