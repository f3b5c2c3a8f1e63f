-- A line read from a place of bytes on, step by step: the bid's, the reserve's, the tender's. Assumes nothing.
use Rattle.std.specs.Prelude.{ℕ, ◌+◌, ◌<◌, ◌≡◌, refl, List, [], ◌∷◌, ◌++◌, Bool, true, false, cond, ◌&&◌}
use Rattle.std.specs.Prelude.{length, drop, get_or, eqb}
use Rattle.std.proofs.Common.{◌∙◌, arith, eq-eqb, ne_eqb}
use Rattle.std.proofs.Math.Seq.{drop-drop}
use Rattle.tender.specs.declared.Kind.{Kind}
use Rattle.tender.specs.declared.Kind.TheVariants.{Single, Multi}
use Rattle.tender.specs.declared.Span.{Span}
use Rattle.tender.specs.Keywords.{bytes, tender_word, bid_word, reserve_word, single_word, multi_word}
use Rattle.reader_parts.specs.Scan.{starts_with}
use Rattle.reader_parts.proofs.ScanLaws.{drop_next}
use Rattle.reader_parts.proofs.StartsLaws.{other_start}
use Rattle.reader_parts.specs.Front.{Front, got, wrong, onward, number_front, price_front, span_front}
use Rattle.reader_parts.proofs.PlaceLaws.{past_at, past_not}
use Rattle.reader_parts.specs.Answer.{ReadAt}
use Rattle.reader_forms.specs.Line.{tender, reserve}
use Rattle.reader_forms.specs.LineFront.{windows_front, bid_front, reserve_front, after_word, kind_front, tender_front, line_front}
use Rattle.reader_line.specs.Answer.{with_windows}
use Rattle.reader_forms.proofs.EndingLaws.{ending_unclosed, ending_unended, ending_whole}

-- after "(bid "

module _ (s : List ℕ) (i : ℕ) where
  pub bid_unnumbered : number_front (drop i s) ≡ wrong → bid_front (drop i s) ≡ wrong
  unfolding bid_front onward
  bid_unnumbered e = rw e

  module _ (y p : ℕ) (x : ReadAt (number_front (drop i s)) s i y p) where
    pub bid_unparted : (get_or s p 0 ≡ 32 → ⊥) → bid_front (drop i s) ≡ wrong
    unfolding bid_front onward
    bid_unparted n = rw x.is (past_not 32 s p _ x.inside n)

    module _ (b : get_or s p 0 ≡ 32) where
      pub bid_unpriced : price_front (drop (p + 1) s) ≡ wrong → bid_front (drop i s) ≡ wrong
      unfolding bid_front onward
      bid_unpriced e = rw x.is (past_at 32 s p _ x.inside b ∙ rw e)

      pub bid_priced : (v q : ℕ) → ReadAt (price_front (drop (p + 1) s)) s (p + 1) v q
          → bid_front (drop i s) ≡ with_windows y v (windows_front (drop q s))
      unfolding bid_front onward
      bid_priced v q z = rw x.is (past_at 32 s p _ x.inside b ∙ rw z.is)

-- after "(reserve "

module _ (s : List ℕ) (i : ℕ) where
  pub reserve_unpriced : price_front (drop i s) ≡ wrong → reserve_front (drop i s) ≡ wrong
  unfolding reserve_front onward
  reserve_unpriced e = rw e

  module _ (v p : ℕ) (x : ReadAt (price_front (drop i s)) s i v p) where
    pub reserve_unclosed : (get_or s p 0 ≡ 41 → ⊥) → reserve_front (drop i s) ≡ wrong
    unfolding reserve_front onward
    reserve_unclosed n = rw x.is (ending_unclosed s p x.inside (reserve v) n)

    module _ (d : get_or s p 0 ≡ 41) (k : p + 1 < length s) where
      pub reserve_unended : (get_or s (p + 1) 0 ≡ 10 → ⊥) → reserve_front (drop i s) ≡ wrong
      unfolding reserve_front onward
      reserve_unended n = rw x.is (ending_unended s p x.inside (reserve v) d k n)

      pub reserve_whole : get_or s (p + 1) 0 ≡ 10 → reserve_front (drop i s) ≡ got (reserve v) (drop (p + 2) s)
      unfolding reserve_front onward
      reserve_whole e = rw x.is (ending_whole s p x.inside (reserve v) d k e)

-- after the kind

module _ (kind : Kind) (s : List ℕ) (i : ℕ) where
  pub kind_unspanned : span_front (drop i s) ≡ wrong → kind_front kind (drop i s) ≡ wrong
  unfolding kind_front onward
  kind_unspanned e = rw e

  module _ (w : Span) (p : ℕ) (x : ReadAt (span_front (drop i s)) s i w p) where
    pub kind_unended : (get_or s p 0 ≡ 10 → ⊥) → kind_front kind (drop i s) ≡ wrong
    unfolding kind_front onward
    kind_unended n = rw x.is (past_not 10 s p _ x.inside n)

    pub kind_whole : get_or s p 0 ≡ 10
        → kind_front kind (drop i s) ≡ got (tender (record { kind = kind; window = w })) (drop (p + 1) s)
    unfolding kind_front onward
    kind_whole e = rw x.is (past_at 10 s p _ x.inside e)

-- by the keyword that stands next

after : {A : Type 0} (w s : List ℕ) (f : List ℕ → Front A) (other : Front A)
    → after_word w s f other ≡ cond (starts_with w s) (f (drop (length w) s)) other
unfolding after_word starts_with
after [] s f other = refl
after (d ∷ w) [] f other = refl
after (d ∷ w) (b ∷ s) f other = go (eqb b d) (after w s f other)
  where
    go : (t : Bool) → after_word w s f other ≡ cond (starts_with w s) (f (drop (length w) s)) other
        → cond t (after_word w s f other) other ≡ cond (t && starts_with w s) (f (drop (length w) s)) other
    go true e = e
    go false e = refl

module _ (s : List ℕ) (i : ℕ) where
  pub tender_single : starts_with (single_word ++ 32 ∷ []) (drop i s) ≡ true
      → tender_front (drop i s) ≡ kind_front Single (drop (i + 7) s)
  unfolding tender_front single_word bytes
  tender_single e = after (single_word ++ 32 ∷ []) (drop i s) _ _ ∙ rw e (rw (drop-drop 7 i s))

  module _ (n : starts_with (single_word ++ 32 ∷ []) (drop i s) ≡ false) where
    pub tender_multi : starts_with (multi_word ++ 32 ∷ []) (drop i s) ≡ true
        → tender_front (drop i s) ≡ kind_front Multi (drop (i + 6) s)
    unfolding tender_front single_word multi_word bytes
    tender_multi e = after (single_word ++ 32 ∷ []) (drop i s) _ _ ∙ rw n
        (after (multi_word ++ 32 ∷ []) (drop i s) _ _ ∙ rw e (rw (drop-drop 6 i s)))

    pub tender_neither : starts_with (multi_word ++ 32 ∷ []) (drop i s) ≡ false → tender_front (drop i s) ≡ wrong
    unfolding tender_front single_word multi_word bytes
    tender_neither e = after (single_word ++ 32 ∷ []) (drop i s) _ _ ∙ rw n (after (multi_word ++ 32 ∷ []) (drop i s) _ _ ∙ rw e)

bid_not_tender : (s : List ℕ) → starts_with (bid_word ++ 32 ∷ []) s ≡ true → starts_with (tender_word ++ 32 ∷ []) s ≡ false
unfolding bid_word tender_word bytes
bid_not_tender s e = other_start s _ _ 98 116 (λ x. omega (arith, x)) e

module _ (s : List ℕ) (i : ℕ) (h : i < length s) where
  -- the bracket, and then the word
  inner : get_or s i 0 ≡ 40 → (w : List ℕ) → starts_with (40 ∷ w) (drop i s) ≡ starts_with w (drop (i + 1) s)
  unfolding starts_with
  inner b w = rw (drop_next s i h) (rw (eq-eqb (get_or s i 0) 40 b))

  outer : (get_or s i 0 ≡ 40 → ⊥) → (w : List ℕ) → starts_with (40 ∷ w) (drop i s) ≡ false
  unfolding starts_with
  outer n w = rw (drop_next s i h) (rw (ne_eqb (get_or s i 0) 40 n))

  pub line_unopened : (get_or s i 0 ≡ 40 → ⊥) → line_front (drop i s) ≡ wrong
  unfolding line_front tender_word bid_word reserve_word bytes
  line_unopened n =
      after (40 ∷ tender_word ++ 32 ∷ []) (drop i s) _ _ ∙ rw (outer n (tender_word ++ 32 ∷ []))
      (after (40 ∷ bid_word ++ 32 ∷ []) (drop i s) _ _ ∙ rw (outer n (bid_word ++ 32 ∷ []))
      (after (40 ∷ reserve_word ++ 32 ∷ []) (drop i s) _ _ ∙ rw (outer n (reserve_word ++ 32 ∷ []))))

  module _ (b : get_or s i 0 ≡ 40) where
    worded : line_front (drop i s)
        ≡ cond (starts_with (tender_word ++ 32 ∷ []) (drop (i + 1) s)) (tender_front (drop (i + 8) s))
        (cond (starts_with (bid_word ++ 32 ∷ []) (drop (i + 1) s)) (bid_front (drop (i + 5) s))
        (cond (starts_with (reserve_word ++ 32 ∷ []) (drop (i + 1) s)) (reserve_front (drop (i + 9) s)) wrong))
    unfolding line_front tender_word bid_word reserve_word bytes
    worded = rw (
      after (40 ∷ tender_word ++ 32 ∷ []) (drop i s) tender_front _,
      after (40 ∷ bid_word ++ 32 ∷ []) (drop i s) bid_front _,
      after (40 ∷ reserve_word ++ 32 ∷ []) (drop i s) reserve_front _,
      inner b (tender_word ++ 32 ∷ []),
      inner b (bid_word ++ 32 ∷ []),
      inner b (reserve_word ++ 32 ∷ []),
      drop-drop 8 i s,
      drop-drop 5 i s,
      drop-drop 9 i s,
    )

    pub line_bid : starts_with (bid_word ++ 32 ∷ []) (drop (i + 1) s) ≡ true → line_front (drop i s) ≡ bid_front (drop (i + 5) s)
    line_bid e = worded ∙ rw (not_tender, e)
      where
        not_tender : starts_with (tender_word ++ 32 ∷ []) (drop (i + 1) s) ≡ false
        not_tender = bid_not_tender (drop (i + 1) s) e

    pub line_tender : starts_with (tender_word ++ 32 ∷ []) (drop (i + 1) s) ≡ true
        → line_front (drop i s) ≡ tender_front (drop (i + 8) s)
    line_tender e = worded ∙ rw e

    module _ (m : starts_with (bid_word ++ 32 ∷ []) (drop (i + 1) s) ≡ false)
        (n : starts_with (tender_word ++ 32 ∷ []) (drop (i + 1) s) ≡ false)
      where
        pub line_reserve : starts_with (reserve_word ++ 32 ∷ []) (drop (i + 1) s) ≡ true
            → line_front (drop i s) ≡ reserve_front (drop (i + 9) s)
        line_reserve e = worded ∙ rw (n, m, e)

        pub line_other : starts_with (reserve_word ++ 32 ∷ []) (drop (i + 1) s) ≡ false → line_front (drop i s) ≡ wrong
        line_other e = worded ∙ rw (n, m, e)
