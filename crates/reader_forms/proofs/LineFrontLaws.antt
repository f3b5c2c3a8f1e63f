-- A line read from the front of bytes is the line of the words before the first byte 10. In two halves: what words give is read from
-- their bytes (`..-read`), and what is read comes from words that give it (`..-from`). Assumes nothing.
use Rattle.std.specs.Prelude.{ℕ, ◌<◌, ◌≡◌, refl, List, [], ◌∷◌, ◌++◌, Bool, true, false, cond, ◌⊎◌, length}
use Rattle.std.specs.Prelude.{take}
use Rattle.std.proofs.Common.{sym, ap, ◌∙◌, append_assoc, inl, inr, arith}
use Rattle.std.proofs.Math.Option.{Option, none, some}
use Rattle.std.proofs.Math.Seq.{take-append_seam}
use Rattle.tender.specs.declared.Window.{Window}
use Rattle.tender.specs.Keywords.{bytes, tender_word, bid_word, reserve_word}
use Rattle.reader_parts.specs.Words.{and_then, cut, equal_bytes, numeral_of, price_of}
use Rattle.reader_parts.specs.Scan.{to_next}
use Rattle.reader_parts.specs.Front.{Front, got, wrong, onward, past, number_front, price_front}
use Rattle.reader_parts.proofs.FrontLaws.{onward_got, past_got}
use Rattle.reader_parts.proofs.GivenLaws.{then_some, same_is}
use Rattle.reader_parts.proofs.RejoinedLaws.{rejoined, rejoined_cut, cut_rejoined, rejoined_among}
use Rattle.reader_parts.proofs.ScanLaws.{next_split, next_after}
use Rattle.reader_parts.proofs.NumberFrontLaws.{number_read, number_from}
use Rattle.reader_parts.proofs.PriceFrontLaws.{price_read, price_from}
use Rattle.reader_forms.specs.Line.{Line, bid, windows_in, tender_of, bid_of, reserve_of, line_of_words, line_of}
use Rattle.reader_forms.specs.LineFront.{first_line, next_lines, fronted, windows_front, bid_front, reserve_front, after_word}
use Rattle.reader_forms.specs.LineFront.{tender_front, line_front}
use Rattle.reader_forms.proofs.HeadFrontLaws.{after_either, reserve_read, reserve_from, tender_read, tender_from}
use Rattle.reader_forms.proofs.WithoutLaws.{line_without}
use Rattle.reader_forms.proofs.WindowsFrontLaws.{LineLed, WindowsLed, next_bytes, behind, windows_read, windows_from}

-- a bid

pub bid_read : (ws : List (List ℕ)) (x : Line) (t : List ℕ) → bid_of ws ≡ some x
    → bid_front (rejoined 32 ws ++ 10 ∷ t) ≡ got x t
unfolding bid_of bid_front rejoined onward past windows_in
bid_read [] x t h = let z : ◌≡◌ {A = ℕ} 0 1 = cc in absurd (omega arith)
bid_read (n ∷ []) x t h = let z : ◌≡◌ {A = ℕ} 0 1 = cc in absurd (omega arith)
bid_read (n ∷ p ∷ []) x t h =
    let y = then_some (numeral_of n) _ x h in
    let v = then_some (price_of p) _ x y.2 in
    let z : ◌≡◌ {A = ℕ} 0 1 = cc v.2 in
    absurd (omega arith)
bid_read (n ∷ p ∷ w ∷ ws) x t h =
    let y = then_some (numeral_of n) _ x h in
    let v = then_some (price_of p) _ x y.2 in
    let l = then_some (windows_in (w ∷ ws)) _ x v.2 in
    let q : bid (record { bidder = y.0; price = v.0; windows = l.0 }) ≡ x = cc l.2 in
    let r : List ℕ = 32 ∷ (rejoined 32 (w ∷ ws) ++ 10 ∷ t) in
    ap bid_front (next_bytes n p (rejoined 32 (w ∷ ws)) t)
    ∙ rw (
      number_read n y.0 32 (p ++ r) (omega arith) y.1,
      price_read p v.0 32 (rejoined 32 (w ∷ ws) ++ 10 ∷ t) (omega arith) v.1,
      windows_read (w ∷ ws) l.0 t l.1,
      q,
    )

bid_words_lem : (s : List ℕ) (x : Line) (n p : List ℕ) (y v : ℕ) (c : List ℕ) (l : List Window) (t : List ℕ)
    → numeral_of n ≡ some y → price_of p ≡ some v → WindowsLed c l t → s ≡ n ++ 32 ∷ (p ++ c)
    → bid (record { bidder = y; price = v; windows = l }) ≡ x → LineLed bid_of s x t
unfolding bid_of and_then
bid_words_lem s x n p y v c l t e f m q r =
    let b = behind n p c l t m in
    record { words = n ∷ p ∷ b.first ∷ b.rest; are = q ∙ b.are; is = rw (e, f, b.is, r) }

pub bid_from : (s : List ℕ) (x : Line) (t : List ℕ) → bid_front s ≡ got x t → LineLed bid_of s x t
unfolding bid_front
bid_from s x t h =
    let a = onward_got (number_front s) _ x t h in
    let b = past_got 32 a.1 _ x t a.3 in
    let c = onward_got (price_front b.0) _ x t b.2 in
    let d = onward_got (windows_front c.1) _ x t c.3 in
    let n = number_from s a.0 a.1 a.2 in
    let p = price_from b.0 c.0 c.1 c.2 in
    let u : d.1 ≡ t = cc d.3 in
    let m = windows_from c.1 d.0 t (d.2 ∙ ap (λ k. got d.0 k) u) in
    bid_words_lem s x n.word p.word a.0 c.0 c.1 d.0 t n.is p.is m
    (n.are ∙ ap (λ k. n.word ++ k) (b.1 ∙ ap (λ k. 32 ∷ k) p.are)) (cc d.3)

-- a keyword before other words

rejoined_more : (p : List ℕ) (ps : List (List ℕ)) → (ps ≡ [] → ⊥) → rejoined 32 (p ∷ ps) ≡ p ++ 32 ∷ rejoined 32 ps
unfolding rejoined
rejoined_more p [] h = absurd (h refl)
rejoined_more p (q ∷ ps) h = refl

-- where nothing is given for no words there are some
some_words : (of : List (List ℕ) → Option Line) (ws : List (List ℕ)) (x : Line) → of [] ≡ none → of ws ≡ some x
    → ws ≡ [] → ⊥
some_words of ws x n e q =
    let h : of [] ≡ some x = ap of (sym q) ∙ e in
    let z : ◌≡◌ {A = ℕ} 0 1 = cc in
    omega arith

keyword_bytes : (w r t : List ℕ) → (w ++ 32 ∷ r) ++ 10 ∷ t ≡ w ++ 32 ∷ (r ++ 10 ∷ t)
keyword_bytes w r t = append_assoc w (32 ∷ r) (10 ∷ t)

keyword_read : (of : List (List ℕ) → Option Line) (front : List ℕ → Front Line) (w : List ℕ) (ws : List (List ℕ)) (x : Line)
    (t : List ℕ) → of [] ≡ none → ((r : List ℕ) → line_front (w ++ 32 ∷ r) ≡ front r) → of ws ≡ some x
    → front (rejoined 32 ws ++ 10 ∷ t) ≡ got x t → line_front (rejoined 32 (w ∷ ws) ++ 10 ∷ t) ≡ got x t
keyword_read of front w ws x t n a e h =
    ap (λ l. line_front (l ++ 10 ∷ t)) (rejoined_more w ws (some_words of ws x n e))
    ∙ ap line_front (keyword_bytes w (rejoined 32 ws) t) ∙ a (rejoined 32 ws ++ 10 ∷ t) ∙ h

keyword_from : (of : List (List ℕ) → Option Line) (w r : List ℕ) (x : Line) (t : List ℕ) → of [] ≡ none
    → ((ws : List (List ℕ)) → line_of_words (w ∷ ws) ≡ of ws) → LineLed of r x t
    → LineLed line_of_words ((w ++ 32 ∷ []) ++ r) x t
keyword_from of w r x t n a m = record {
  words = w ∷ m.words;
  are = append_assoc w (32 ∷ []) r ∙ ap (λ l. w ++ 32 ∷ l) m.are ∙ sym (keyword_bytes w (rejoined 32 m.words) t)
      ∙ ap (λ l. l ++ 10 ∷ t) (sym (rejoined_more w m.words (some_words of m.words x n m.is)));
  is = a m.words ∙ m.is;
}

-- a line

line_read : (ws : List (List ℕ)) (x : Line) (t : List ℕ) → line_of_words ws ≡ some x
    → line_front (rejoined 32 ws ++ 10 ∷ t) ≡ got x t
unfolding line_of_words line_front after_word tender_of bid_of reserve_of tender_word bid_word reserve_word bytes
line_read [] x t h = let z : ◌≡◌ {A = ℕ} 0 1 = cc in absurd (omega arith)
line_read (w ∷ ws) x t h =
    go (equal_bytes w (40 ∷ tender_word)) refl (equal_bytes w (40 ∷ bid_word)) refl (equal_bytes w (40 ∷ reserve_word)) refl h
  where
    go : (a : Bool) → equal_bytes w (40 ∷ tender_word) ≡ a → (b : Bool) → equal_bytes w (40 ∷ bid_word) ≡ b
        → (c : Bool) → equal_bytes w (40 ∷ reserve_word) ≡ c
        → cond a (tender_of ws) (cond b (bid_of ws) (cond c (reserve_of ws) none)) ≡ some x
        → line_front (rejoined 32 (w ∷ ws) ++ 10 ∷ t) ≡ got x t
    go true e b f c g q = rw (same_is w (40 ∷ tender_word) e)
        (keyword_read tender_of tender_front (40 ∷ tender_word) ws x t refl (λ r. refl) q (tender_read ws x t q))
    go false e true f c g q = rw (same_is w (40 ∷ bid_word) f)
        (keyword_read bid_of bid_front (40 ∷ bid_word) ws x t refl (λ r. refl) q (bid_read ws x t q))
    go false e false f true g q = rw (same_is w (40 ∷ reserve_word) g)
        (keyword_read reserve_of reserve_front (40 ∷ reserve_word) ws x t refl (λ r. refl) q (reserve_read ws x t q))
    go false e false f false g q = let z : ◌≡◌ {A = ℕ} 0 1 = cc in absurd (omega arith)

line_from : (s : List ℕ) (x : Line) (t : List ℕ) → line_front s ≡ got x t → LineLed line_of_words s x t
unfolding line_of_words line_front equal_bytes tender_of bid_of reserve_of tender_word bid_word reserve_word bytes
line_from s x t h = go (after_either (40 ∷ tender_word ++ 32 ∷ []) s tender_front _ (got x t) h)
  where
    third : ((r : List ℕ) × (s ≡ (40 ∷ reserve_word ++ 32 ∷ []) ++ r) × (reserve_front r ≡ got x t)) ⊎ (wrong ≡ got x t)
        → LineLed line_of_words s x t
    third (inl i) = rw i.1
        (keyword_from reserve_of (40 ∷ reserve_word) i.0 x t refl (λ ws. refl) (reserve_from i.0 x t i.2))
    third (inr e) = let z : ◌≡◌ {A = ℕ} 0 1 = cc in absurd (omega arith)

    second : ((r : List ℕ) × (s ≡ (40 ∷ bid_word ++ 32 ∷ []) ++ r) × (bid_front r ≡ got x t))
        ⊎ (after_word (40 ∷ reserve_word ++ 32 ∷ []) s reserve_front wrong ≡ got x t) → LineLed line_of_words s x t
    second (inl i) = rw i.1 (keyword_from bid_of (40 ∷ bid_word) i.0 x t refl (λ ws. refl) (bid_from i.0 x t i.2))
    second (inr e) = third (after_either (40 ∷ reserve_word ++ 32 ∷ []) s reserve_front wrong (got x t) e)

    go : ((r : List ℕ) × (s ≡ (40 ∷ tender_word ++ 32 ∷ []) ++ r) × (tender_front r ≡ got x t))
        ⊎ (after_word (40 ∷ bid_word ++ 32 ∷ []) s bid_front (after_word (40 ∷ reserve_word ++ 32 ∷ []) s reserve_front wrong)
        ≡ got x t) → LineLed line_of_words s x t
    go (inl i) = rw i.1 (keyword_from tender_of (40 ∷ tender_word) i.0 x t refl (λ ws. refl) (tender_from i.0 x t i.2))
    go (inr e) = second (after_either (40 ∷ bid_word ++ 32 ∷ []) s bid_front _ (got x t) e)

-- the words that were read are those before the first byte 10
words_first : (s : List ℕ) (x : Line) (t : List ℕ) → LineLed line_of_words s x t → line_of (first_line s) ≡ some x
unfolding line_of line_of_words
words_first s x t m = go m.words m.are m.is
  where
    go : (ws : List (List ℕ)) → s ≡ rejoined 32 ws ++ 10 ∷ t → line_of_words ws ≡ some x → line_of (first_line s) ≡ some x
    go [] e h = let z : ◌≡◌ {A = ℕ} 0 1 = cc in absurd (omega arith)
    go (w ∷ ws) e h =
        let l = rejoined 32 (w ∷ ws) in
        let n = rejoined_among 10 32 w ws refl (line_without 10 (omega arith) (w ∷ ws) x h) in
        let f : first_line (l ++ 10 ∷ t) ≡ l =
        ap (λ k. take k (l ++ 10 ∷ t)) (next_after 10 l t n) ∙ take-append_seam l (10 ∷ t) in
        ap (λ r. line_of (first_line r)) e ∙ ap line_of f
        ∙ ap line_of_words (cut_rejoined 32 w ws (line_without 32 (omega arith) (w ∷ ws) x h)) ∙ h

pub line_front_lem : (s : List ℕ) → to_next 10 s < length s → line_front s ≡ fronted (line_of (first_line s)) (next_lines s)
unfolding fronted line_of
line_front_lem s h = go (line_of (first_line s)) refl (line_front s) refl
  where
    go : (o : Option Line) → line_of (first_line s) ≡ o → (y : Front Line) → line_front s ≡ y
        → line_front s ≡ fronted o (next_lines s)
    go (some x) e y f =
        ap line_front (next_split 10 s h ∙ ap (λ l. l ++ 10 ∷ next_lines s) (sym (rejoined_cut 32 (first_line s))))
        ∙ line_read (cut 32 (first_line s)) x (next_lines s) e
    go none e (got x t) f =
        let k = words_first s x t (line_from s x t f) in
        let z : ◌≡◌ {A = ℕ} 0 1 = cc in
        absurd (omega arith)
    go none e wrong f = f
