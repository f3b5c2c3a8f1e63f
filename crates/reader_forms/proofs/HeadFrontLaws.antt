-- The line of a reserve, and of a tender, read from the front of bytes is that of the words there. Assumes nothing.
use Rattle.std.specs.Prelude.{ℕ, ◌≡◌, refl, List, [], ◌∷◌, ◌++◌, Bool, true, false, cond, ◌⊎◌, eqb}
use Rattle.std.proofs.Common.{sym, ap, ◌∙◌, append_assoc, inl, inr, arith, eqb-true}
use Rattle.std.proofs.Math.Option.{none, some}
use Rattle.tender.specs.declared.Kind.{Kind}
use Rattle.tender.specs.declared.Kind.TheVariants.{Single, Multi}
use Rattle.tender.specs.declared.Span.{Span}
use Rattle.tender.specs.Keywords.{bytes, single_word, multi_word}
use Rattle.reader_parts.specs.Words.{and_then, equal_bytes, closed, price_of}
use Rattle.reader_parts.specs.Windows.{span_of}
use Rattle.reader_parts.specs.Front.{Front, got, wrong, onward, past, price_front, span_front}
use Rattle.reader_parts.proofs.FrontLaws.{onward_got, past_got}
use Rattle.reader_parts.proofs.GivenLaws.{then_some, same_is, closed_some, closed_back}
use Rattle.reader_parts.proofs.RejoinedLaws.{rejoined}
use Rattle.reader_parts.proofs.PriceFrontLaws.{price_read, price_from}
use Rattle.reader_parts.proofs.WindowFrontLaws.{span_read, span_from}
use Rattle.reader_forms.specs.Line.{Line, tender, reserve, kind_of, tender_of, reserve_of}
use Rattle.reader_forms.specs.LineFront.{ending, reserve_front, after_word, kind_front, tender_front}
use Rattle.reader_forms.proofs.WindowsFrontLaws.{LineLed, last_bytes, ending_got}

-- a reserve

closed_bytes : (v z t : List ℕ) → v ≡ z ++ 41 ∷ [] → v ++ 10 ∷ t ≡ z ++ 41 ∷ 10 ∷ t
closed_bytes v z t e = rw e (simp append_assoc)

pub reserve_read : (ws : List (List ℕ)) (x : Line) (t : List ℕ) → reserve_of ws ≡ some x
    → reserve_front (rejoined 32 ws ++ 10 ∷ t) ≡ got x t
unfolding reserve_of reserve_front rejoined onward ending past
reserve_read [] x t h = let z : ◌≡◌ {A = ℕ} 0 1 = cc in absurd (omega arith)
reserve_read (p ∷ []) x t h =
    let z = then_some (closed p) _ x h in
    let v = then_some (price_of z.0) _ x z.2 in
    let q : reserve v.0 ≡ x = cc v.2 in
    ap reserve_front (closed_bytes p z.0 t (closed_some p z.0 z.1))
    ∙ rw (price_read z.0 v.0 41 (10 ∷ t) (omega arith) v.1, q)
reserve_read (p ∷ y ∷ ws) x t h = let z : ◌≡◌ {A = ℕ} 0 1 = cc in absurd (omega arith)

pub reserve_from : (s : List ℕ) (x : Line) (t : List ℕ) → reserve_front s ≡ got x t → LineLed reserve_of s x t
unfolding reserve_front reserve_of rejoined and_then
reserve_from s x t h =
    let a = onward_got (price_front s) _ x t h in
    let e = ending_got (reserve a.0) x a.1 t a.3 in
    let p = price_from s a.0 a.1 a.2 in
    record {
      words = (p.word ++ 41 ∷ []) ∷ [];
      are = p.are ∙ ap (λ l. p.word ++ l) e.0 ∙ sym (closed_bytes (p.word ++ 41 ∷ []) p.word t refl);
      is = rw (closed_back p.word, p.is, e.1);
    }

-- either the word stands at the front, or the other was read

pub after_either : {A : Type 0} (w s : List ℕ) (f : List ℕ → Front A) (other z : Front A) → after_word w s f other ≡ z
    → ((r : List ℕ) × (s ≡ w ++ r) × (f r ≡ z)) ⊎ (other ≡ z)
unfolding after_word
after_either [] s f other z e = inl (s, refl, e)
after_either (d ∷ w) [] f other z e = inr e
after_either (d ∷ w) (b ∷ s) f other z e = go (eqb b d) refl e (after_either w s f other z)
  where
    go : (q : Bool) → eqb b d ≡ q → cond q (after_word w s f other) other ≡ z
        → (after_word w s f other ≡ z → ((r : List ℕ) × (s ≡ w ++ r) × (f r ≡ z)) ⊎ (other ≡ z))
        → ((r : List ℕ) × (b ∷ s ≡ d ∷ (w ++ r)) × (f r ≡ z)) ⊎ (other ≡ z)
    go true q h ih = more (ih h)
      where
        more : ((r : List ℕ) × (s ≡ w ++ r) × (f r ≡ z)) ⊎ (other ≡ z)
            → ((r : List ℕ) × (b ∷ s ≡ d ∷ (w ++ r)) × (f r ≡ z)) ⊎ (other ≡ z)
        more (inl i) = let p = eqb-true b d q in let k = i.1 in inl (i.0, cc, i.2)
        more (inr i) = inr i
    go false q h ih = inr h

-- a tender

kind_read : (k : Kind) (s e : List ℕ) (w : Span) (z t : List ℕ) → e ≡ z ++ 41 ∷ [] → span_of s z ≡ some w
    → kind_front k ((s ++ 32 ∷ e) ++ 10 ∷ t) ≡ got (tender (record { kind = k; window = w })) t
unfolding kind_front onward past
kind_read k s e w z t q h = ap (kind_front k) (last_bytes s e z t q) ∙ rw (span_read s z w (10 ∷ t) h)

kind_after : (k : List ℕ) (y : Kind) (r : List ℕ) → kind_of k ≡ some y → tender_front (k ++ 32 ∷ r) ≡ kind_front y r
unfolding kind_of tender_front after_word single_word multi_word bytes
kind_after k y r h = go (equal_bytes k single_word) refl (equal_bytes k multi_word) refl h
  where
    go : (a : Bool) → equal_bytes k single_word ≡ a → (b : Bool) → equal_bytes k multi_word ≡ b
        → cond a (some Single) (cond b (some Multi) none) ≡ some y
        → tender_front (k ++ 32 ∷ r) ≡ kind_front y r
    go true e b f q = let z : Single ≡ y = cc in rw (same_is k single_word e, ← z)
    go false e true f q = let z : Multi ≡ y = cc in rw (same_is k multi_word f, ← z)
    go false e false f q = let z : ◌≡◌ {A = ℕ} 0 1 = cc in absurd (omega arith)

pub tender_read : (ws : List (List ℕ)) (x : Line) (t : List ℕ) → tender_of ws ≡ some x
    → tender_front (rejoined 32 ws ++ 10 ∷ t) ≡ got x t
unfolding tender_of rejoined
tender_read [] x t h = let z : ◌≡◌ {A = ℕ} 0 1 = cc in absurd (omega arith)
tender_read (k ∷ []) x t h = let z : ◌≡◌ {A = ℕ} 0 1 = cc in absurd (omega arith)
tender_read (k ∷ s ∷ []) x t h = let z : ◌≡◌ {A = ℕ} 0 1 = cc in absurd (omega arith)
tender_read (k ∷ s ∷ e ∷ []) x t h =
    let y = then_some (kind_of k) _ x h in
    let z = then_some (closed e) _ x y.2 in
    let w = then_some (span_of s z.0) _ x z.2 in
    let q : tender (record { kind = y.0; window = w.0 }) ≡ x = cc w.2 in
    ap tender_front (append_assoc k (32 ∷ (s ++ 32 ∷ e)) (10 ∷ t)) ∙ kind_after k y.0 ((s ++ 32 ∷ e) ++ 10 ∷ t) y.1
    ∙ kind_read y.0 s e w.0 z.0 t (closed_some e z.0 z.1) w.1 ∙ ap (λ (l : Line). got l t) q
tender_read (k ∷ s ∷ e ∷ y ∷ ws) x t h = let z : ◌≡◌ {A = ℕ} 0 1 = cc in absurd (omega arith)

kind_bytes : (k f l t : List ℕ) → (k ++ 32 ∷ []) ++ (f ++ 32 ∷ (l ++ 41 ∷ 10 ∷ t))
    ≡ (k ++ 32 ∷ (f ++ 32 ∷ (l ++ 41 ∷ []))) ++ 10 ∷ t
kind_bytes k f l t = simp append_assoc

kind_from : (k : Kind) (word r : List ℕ) (x : Line) (t : List ℕ) → kind_of word ≡ some k → kind_front k r ≡ got x t
    → LineLed tender_of ((word ++ 32 ∷ []) ++ r) x t
unfolding kind_front tender_of rejoined and_then
kind_from k word r x t e h =
    let a = onward_got (span_front r) _ x t h in
    let b = past_got 10 a.1 _ x t a.3 in
    let m = span_from r a.0 a.1 a.2 in
    let q : tender (record { kind = k; window = a.0 }) ≡ x = cc b.2 in
    let u : a.1 ≡ 10 ∷ t = b.1 ∙ cc b.2 in
    record {
      words = word ∷ m.first ∷ (m.last ++ 41 ∷ []) ∷ [];
      are = ap (λ l. (word ++ 32 ∷ []) ++ l) (m.are ∙ ap (λ l. m.first ++ 32 ∷ (m.last ++ 41 ∷ l)) u)
          ∙ kind_bytes word m.first m.last t;
      is = rw (e, closed_back m.last, m.is, q);
    }

pub tender_from : (s : List ℕ) (x : Line) (t : List ℕ) → tender_front s ≡ got x t → LineLed tender_of s x t
unfolding tender_front kind_of equal_bytes single_word multi_word bytes
tender_from s x t h = go (after_either (single_word ++ 32 ∷ []) s (kind_front Single) _ (got x t) h)
  where
    here : (k : Kind) (word : List ℕ) → kind_of word ≡ some k
        → (r : List ℕ) × (s ≡ (word ++ 32 ∷ []) ++ r) × (kind_front k r ≡ got x t) → LineLed tender_of s x t
    here k word e i = rw i.1 (kind_from k word i.0 x t e i.2)

    second : ((r : List ℕ) × (s ≡ (multi_word ++ 32 ∷ []) ++ r) × (kind_front Multi r ≡ got x t)) ⊎ (wrong ≡ got x t)
        → LineLed tender_of s x t
    second (inl i) = here Multi multi_word refl i
    second (inr e) = let z : ◌≡◌ {A = ℕ} 0 1 = cc in absurd (omega arith)

    go : ((r : List ℕ) × (s ≡ (single_word ++ 32 ∷ []) ++ r) × (kind_front Single r ≡ got x t))
        ⊎ (after_word (multi_word ++ 32 ∷ []) s (kind_front Multi) wrong ≡ got x t) → LineLed tender_of s x t
    go (inl i) = here Single single_word refl i
    go (inr e) = second (after_either (multi_word ++ 32 ∷ []) s (kind_front Multi) wrong (got x t) e)
