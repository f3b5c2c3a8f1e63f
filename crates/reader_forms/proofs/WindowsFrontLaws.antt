-- Windows read from the front of bytes, one by one, are those of the words there, up to the end of the line. Assumes nothing.
use Rattle.std.specs.Prelude.{ℕ, zero, suc, ◌≤◌, ◌<◌, ◌≡◌, refl, List, [], ◌∷◌, ◌++◌, Bool, true, false, cond}
use Rattle.std.specs.Prelude.{◌⊎◌, length, eqb}
use Rattle.std.proofs.Common.{sym, ap, ◌∙◌, append_assoc, inl, inr, arith}
use Rattle.std.proofs.Math.Option.{Option, some}
use Rattle.tender.specs.declared.Window.{Window}
use Rattle.reader_parts.specs.Words.{and_then, closed}
use Rattle.reader_parts.specs.Windows.{window_of}
use Rattle.reader_parts.specs.Front.{Front, got, wrong, onward, past, fork, window_front}
use Rattle.reader_parts.proofs.FrontLaws.{Shorter, window_shorter, onward_got, past_got}
use Rattle.reader_parts.proofs.GivenLaws.{then_some, closed_some, closed_back}
use Rattle.reader_parts.proofs.RejoinedLaws.{rejoined}
use Rattle.reader_parts.proofs.WindowFrontLaws.{WindowLed, window_read, window_from}
use Rattle.reader_forms.specs.Line.{windows_in}
use Rattle.reader_forms.specs.LineFront.{ending, windows_within, windows_front}

-- how many are looked for

-- a window and what follows it; `more` reads the windows after it
abbrev window_then : (List ℕ → Front (List Window)) → Window → List ℕ → Front (List Window)
window_then more w r = fork 41 r (ending (w ∷ []) r) (onward (more r) (λ ws t. got (w ∷ ws) t))

then_same : (f g : List ℕ → Front (List Window)) (n : ℕ) (x : Front Window) → Shorter n x
    → ((r : List ℕ) → length r < n → f r ≡ g r) → onward x (window_then f) ≡ onward x (window_then g)
unfolding onward
then_same f g n (got w r) h k = rw (k r h)
then_same f g n wrong h k = refl

-- as many as there are bytes are enough
within_enough : (m n : ℕ) (s : List ℕ) → length s ≤ m → length s ≤ n → windows_within m s ≡ windows_within n s
unfolding windows_within window_front past onward
within_enough zero zero s h k = refl
within_enough zero (suc n) [] h k = refl
within_enough zero (suc n) (b ∷ s) h k = absurd (omega arith)
within_enough (suc m) zero [] h k = refl
within_enough (suc m) zero (b ∷ s) h k = absurd (omega arith)
within_enough (suc m) (suc n) s h k = then_same (windows_within m) (windows_within n) (length s) (window_front s) (window_shorter s)
    (λ r l. within_enough m n r (omega arith) (omega arith))

pub windows_step : (s : List ℕ) → windows_front s ≡ onward (window_front s)
    (λ w r. fork 41 r (ending (w ∷ []) r) (onward (windows_front r) (λ ws t. got (w ∷ ws) t)))
unfolding windows_front windows_within
windows_step s =
    within_enough (length s) (suc (length s)) s (omega arith) (omega arith)
    ∙ then_same (windows_within (length s)) (λ r. windows_within (length r) r) (length s) (window_front s) (window_shorter s)
    (λ r l. within_enough (length s) (length r) r (omega arith) (omega arith))

windows_first : (s : List ℕ) (w : Window) (r : List ℕ) → window_front s ≡ got w r
    → windows_front s ≡ window_then windows_front w r
unfolding onward
windows_first s w r e = windows_step s ∙ rw e

-- the words at the end of a line, and two words before others

pub last_bytes : (s e z t : List ℕ) → e ≡ z ++ 41 ∷ [] → (s ++ 32 ∷ e) ++ 10 ∷ t ≡ s ++ 32 ∷ (z ++ 41 ∷ 10 ∷ t)
last_bytes s e z t q = rw q (simp append_assoc)

pub next_bytes : (s e x t : List ℕ) → (s ++ 32 ∷ (e ++ 32 ∷ x)) ++ 10 ∷ t ≡ s ++ 32 ∷ (e ++ 32 ∷ (x ++ 10 ∷ t))
next_bytes s e x t = simp append_assoc

-- the windows of words are read

pub windows_read : (ws : List (List ℕ)) (l : List Window) (t : List ℕ) → windows_in ws ≡ some l
    → windows_front (32 ∷ (rejoined 32 ws ++ 10 ∷ t)) ≡ got l t
unfolding windows_in rejoined fork ending past onward
windows_read [] l t h = let z : ◌≡◌ {A = ℕ} 0 1 = cc in absurd (omega arith)
windows_read (s ∷ []) l t h = let z : ◌≡◌ {A = ℕ} 0 1 = cc in absurd (omega arith)
windows_read (s ∷ e ∷ []) l t h =
    let z = then_some (closed e) _ l h in
    let w = then_some (window_of s z.0) _ l z.2 in
    let q : w.0 ∷ [] ≡ l = cc w.2 in
    let r : List ℕ = 41 ∷ 10 ∷ t in
    ap (λ b. windows_front (32 ∷ b)) (last_bytes s e z.0 t (closed_some e z.0 z.1))
    ∙ windows_first (32 ∷ (s ++ 32 ∷ (z.0 ++ r))) w.0 r (window_read s z.0 w.0 r w.1)
    ∙ ap (λ (v : List Window). got v t) q
windows_read (s ∷ e ∷ x ∷ ws) l t h =
    let w = then_some (window_of s e) _ l h in
    let v = then_some (windows_in (x ∷ ws)) _ l w.2 in
    let q : w.0 ∷ v.0 ≡ l = cc v.2 in
    let r : List ℕ = 32 ∷ (rejoined 32 (x ∷ ws) ++ 10 ∷ t) in
    ap (λ b. windows_front (32 ∷ b)) (next_bytes s e (rejoined 32 (x ∷ ws)) t)
    ∙ windows_first (32 ∷ (s ++ 32 ∷ (e ++ r))) w.0 r (window_read s e w.0 r w.1)
    ∙ ap (λ (f : Front (List Window)). onward f (λ us u. got (w.0 ∷ us) u)) (windows_read (x ∷ ws) v.0 t v.1)
    ∙ ap (λ (v : List Window). got v t) q

-- windows that are read are those of words

-- the bytes s begin with words that give a, and byte 10 after them
pub record LineLed {A : Type 0} (of : List (List ℕ) → Option A) (s : List ℕ) (a : A) (t : List ℕ) : Type 0 where
  pub words : List (List ℕ)
  pub are : s ≡ rejoined 32 words ++ 10 ∷ t
  pub is : of words ≡ some a

fork_either : {A : Type 0} (d : ℕ) (s : List ℕ) (x y z : Front A) → fork d s x y ≡ z → (x ≡ z) ⊎ (y ≡ z)
unfolding fork
fork_either d [] x y z e = inr e
fork_either d (b ∷ s) x y z e = go (eqb b d) e
  where
    go : (q : Bool) → cond q x y ≡ z → (x ≡ z) ⊎ (y ≡ z)
    go true h = inl h
    go false h = inr h

-- what stands before the end of the line
pub ending_got : {A : Type 0} (x a : A) (s t : List ℕ) → ending x s ≡ got a t → (s ≡ 41 ∷ 10 ∷ t) × (x ≡ a)
unfolding ending
ending_got x a s t e =
    let p = past_got 41 s _ a t e in
    let q = past_got 10 p.0 _ a t p.2 in
    let u : q.0 ≡ t = cc q.2 in
    let v : x ≡ a = cc q.2 in
    (p.1 ∙ ap (λ l. 41 ∷ l) (q.1 ∙ ap (λ l. 10 ∷ l) u), v)

-- windows after a space
abbrev pub WindowsLed : List ℕ → List Window → List ℕ → Type 0
WindowsLed s l t = (r : List ℕ) × (s ≡ 32 ∷ r) × LineLed windows_in r l t

window_last : (s : List ℕ) (w : Window) (r t : List ℕ) → WindowLed s w r → r ≡ 41 ∷ 10 ∷ t → WindowsLed s (w ∷ []) t
unfolding windows_in and_then rejoined
window_last s w r t m e = (
  m.first ++ 32 ∷ (m.last ++ r),
  m.are,
  record {
    words = m.first ∷ (m.last ++ 41 ∷ []) ∷ [];
    are = ap (λ l. m.first ++ 32 ∷ (m.last ++ l)) e ∙ sym (last_bytes m.first (m.last ++ 41 ∷ []) m.last t refl);
    is = rw (closed_back m.last, m.is);
  },
)

-- two words before the words of windows
pub record Behind (v w c : List ℕ) (l : List Window) (t : List ℕ) : Type 0 where
  pub first : List ℕ
  pub rest : List (List ℕ)
  pub are : v ++ 32 ∷ (w ++ c) ≡ rejoined 32 (v ∷ w ∷ first ∷ rest) ++ 10 ∷ t
  pub is : windows_in (first ∷ rest) ≡ some l

pub behind : (v w c : List ℕ) (l : List Window) (t : List ℕ) → WindowsLed c l t → Behind v w c l t
unfolding windows_in rejoined
behind v w c l t n = go n.2.words n.2.are n.2.is
  where
    go : (ws : List (List ℕ)) → n.0 ≡ rejoined 32 ws ++ 10 ∷ t → windows_in ws ≡ some l → Behind v w c l t
    go [] a e = let z : ◌≡◌ {A = ℕ} 0 1 = cc in absurd (omega arith)
    go (x ∷ ws) a e = record {
      first = x;
      rest = ws;
      are = ap (λ b. v ++ 32 ∷ (w ++ b)) (n.1 ∙ ap (λ b. 32 ∷ b) a) ∙ sym (next_bytes v w (rejoined 32 (x ∷ ws)) t);
      is = e;
    }

window_next : (s : List ℕ) (w : Window) (r : List ℕ) (l : List Window) (t : List ℕ) → WindowLed s w r → WindowsLed r l t
    → WindowsLed s (w ∷ l) t
unfolding windows_in and_then
window_next s w r l t m n =
    let b = behind m.first m.last r l t n in (
      m.first ++ 32 ∷ (m.last ++ r),
      m.are,
      record { words = m.first ∷ m.last ∷ b.first ∷ b.rest; are = b.are; is = rw (m.is, b.is) },
    )

within_from : (n : ℕ) (s : List ℕ) (l : List Window) (t : List ℕ) → windows_within n s ≡ got l t → WindowsLed s l t
unfolding windows_within
within_from zero s l t h = let z : ◌≡◌ {A = ℕ} 0 1 = cc in absurd (omega arith)
within_from (suc n) s l t h =
    let a = onward_got (window_front s) _ l t h in
    let m = window_from s a.0 a.1 a.2 in
    go a.0 a.1 m (fork_either 41 a.1 (ending (a.0 ∷ []) a.1) _ (got l t) a.3) (within_from n a.1)
  where
    go : (w : Window) (r : List ℕ) → WindowLed s w r
        → (ending (w ∷ []) r ≡ got l t) ⊎ (onward (windows_within n r) (λ ws u. got (w ∷ ws) u) ≡ got l t)
        → ((k : List Window) (u : List ℕ) → windows_within n r ≡ got k u → WindowsLed r k u) → WindowsLed s l t
    go w r m (inl e) ih = let q = ending_got (w ∷ []) l r t e in rw (← q.1) (window_last s w r t m q.0)
    go w r m (inr e) ih =
        let b = onward_got (windows_within n r) _ l t e in
        let q : w ∷ b.0 ≡ l = cc b.3 in
        let u : b.1 ≡ t = cc b.3 in
        rw (← q) (window_next s w r b.0 t m (ih b.0 t (b.2 ∙ ap (λ c. got b.0 c) u)))

pub windows_from : (s : List ℕ) (l : List Window) (t : List ℕ) → windows_front s ≡ got l t → WindowsLed s l t
unfolding windows_front
windows_from s l t h = within_from (length s) s l t h
