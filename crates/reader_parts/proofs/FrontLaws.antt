-- What is read from the front of bytes: step by step, and that it leaves fewer of them. Assumes nothing.
use Rattle.std.specs.Prelude.{ℕ, suc, ◌+◌, ◌-◌, ◌*◌, ◌≤◌, ◌<◌, ◌≡◌, refl, List, [], ◌∷◌, Bool, true}
use Rattle.std.specs.Prelude.{false, cond, ◌&&◌, length, eqb, ltb}
use Rattle.std.proofs.Common.{ap, arith, eqb-true}
use Rattle.tender.specs.declared.Span.{Span}
use Rattle.tender.specs.declared.Window.{Window}
use Rattle.tender.specs.Limits.{within}
use Rattle.reader_parts.specs.Front.{Front, got, wrong, onward, past, digits_front, number_front, span_front, window_front}

-- both steps gave something
pub onward_got : {A B : Type 0} (x : Front A) (f : A → List ℕ → Front B) (b : B) (t : List ℕ) → onward x f ≡ got b t
    → (a : A) × (r : List ℕ) × (x ≡ got a r) × (f a r ≡ got b t)
unfolding onward
onward_got (got a r) f b t e = (a, r, refl, e)
onward_got wrong f b t e = let z : ◌≡◌ {A = ℕ} 0 1 = cc in absurd (omega arith)

-- the byte stands there
pub past_got : {A : Type 0} (d : ℕ) (s : List ℕ) (f : List ℕ → Front A) (a : A) (t : List ℕ) → past d s f ≡ got a t
    → (r : List ℕ) × (s ≡ d ∷ r) × (f r ≡ got a t)
unfolding past
past_got d [] f a t e = let z : ◌≡◌ {A = ℕ} 0 1 = cc in absurd (omega arith)
past_got d (b ∷ s) f a t e = go (eqb b d) refl e
  where
    go : (q : Bool) → eqb b d ≡ q → cond q (f s) wrong ≡ got a t → (r : List ℕ) × (b ∷ s ≡ d ∷ r) × (f r ≡ got a t)
    go true q x = (s, ap (λ c. c ∷ s) (eqb-true b d q), x)
    go false q x = let z : ◌≡◌ {A = ℕ} 0 1 = cc in absurd (omega arith)

-- fewer than n bytes are left
abbrev pub Shorter : {A : Type 0} → ℕ → Front A → Type 0
Shorter n (got a r) = length r < n
Shorter n wrong = Unit {0}

-- a smaller bound says more
pub shorter_less : {A : Type 0} (m n : ℕ) (x : Front A) → m ≤ n → Shorter m x → Shorter n x
shorter_less m n (got a r) l h = omega arith
shorter_less m n wrong l h = tt

cond_shorter : {A : Type 0} (n : ℕ) (t : Bool) (x y : Front A) → Shorter n x → Shorter n y → Shorter n (cond t x y)
cond_shorter n true x y h k = h
cond_shorter n false x y h k = k

pub onward_shorter : {A B : Type 0} (n : ℕ) (x : Front A) (f : A → List ℕ → Front B) → Shorter n x
    → ((a : A) (r : List ℕ) → length r < n → Shorter n (f a r)) → Shorter n (onward x f)
unfolding onward
onward_shorter n (got a r) f h k = k a r h
onward_shorter n wrong f h k = tt

pub past_shorter : {A : Type 0} (n d : ℕ) (s : List ℕ) (f : List ℕ → Front A) → length s ≤ n
    → ((r : List ℕ) → length r < n → Shorter n (f r)) → Shorter n (past d s f)
unfolding past
past_shorter n d [] f h k = tt
past_shorter n d (b ∷ s) f h k = cond_shorter n (eqb b d) (f s) wrong (k s (omega arith)) tt

digits_shorter : (v : ℕ) (s : List ℕ) → Shorter (suc (length s)) (digits_front v s)
unfolding digits_front
digits_shorter v [] = omega arith
digits_shorter v (b ∷ s) = let more = digits_front (v * 10 + (b - 48)) s in
    cond_shorter (suc (suc (length s))) (ltb v 100000000 && within 48 57 b) more (got v (b ∷ s))
    (shorter_less (suc (length s)) (suc (suc (length s))) more (omega arith) (digits_shorter (v * 10 + (b - 48)) s)) (omega arith)

pub number_shorter : (s : List ℕ) → Shorter (length s) (number_front s)
unfolding number_front
number_shorter [] = tt
number_shorter (b ∷ s) = cond_shorter (suc (length s)) (within 49 57 b) (digits_front (b - 48) s) (cond (eqb b 48) (got 0 s) wrong)
    (digits_shorter (b - 48) s) (cond_shorter (suc (length s)) (eqb b 48) (got 0 s) wrong (omega arith) tt)

pub span_shorter : (s : List ℕ) → Shorter (length s) (span_front s)
unfolding span_front
span_shorter s =
    let n = length s in
    onward_shorter n (number_front s) _ (number_shorter s) (λ a r h. past_shorter n 32 r _ (omega arith)
    (λ t k. onward_shorter n (number_front t) _ (shorter_less (length t) n (number_front t) (omega arith) (number_shorter t))
    (λ z u l. past_shorter n 41 u _ (omega arith) (λ v m. m))))

pub window_shorter : (s : List ℕ) → Shorter (length s) (window_front s)
unfolding window_front
window_shorter s =
    let n = length s in
    past_shorter n 32 s _ (omega arith) (λ r h. past_shorter n 40 r _ (omega arith)
    (λ t k. onward_shorter n (span_front t) _ (shorter_less (length t) n (span_front t) (omega arith) (span_shorter t)) (λ w u l. l)))

-- a number has a byte at least, and a window six

number_took : (s : List ℕ) (v : ℕ) (r : List ℕ) → number_front s ≡ got v r → length r + 1 ≤ length s
number_took s v r e = let h : Shorter (length s) (got v r) = rw e at (number_shorter s) in omega arith

span_took : (s : List ℕ) (w : Span) (t : List ℕ) → span_front s ≡ got w t → length t + 4 ≤ length s
unfolding span_front
span_took s w t h =
    let a = onward_got (number_front s) _ w t h in
    let b = past_got 32 a.1 _ w t a.3 in
    let c = onward_got (number_front b.0) _ w t b.2 in
    let d = past_got 41 c.1 _ w t c.3 in
    let e : d.0 ≡ t = cc d.2 in
    omega (
      arith,
      number_took s a.0 a.1 a.2,
      ap length b.1,
      number_took b.0 c.0 c.1 c.2,
      ap length d.1,
      ap length e,
    )

pub window_took : (s : List ℕ) (w : Window) (t : List ℕ) → window_front s ≡ got w t → length t + 6 ≤ length s
unfolding window_front
window_took s w t h =
    let a = past_got 32 s _ w t h in
    let b = past_got 40 a.0 _ w t a.2 in
    let c = onward_got (span_front b.0) _ w t b.2 in
    let e : c.1 ≡ t = cc c.3 in
    omega (arith, ap length a.1, ap length b.1, span_took b.0 c.0 c.1 c.2, ap length e)
