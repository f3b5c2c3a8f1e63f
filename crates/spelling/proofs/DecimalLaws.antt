-- Numbers in base ten: they read back, how many digits they have, and that a number has one spelling. Assumes nothing.
use Rattle.std.specs.Prelude.{◌≡◌, refl, Bool, true, false, cond, not, ◌&&◌, List, [], ◌∷◌, ◌++◌, ℕ, zero, suc}
use Rattle.std.specs.Prelude.{◌+◌, ◌-◌, ◌*◌, ◌/◌, ◌%◌, ◌^◌, ◌≤◌, ◌<◌, length, leb, ltb}
use Rattle.std.proofs.Common.{sym, ap, ◌∙◌, append-nil, pow-suc, arith, ltb-true, ltb-false, le-leb, lt-ltb, le-ltb, leb-true, ne_eqb}
use Rattle.std.proofs.Math.Option.{none, some}
use Rattle.std.proofs.lemmas.Bool.{eqb-false, not-true}
use Rattle.tender.specs.Limits.{within}
use Rattle.reader_parts.specs.Words.{among, digits, leading_zero, numeral_of}
use Rattle.reader_parts.proofs.GivenLaws.{both_true as and_split}
use Rattle.spelling.specs.Decimal.{digits_before, decimal}

-- a digit

digit : (n : ℕ) → n < 10 → within 48 57 (48 + n) ≡ true
unfolding within
digit n l = rw (le-leb 48 (48 + n) (omega arith), le-leb (48 + n) 57 (omega arith))

read_digit : (v n : ℕ) (w : List ℕ) → n < 10 → digits v ((48 + n) ∷ w) ≡ digits (v * 10 + n) w
unfolding digits
read_digit v n w l = rw (digit n l) (ap (λ (m : ℕ). digits m w) (omega arith))

-- the digits written are read back
read_back : (f n : ℕ) (done : List ℕ) → n < 10 ^ f → digits 0 (digits_before f n done) ≡ digits n done
unfolding digits_before
read_back zero n done l = ap (λ (m : ℕ). digits m done) (omega arith)
read_back (suc f) n done l = go (ltb n 10) refl (read_back f (n / 10) ((48 + n % 10) ∷ done) (omega (arith, pow-suc 10 f)))
  where
    go : (t : Bool) → ltb n 10 ≡ t → digits 0 (digits_before f (n / 10) ((48 + n % 10) ∷ done))
        ≡ digits (n / 10) ((48 + n % 10) ∷ done) →
        digits 0 (cond t ((48 + n % 10) ∷ done) (digits_before f (n / 10) ((48 + n % 10) ∷ done))) ≡ digits n done
    go true e ih = read_digit 0 (n % 10) done (omega arith)
        ∙ ap (λ (m : ℕ). digits m done) (let h = ltb-true n 10 e in omega (arith, h))
    go false e ih = ih ∙ read_digit (n / 10) (n % 10) done (omega arith) ∙ ap (λ (m : ℕ). digits m done) (omega arith)

-- a number of at most 20 digits reads back as that number
pub decimal_back : (n : ℕ) → n < 10 ^ 20 → digits 0 (decimal n) ≡ some n
unfolding decimal digits
decimal_back n l = read_back 20 n [] l

-- no digit is another byte
plain : (d f n : ℕ) (done : List ℕ) → d < 48 → among d done ≡ false → among d (digits_before f n done) ≡ false
unfolding digits_before among
plain d zero n done l h = h
plain d (suc f) n done l h = go (ltb n 10) (plain d f (n / 10) ((48 + n % 10) ∷ done) l next)
  where
    next : among d ((48 + n % 10) ∷ done) ≡ false
    next = rw (ne_eqb (48 + n % 10) d (λ e. omega arith)) h

    go : (t : Bool) → among d (digits_before f (n / 10) ((48 + n % 10) ∷ done)) ≡ false
        → among d (cond t ((48 + n % 10) ∷ done) (digits_before f (n / 10) ((48 + n % 10) ∷ done))) ≡ false
    go true ih = next
    go false ih = ih

pub decimal_plain : (d n : ℕ) → d < 48 → among d (decimal n) ≡ false
unfolding decimal among
decimal_plain d n l = plain d 20 n [] l refl

-- how many digits are written
digits_length : (f k n : ℕ) (done : List ℕ) → n < 10 ^ k → 0 < k → length (digits_before f n done) ≤ k + length done
unfolding digits_before
digits_length zero k n done l p = omega arith
digits_length (suc f) zero n done l p = absurd (omega arith)
digits_length (suc f) (suc k) n done l p = go (ltb n 10) refl (digits_length f k (n / 10) ((48 + n % 10) ∷ done))
  where
    some_left : (g m : ℕ) → m < 10 ^ g → 0 < m → 0 < g
    some_left zero m a b = absurd (omega arith)
    some_left (suc g) m a b = omega arith

    go : (b : Bool) → ltb n 10 ≡ b → (n / 10 < 10 ^ k → 0 < k
        → length (digits_before f (n / 10) ((48 + n % 10) ∷ done)) ≤ k + suc (length done)) →
        length (cond b ((48 + n % 10) ∷ done) (digits_before f (n / 10) ((48 + n % 10) ∷ done))) ≤ suc k + length done
    go true e ih = omega arith
    go false e ih = let g : n / 10 < 10 ^ k =
        omega (arith, pow-suc 10 k) in omega (arith, ih g (some_left k (n / 10) g (omega (arith, ltb-false n 10 e))))

pub decimal_few : (k n : ℕ) → n < 10 ^ k → 0 < k → length (decimal n) ≤ k
unfolding decimal
decimal_few k n l p = omega (arith, digits_length 20 k n [] l p)

-- the first byte is a digit above 0
abbrev Leads : List ℕ → Type 0
Leads [] = ⊥
Leads (b ∷ w) = 48 < b

digits_lead : (f n : ℕ) (done : List ℕ) → n < 10 ^ f → 0 < n → Leads (digits_before f n done)
unfolding digits_before
digits_lead zero n done l p = absurd (omega arith)
digits_lead (suc f) n done l p = go (ltb n 10) refl (digits_lead f (n / 10) ((48 + n % 10) ∷ done))
  where
    go : (b : Bool) → ltb n 10 ≡ b
        → (n / 10 < 10 ^ f → 0 < n / 10 → Leads (digits_before f (n / 10) ((48 + n % 10) ∷ done))) →
        Leads (cond b ((48 + n % 10) ∷ done) (digits_before f (n / 10) ((48 + n % 10) ∷ done)))
    go true e ih = omega (arith, ltb-true n 10 e)
    go false e ih = ih (omega (arith, pow-suc 10 f)) (omega (arith, ltb-false n 10 e))

lead_some : (w : List ℕ) → Leads w → (leading_zero w ≡ false) × (1 ≤ length w)
unfolding leading_zero
lead_some [] h = absurd h
lead_some (b ∷ []) h = (refl, omega arith)
lead_some (b ∷ c ∷ w) h = (ne_eqb b 48 (λ q. omega arith), omega arith)

-- a number that a text may name reads back
pub numeral_decimal : (n : ℕ) → n < 1000000000 → numeral_of (decimal n) ≡ some n
unfolding numeral_of decimal digits within leading_zero digits_before
numeral_decimal zero l = refl
numeral_decimal (suc n) l =
    let a : suc n < 10 ^ 20 = omega arith in
    let s = lead_some (decimal (suc n)) (digits_lead 20 (suc n) [] a (omega arith)) in
    let few = decimal_few 9 (suc n) l (omega arith) in
    rw (le-leb 1 (length (decimal (suc n))) s.1, le-leb (length (decimal (suc n))) 9 few, s.0) (decimal_back (suc n) a)

-- a number has one spelling

pub record Digit (v : ℕ) (b : ℕ) (w : List ℕ) (n : ℕ) : Type 0 where
  pub low : 48 ≤ b
  pub high : b ≤ 57
  pub rest : digits (v * 10 + (b - 48)) w ≡ some n

a_digit : (v b : ℕ) (w : List ℕ) (n : ℕ) → digits v (b ∷ w) ≡ some n → Digit v b w n
unfolding digits within
a_digit v b w n e = go (leb 48 b) (leb b 57) refl refl e
  where
    go : (s t : Bool) → leb 48 b ≡ s → leb b 57 ≡ t → cond (s && t) (digits (v * 10 + (b - 48)) w) none ≡ some n
        → Digit v b w n
    go true true s t x = record { low = leb-true 48 b s; high = leb-true b 57 t; rest = x }
    go true false s t x = let z : ◌≡◌ {A = ℕ} 0 1 = cc in absurd (omega arith)
    go false u s t x = let z : ◌≡◌ {A = ℕ} 0 1 = cc in absurd (omega arith)

spelt_more : (g v b : ℕ) (w : List ℕ) → 1 ≤ v → 48 ≤ b → b ≤ 57
    → digits_before (suc g) (v * 10 + (b - 48)) w ≡ digits_before g v (b ∷ w)
unfolding digits_before
spelt_more g v b w l lo hi =
    let d : 48 + (v * 10 + (b - 48)) % 10 ≡ b = omega arith in
    let q : (v * 10 + (b - 48)) / 10 ≡ v = omega arith in
    rw (le-ltb (v * 10 + (b - 48)) 10 (omega arith), d, q)

spelt : (w : List ℕ) (g v n : ℕ) (done : List ℕ) → 1 ≤ v → digits v w ≡ some n
    → digits_before (g + length w) n done ≡ digits_before g v (w ++ done)
unfolding digits
spelt [] g v n done l e = let h : v ≡ n = cc in rw (← h) (ap (λ (m : ℕ). digits_before m v done) (omega arith))
spelt (b ∷ w) g v n done l e =
    let h = a_digit v b w n e in
    let i = spelt w (suc g) (v * 10 + (b - 48)) n done (omega arith) h.rest in
    ap (λ (m : ℕ). digits_before m n done) (omega arith) ∙ i ∙ spelt_more g v b (w ++ done) l h.low h.high

last_digit : (f v : ℕ) (w : List ℕ) → v < 10 → digits_before (suc f) v w ≡ (48 + v) ∷ w
unfolding digits_before
last_digit f v w l = let e : v % 10 ≡ v = omega arith in rw (lt-ltb v 10 l, e)

pub record Numeral (w : List ℕ) (n : ℕ) : Type 0 where
  pub some_digit : 1 ≤ length w
  pub few_digits : length w ≤ 9
  pub no_zero : leading_zero w ≡ false
  pub value : digits 0 w ≡ some n

numeral : (w : List ℕ) (n : ℕ) → numeral_of w ≡ some n → Numeral w n
unfolding numeral_of within
numeral w n e = go (leb 1 (length w) && leb (length w) 9 && not (leading_zero w)) refl e
  where
    go : (t : Bool) → leb 1 (length w) && leb (length w) 9 && not (leading_zero w) ≡ t → cond t (digits 0 w) none ≡ some n
        → Numeral w n
    go false h x = let z : ◌≡◌ {A = ℕ} 0 1 = cc in absurd (omega arith)
    go true h x =
        let s = and_split (leb 1 (length w) && leb (length w) 9) (not (leading_zero w)) h in
        let u = and_split (leb 1 (length w)) (leb (length w) 9) s.0 in
        record {
          some_digit = leb-true 1 (length w) u.0;
          few_digits = leb-true (length w) 9 u.1;
          no_zero = not-true (leading_zero w) s.1;
          value = x;
        }

pub numeral_spelling : (w : List ℕ) (n : ℕ) → numeral_of w ≡ some n → w ≡ decimal n
unfolding decimal leading_zero digits
numeral_spelling w n e = go w (numeral w n e)
  where
    go : (w : List ℕ) → Numeral w n → w ≡ digits_before 20 n []
    go [] h = absurd (omega (arith, h.some_digit))
    go (b ∷ []) h =
        let d = a_digit 0 b [] n h.value in
        let q : 0 * 10 + (b - 48) ≡ n = cc d.rest in
        sym (last_digit 19 n [] (omega (arith, q, d.high, d.low)) ∙ ap (λ (m : ℕ). m ∷ []) (omega (arith, q, d.low)))
    go (b ∷ c ∷ w) h =
        let d = a_digit 0 b (c ∷ w) n h.value in
        let z = eqb-false b 48 h.no_zero in
        let l = h.few_digits in
        let p : 1 ≤ b - 48 = omega (arith, z, d.low) in
        let x : digits (b - 48) (c ∷ w) ≡ some n = ap (λ (m : ℕ). digits m (c ∷ w)) (omega arith) ∙ d.rest in
        let g = 19 - length (c ∷ w) in
        let e : 20 ≡ suc g + length (c ∷ w) = omega (arith, l) in
        let f : 48 + (b - 48) ≡ b = omega (arith, d.low) in
        sym (ap (λ (m : ℕ). digits_before m n []) e ∙ spelt (c ∷ w) (suc g) (b - 48) n [] p x
        ∙ last_digit g (b - 48) (c ∷ w ++ []) (omega (arith, d.high)) ∙ ap (λ (m : ℕ). m ∷ (c ∷ w ++ [])) f
        ∙ ap (λ r. b ∷ c ∷ r) (append-nil w))
