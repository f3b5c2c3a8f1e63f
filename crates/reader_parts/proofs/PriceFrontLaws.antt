-- A price read from the front of bytes is that of the word there, in either form: what a word gives is read where no digit and no point
-- follows, and what is read comes from a word that gives it. Assumes nothing.
use Rattle.std.specs.Prelude.{ℕ, ◌+◌, ◌-◌, ◌*◌, ◌≤◌, ◌<◌, ◌≡◌, refl, List, [], ◌∷◌, ◌++◌, Bool}
use Rattle.std.specs.Prelude.{true, false, cond, length, eqb, ltb}
use Rattle.std.proofs.Common.{sym, ap, ◌∙◌, append_assoc, arith, ltb-true, lt-ltb, ne_eqb}
use Rattle.std.proofs.Math.Option.{some}
use Rattle.tender.specs.Limits.{within}
use Rattle.reader_parts.specs.Words.{among, digits, numeral_of, price_of}
use Rattle.reader_parts.specs.Front.{got, wrong, onward, past, fork, digit_front, cents_front, number_front, price_front}
use Rattle.reader_parts.proofs.RejoinedLaws.{among_append}
use Rattle.reader_parts.proofs.FrontLaws.{onward_got, past_got}
use Rattle.reader_parts.proofs.NumberFrontLaws.{Led, within_both, digits_without, number_without, number_read, number_from}
use Rattle.reader_parts.proofs.NumberSizeLaws.{number_small, number_few}
use Rattle.reader_parts.proofs.PriceFormLaws.{PriceForm, plainly, pointed, price_form, price_plainly, price_pointed}
use Rattle.reader_parts.proofs.PriceFormLaws.{two_cents, cents_two}

-- the bytes of a price

pub price_without : (d : ℕ) (w : List ℕ) (v : ℕ) → d ≤ 41 → price_of w ≡ some v → among d w ≡ false
unfolding among
price_without d w v l e = go (price_form w v e)
  where
    go : PriceForm w v → among d w ≡ false
    go (plainly n) = number_without d w v (omega arith) n
    go (pointed p) = rw p.are (among_append d p.whole (46 ∷ p.cents)
        (number_without d p.whole p.x (omega arith) p.whole_is)
        (rw (ne_eqb 46 d (λ q. omega arith)) (digits_without d 0 p.cents p.y (omega arith) p.cents_are)))

-- what a word gives is read

cents_read : (x : ℕ) (cs : List ℕ) (y : ℕ) (r : List ℕ) → x < 10000000 → length cs ≡ 2 → digits 0 cs ≡ some y
    → cents_front x (46 ∷ (cs ++ r)) ≡ got (x * 100 + y) r
unfolding cents_front past onward digit_front
cents_read x cs y r l n e =
    let c = two_cents cs y n e in
    let i = within_both 48 57 c.tens c.tens_digit in
    let o : (x * 10 + (c.tens - 48)) * 10 + (c.ones - 48) ≡ x * 100 + y = omega (arith, c.value) in
    rw c.are (rw (lt-ltb x 10000000 l, c.tens_digit, c.ones_digit) (ap (λ n. got n r) o))

pub price_read : (w : List ℕ) (v d : ℕ) (r : List ℕ) → d ≤ 41 → price_of w ≡ some v
    → price_front (w ++ d ∷ r) ≡ got v (d ∷ r)
unfolding price_front onward fork
price_read w v d r l e = go (price_form w v e)
  where
    go : PriceForm w v → price_front (w ++ d ∷ r) ≡ got v (d ∷ r)
    go (plainly n) = rw (number_read w v d r (omega arith) n) (rw (ne_eqb d 46 (λ q. omega arith)))
    go (pointed p) =
        ap price_front (ap (λ s. s ++ d ∷ r) p.are ∙ append_assoc p.whole (46 ∷ p.cents) (d ∷ r))
        ∙ rw (number_read p.whole p.x 46 (p.cents ++ d ∷ r) (omega arith) p.whole_is)
        (cents_read p.x p.cents p.y (d ∷ r) (number_small p.whole p.x p.whole_is p.few) p.two p.cents_are)
        ∙ ap (λ n. got n (d ∷ r)) (sym p.value)

-- what is read comes from a word that gives it

pub record Digit (v : ℕ) (s : List ℕ) (u : ℕ) (r : List ℕ) : Type 0 where
  pub byte : ℕ
  pub are : s ≡ byte ∷ r
  pub is : within 48 57 byte ≡ true
  pub value : u ≡ v * 10 + (byte - 48)

pub digit_from : (v : ℕ) (s : List ℕ) (u : ℕ) (r : List ℕ) → digit_front v s ≡ got u r → Digit v s u r
unfolding digit_front
digit_from v [] u r e = let z : ◌≡◌ {A = ℕ} 0 1 = cc in absurd (omega arith)
digit_from v (b ∷ s) u r e = go (within 48 57 b) refl e
  where
    go : (t : Bool) → within 48 57 b ≡ t → cond t (got (v * 10 + (b - 48)) s) wrong ≡ got u r → Digit v (b ∷ s) u r
    go true q x = record { byte = b; are = cc; is = q; value = cc }
    go false q x = let z : ◌≡◌ {A = ℕ} 0 1 = cc in absurd (omega arith)

two_more : (w t u s r : List ℕ) (a b : ℕ) → t ≡ 46 ∷ u → u ≡ a ∷ s → s ≡ b ∷ r
    → w ++ t ≡ (w ++ 46 ∷ a ∷ b ∷ []) ++ r
two_more w t u s r a b e f g =
    ap (λ l. w ++ l) (e ∙ ap (λ l. 46 ∷ l) (f ∙ ap (λ l. a ∷ l) g)) ∙ sym (append_assoc w (46 ∷ a ∷ b ∷ []) r)

cents_from : (w : List ℕ) (x : ℕ) (t : List ℕ) (v : ℕ) (r : List ℕ) → numeral_of w ≡ some x → cents_front x t ≡ got v r
    → Led price_of (w ++ t) v r
unfolding cents_front
cents_from w x t v r n e = go (ltb x 10000000) refl e
  where
    go : (b : Bool) → ltb x 10000000 ≡ b
        → cond b (past 46 t (λ s. onward (digit_front x s) (λ u z. digit_front u z))) wrong ≡ got v r → Led price_of (w ++ t) v r
    go true q h =
        let a = past_got 46 t _ v r h in
        let b = onward_got (digit_front x a.0) _ v r a.2 in
        let c = digit_from x a.0 b.0 b.1 b.2 in
        let d = digit_from b.0 b.1 v r b.3 in
        let i = within_both 48 57 c.byte c.is in
        let tail = c.byte ∷ d.byte ∷ [] in
        let o : v ≡ x * 100 + ((c.byte - 48) * 10 + (d.byte - 48)) = omega (arith, c.value, d.value) in
        record {
          word = w ++ 46 ∷ tail;
          are = two_more w t a.0 b.1 r c.byte d.byte a.1 c.are d.are;
          is = price_pointed (w ++ 46 ∷ tail) v (record {
            whole = w;
            cents = tail;
            x = x;
            y = (c.byte - 48) * 10 + (d.byte - 48);
            are = refl;
            few = number_few w x n (ltb-true x 10000000 q);
            two = refl;
            whole_is = n;
            cents_are = cents_two c.byte d.byte c.is d.is;
            value = o;
          });
        }
    go false q h = let z : ◌≡◌ {A = ℕ} 0 1 = cc in absurd (omega arith)

pub price_from : (s : List ℕ) (v : ℕ) (r : List ℕ) → price_front s ≡ got v r → Led price_of s v r
unfolding price_front fork
price_from s v r e =
    let a = onward_got (number_front s) _ v r e in
    let n = number_from s a.0 a.1 a.2 in
    rw n.are (go n.word a.0 n.is a.1 a.3)
  where
    same : (w : List ℕ) (x : ℕ) → numeral_of w ≡ some x → (t : List ℕ) → got x t ≡ got v r → Led price_of (w ++ t) v r
    same w x n t q =
        let i : x ≡ v = cc in
        let j : t ≡ r = cc in
        record { word = w; are = ap (λ l. w ++ l) j; is = price_plainly w v (n ∙ ap (λ m. some m) i) }

    go : (w : List ℕ) (x : ℕ) → numeral_of w ≡ some x → (t : List ℕ) → fork 46 t (cents_front x t) (got x t) ≡ got v r
        → Led price_of (w ++ t) v r
    go w x n [] q = same w x n [] q
    go w x n (b ∷ t) q = parted (eqb b 46) q
      where
        parted : (c : Bool) → cond c (cents_front x (b ∷ t)) (got x (b ∷ t)) ≡ got v r → Led price_of (w ++ b ∷ t) v r
        parted true h = cents_from w x (b ∷ t) v r n h
        parted false h = same w x n (b ∷ t) h
