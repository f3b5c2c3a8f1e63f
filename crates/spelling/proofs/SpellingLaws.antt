-- A number spelt from its last digit to its first, and the parts of a line one after the other. Assumes nothing.
use Rattle.std.specs.Prelude.{◌≡◌, refl, cond, List, [], ◌∷◌, ℕ, zero, suc, ◌+◌, ◌-◌, ◌/◌, ◌%◌, ◌^◌}
use Rattle.std.specs.Prelude.{◌≤◌, ◌<◌, length, take, drop, set}
use Rattle.std.proofs.Common.{sym, ap, subst, ◌∙◌, append-nil, pow-suc, arith, length-set, lt-ltb, le-ltb}
use Rattle.std.proofs.Math.Seq.{drop-length}
use Rattle.tender.specs.declared.Kind.{Kind}
use Rattle.tender.specs.declared.Refusal.{Refusal}
use Rattle.tender.specs.Refusals.{number_of, place_of}
use Rattle.tender.specs.Keywords.{bytes}
use Rattle.spelling.specs.Decimal.{digits_before, decimal}
use Rattle.spelling.specs.Lines.{closing, numbers, pair_line, one_line, kind_word, refused_word, refused_line}
use Rattle.spelling.specs.Written.{Written}
use Rattle.spelling.proofs.WritingLaws.{then}

-- the digits from i on are written, and v is what is left of n
pub record Spelling (n : ℕ) (digits : List ℕ) (v i : ℕ) : Type 0 where
  pub is : digits_before i v (drop i digits) ≡ decimal n
  pub few : v < 10 ^ i
  pub some_left : 0 < i
  pub within : i ≤ 20
  pub room : length digits ≡ 20

pub spell_begins : (n : ℕ) (digits : List ℕ) → n < 18446744073709551616 → length digits ≡ 20 → Spelling n digits n 20
unfolding decimal
spell_begins n digits l e = record {
  is = ap (digits_before 20 n) (ap (λ k. drop k digits) (sym e) ∙ drop-length digits);
  few = omega arith;
  some_left = omega arith;
  within = omega arith;
  room = e;
}

some_place : (v i : ℕ) → v < 10 ^ i → 0 < v → 0 < i
some_place v zero l p = absurd (omega arith)
some_place v (suc i) l p = omega arith

drop_set : (digits : List ℕ) (i d : ℕ) → i < length digits → drop i (set digits i d) ≡ d ∷ drop (suc i) digits
drop_set [] i d l = absurd (omega arith)
drop_set (x ∷ xs) zero d l = refl
drop_set (x ∷ xs) (suc i) d l = drop_set xs i d (omega arith)

goes : (n : ℕ) (digits : List ℕ) (v i : ℕ) → 9 < v → Spelling n digits v (suc i)
    → Spelling n (set digits i (48 + v % 10)) (v / 10) i
unfolding digits_before
goes n digits v i l h = record {
  is = ap (digits_before i (v / 10)) (drop_set digits i (48 + v % 10) (omega (arith, h.within, h.room)))
      ∙ sym (ap (λ t. cond t ((48 + v % 10) ∷ drop (suc i) digits) (digits_before i (v / 10) ((48 + v % 10) ∷ drop (suc i) digits)))
      (le-ltb v 10 (omega arith)))
      ∙ h.is;
  few = omega (arith, h.few, pow-suc 10 i);
  some_left = some_place (v / 10) i (omega (arith, h.few, pow-suc 10 i)) (omega arith);
  within = omega (arith, h.within);
  room = length-set digits i (48 + v % 10) ∙ h.room;
}

ends : (n : ℕ) (digits : List ℕ) (v i : ℕ) → v ≤ 9 → Spelling n digits v (suc i)
    → drop i (set digits i (48 + v % 10)) ≡ decimal n
unfolding digits_before
ends n digits v i l h = drop_set digits i (48 + v % 10) (omega (arith, h.within, h.room))
    ∙ sym (ap (λ t. cond t ((48 + v % 10) ∷ drop (suc i) digits) (digits_before i (v / 10) ((48 + v % 10) ∷ drop (suc i) digits)))
    (lt-ltb v 10 (omega arith)))
    ∙ h.is

pub spell_goes : (n : ℕ) (digits : List ℕ) (v i : ℕ) → 9 < v → Spelling n digits v i
    → Spelling n (set digits (i - 1) (48 + v % 10)) (v / 10) (i - 1)
spell_goes n digits v i l h =
    let e : i ≡ suc (i - 1) = omega (arith, h.some_left) in
    goes n digits v (i - 1) l (subst (λ k. Spelling n digits v k) e h)

pub spell_ends : (n : ℕ) (digits : List ℕ) (v i : ℕ) → v ≤ 9 → Spelling n digits v i
    → drop (i - 1) (set digits (i - 1) (48 + v % 10)) ≡ decimal n
spell_ends n digits v i l h = let e : i ≡ suc (i - 1) = omega (arith, h.some_left) in
    ends n digits v (i - 1) l (subst (λ k. Spelling n digits v k) e h)

-- the digits that were spelt
pub decimal_written : {old new part : List ℕ} {at f : ℕ} (n : ℕ) → Written old at part new f → part ≡ decimal n
    → Written old at (decimal n) new f
decimal_written {old} {new} {part} {at} {f} n x z = subst (λ b. Written old at b new f) z x

-- the parts of a line, one after the other

pub numbers_written : {old m1 m2 new : List ℕ} {at e1 e2 f : ℕ} (a b : ℕ) → Written old at (32 ∷ decimal a) m1 e1
    → Written m1 e1 (32 ∷ decimal b) m2 e2 → Written m2 e2 (41 ∷ 10 ∷ []) new f →
    Written old at (numbers a b) new f
unfolding numbers closing bytes
numbers_written {old} {m1} {m2} {new} {at} {e1} {e2} {f} a b x y z = then (then x y) z

pub pair_written : {old m1 m2 new word : List ℕ} {at e1 e2 f : ℕ} (a b : ℕ) → Written old at (40 ∷ []) m1 e1
    → Written m1 e1 word m2 e2
    → Written m2 e2 (numbers a b) new f → Written old at (pair_line word a b) new f
unfolding pair_line
pair_written {old} {m1} {m2} {new} {word} {at} {e1} {e2} {f} a b x y z = then (then x y) z

pub one_written : {old m1 m2 m3 new word : List ℕ} {at e1 e2 e3 f : ℕ} (a : ℕ) → Written old at (40 ∷ []) m1 e1
    → Written m1 e1 word m2 e2 → Written m2 e2 (32 ∷ decimal a) m3 e3 → Written m3 e3 (41 ∷ 10 ∷ []) new f
    → Written old at (one_line word a) new f
unfolding one_line closing bytes
one_written {old} {m1} {m2} {m3} {new} {word} {at} {e1} {e2} {e3} {f} a x y z q = then (then (then x y) z) q

pub kind_written : {old new : List ℕ} {at f : ℕ} (k l : Kind) → k ≡ l → Written old at (kind_word l) new f
    → Written old at (kind_word k) new f
kind_written {old} {new} {at} {f} k l e x = rw e x

pub nothing_written : (old : List ℕ) (at : ℕ) → Written old at [] old at
nothing_written old at = record { text = sym (append-nil (take at old)); next = omega arith; rest = refl; size = refl }

-- a refusal's line
pub refusal_written : {old new : List ℕ} {f a b : ℕ} (r : Refusal) → a ≡ number_of r → b ≡ place_of r
    → Written old 0 (pair_line (bytes "refused") a b) new f → Written old 0 (refused_line r) new f
unfolding refused_line refused_word bytes
refusal_written {old} {new} {f} {a} {b} r p q w = rw (← p, ← q) w
