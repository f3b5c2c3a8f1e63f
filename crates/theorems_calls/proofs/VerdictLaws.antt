-- What the tests of a line say of its faults: none, or the first in the order of the page. Assumes nothing.
use Rattle.std.proofs.Math.Path.{◌≡◌, refl}
use Rattle.std.proofs.Common.{sym, subst, ◌∙◌, inl, inr, arith}
use Rattle.std.specs.Prelude.{◌⊎◌, Bool, true, false, not, ◌&&◌, ◌||◌, leb, ltb, eqb}
use mathlib.Core.List.{List, [], ◌∷◌, map}
use Rattle.std.proofs.Math.Option.{Option, none, some}
use Prim.Native.Nat.{ℕ, ◌≤◌, ◌<◌}
use borrow.Author.Tests.{ltb-true, ltb-false, leb-true, leb-false, eqb-true, eqb-false}
use Rattle.tender.specs.declared.Kind.{Kind}
use Rattle.tender.specs.declared.Kind.TheVariants.{Single, Multi}
use Rattle.tender.specs.declared.Window.{Window}
use Rattle.tender.specs.declared.Refusal.{Refusal}
use Rattle.tender.specs.declared.Refusal.TheVariants.{BadForm, OutsideLimits, TooMany, EmptyWindow, BidderRepeated}
use Rattle.tender.specs.declared.Refusal.TheVariants.{SeveralWindows, LateWindow, ReserveMisplaced}
use Rattle.tender.specs.Limits.{week, within, is_single, ordered, early, every}
use Rattle.reader_parts.specs.Words.{among}
use Rattle.reader_forms.specs.Line.{BidLine, Line}
use Rattle.reader_text.specs.Read.{line_fault}
use Rattle.theorems_calls.specs.OneReading.{Above, LineFault, of_form, of_place}
use Rattle.theorems_calls.specs.OneReading.{of_count, of_limits, of_the_kind, of_minutes, of_week, of_bidder, page_order}
use Rattle.theorems_calls.specs.OneReading.{SomeOf, OnLine}
use Rattle.theorems_calls.specs.OneReading.{FirstAmong, NoFault}

-- a test says whether a fact holds

abbrev pub Decides : Bool → Type 0 → Type 0
Decides true P = P
Decides false P = P → ⊥

pub says_or : (P Q : Type 0) (a b : Bool) → Decides a P → Decides b Q → Decides (a || b) (P ⊎ Q)
says_or P Q true b s u = inl s
says_or P Q false true s u = inr u
says_or P Q false false s u = go
  where
    go : P ⊎ Q → ⊥
    go (inl p) = s p
    go (inr q) = u q

pub says_and : (P Q : Type 0) (a b : Bool) → Decides a P → Decides b Q → Decides (a && b) (P × Q)
says_and P Q true true s u = (s, u)
says_and P Q true false s u = λ h. u h.1
says_and P Q false b s u = λ h. s h.0

pub says_ltb : (a b : ℕ) → Decides (ltb a b) (a < b)
says_ltb a b = go (ltb a b) refl
  where
    go : (t : Bool) → ltb a b ≡ t → Decides t (a < b)
    go true e = ltb-true a b e
    go false e = λ h. omega (arith, ltb-false a b e)

pub says_leb : (a b : ℕ) → Decides (leb a b) (a ≤ b)
says_leb a b = go (leb a b) refl
  where
    go : (t : Bool) → leb a b ≡ t → Decides t (a ≤ b)
    go true e = leb-true a b e
    go false e = λ h. omega (arith, leb-false a b e)

pub says_eqb : (a b : ℕ) → Decides (eqb a b) (a ≡ b)
says_eqb a b = go (eqb a b) refl
  where
    go : (t : Bool) → eqb a b ≡ t → Decides t (a ≡ b)
    go true e = eqb-true a b e
    go false e = eqb-false a b e

-- each test of a bid says whether its fault stands

pub outside : (a z n : ℕ) → Decides (not (within a z n)) ((n < a) ⊎ (z < n))
unfolding within
outside a z n = go (leb a n) (leb n z) refl refl
  where
    neither : a ≤ n → n ≤ z → (n < a) ⊎ (z < n) → ⊥
    neither s u (inl l) = omega arith
    neither s u (inr l) = omega arith

    go : (s t : Bool) → leb a n ≡ s → leb n z ≡ t → Decides (not (s && t)) ((n < a) ⊎ (z < n))
    go false t s u = inl (leb-false a n s)
    go true false s u = inr (leb-false n z u)
    go true true s u = neither (leb-true a n s) (leb-true n z u)

pub no_minute : (w : Window) → Decides (not (ordered w)) (w.end ≤ w.start)
no_minute w = go (ordered w) refl
  where
    go : (t : Bool) → ordered w ≡ t → Decides (not t) (w.end ≤ w.start)
    go true e = λ h. omega (arith, ltb-true w.start w.end e)
    go false e = ltb-false w.start w.end e

pub past_week : (w : Window) → Decides (not (early w)) (week < w.end)
past_week w = go (early w) refl
  where
    go : (t : Bool) → early w ≡ t → Decides (not t) (week < w.end)
    go true e = λ h. omega (arith, leb-true w.end 10080 e)
    go false e = leb-false w.end 10080 e

pub some_window : (test : Window → Bool) (P : Window → Type 0) → ((w : Window) → Decides (not (test w)) (P w))
    → (ws : List Window)
    → Decides (not (every test ws)) (SomeOf P ws)
unfolding every
some_window test P says [] = λ h. h
some_window test P says (w ∷ ws) = go (test w) (every test ws) (says w) (some_window test P says ws)
  where
    go : (a b : Bool) → Decides (not a) (P w) → Decides (not b) (SomeOf P ws) → Decides (not (a && b)) (P w ⊎ SomeOf P ws)
    go false b s u = inl s
    go true false s u = inr u
    go true true s u = says_or (P w) (SomeOf P ws) false false s u

pub single : (k : Kind) → Decides (is_single k) (k ≡ Single)
unfolding is_single
single Single = refl
single Multi = λ e. let z : ◌≡◌ {A = ℕ} 0 1 = cc in absurd (omega arith)

pub used : (n : ℕ) (bs : List BidLine) → Decides (among n (map (λ b. b.bidder) bs)) (SomeOf (λ (b : BidLine). b.bidder ≡ n) bs)
unfolding among
used n [] = λ h. h
used n (b ∷ bs) = says_or (b.bidder ≡ n) (SomeOf (λ (b : BidLine). b.bidder ≡ n) bs) (eqb b.bidder n)
    (among n (map (λ b. b.bidder) bs)) (says_eqb b.bidder n) (used n bs)

-- the refusal that a fault brings, on its line
abbrev pub refusal_of : LineFault → ℕ → Refusal
refusal_of of_form = BadForm
refusal_of of_place = ReserveMisplaced
refusal_of of_count = TooMany
refusal_of of_limits = OutsideLimits
refusal_of of_the_kind = SeveralWindows
refusal_of of_minutes = EmptyWindow
refusal_of of_week = LateWindow
refusal_of of_bidder = BidderRepeated

-- the first fault stands, and there is one first

pub first_stands : (gs : List LineFault) (f : LineFault) (d : Above) (x : Option Line) → FirstAmong gs f d x → OnLine f d x
first_stands [] f d x h = absurd h
first_stands (g ∷ gs) f d x (inl (e, s)) = subst (λ h. OnLine h d x) (sym e) s
first_stands (g ∷ gs) f d x (inr (n, r)) = first_stands gs f d x r

pub one_first : (gs : List LineFault) (f g : LineFault) (d : Above) (x : Option Line) → FirstAmong gs f d x → FirstAmong gs g d x
    → f ≡ g
one_first [] f g d x h k = absurd h
one_first (y ∷ gs) f g d x (inl (e, s)) (inl (u, v)) = e ∙ sym u
one_first (y ∷ gs) f g d x (inl (e, s)) (inr (n, r)) = absurd (n s)
one_first (y ∷ gs) f g d x (inr (n, r)) (inl (u, v)) = absurd (n v)
one_first (y ∷ gs) f g d x (inr (n, r)) (inr (m, q)) = one_first gs f g d x r q

-- what the tests of a line say
pub data Verdict (d : Above) (x : Option Line) (o : Option (ℕ → Refusal)) : Type 0 where
  clean : NoFault d x → o ≡ none → Verdict d x o
  stopped_by : (f : LineFault) → FirstAmong page_order f d x → o ≡ some (refusal_of f) → Verdict d x o

pub verdict : (d : Above) (x : Option Line) (c4 c3 c7 c5 c15 c6 : Bool) → (OnLine of_form d x → ⊥) → (OnLine of_place d x → ⊥)
    → Decides c4 (OnLine of_count d x) → Decides c3 (OnLine of_limits d x) → Decides c7 (OnLine of_the_kind d x)
    → Decides c5 (OnLine of_minutes d x) → Decides c15 (OnLine of_week d x) → Decides c6 (OnLine of_bidder d x)
    → Verdict d x (line_fault c4 c3 c7 c5 c15 c6)
unfolding line_fault
verdict d x true c3 c7 c5 c15 c6 s2 s16 s4 s3 s7 s5 s15 s6 = stopped_by of_count (inr (s2, inr (s16, inl (refl, s4)))) refl
verdict d x false true c7 c5 c15 c6 s2 s16 s4 s3 s7 s5 s15 s6 =
    stopped_by of_limits (inr (s2, inr (s16, inr (s4, inl (refl, s3))))) refl
verdict d x false false true c5 c15 c6 s2 s16 s4 s3 s7 s5 s15 s6 =
    stopped_by of_the_kind (inr (s2, inr (s16, inr (s4, inr (s3, inl (refl, s7)))))) refl
verdict d x false false false true c15 c6 s2 s16 s4 s3 s7 s5 s15 s6 =
    stopped_by of_minutes (inr (s2, inr (s16, inr (s4, inr (s3, inr (s7, inl (refl, s5))))))) refl
verdict d x false false false false true c6 s2 s16 s4 s3 s7 s5 s15 s6 =
    stopped_by of_week (inr (s2, inr (s16, inr (s4, inr (s3, inr (s7, inr (s5, inl (refl, s15)))))))) refl
verdict d x false false false false false true s2 s16 s4 s3 s7 s5 s15 s6 =
    stopped_by of_bidder (inr (s2, inr (s16, inr (s4, inr (s3, inr (s7, inr (s5, inr (s15, inl (refl, s6))))))))) refl
verdict d x false false false false false false s2 s16 s4 s3 s7 s5 s15 s6 = clean none_stands refl
  where
    none_stands : (f : LineFault) → OnLine f d x → ⊥
    none_stands of_form = s2
    none_stands of_place = s16
    none_stands of_count = s4
    none_stands of_limits = s3
    none_stands of_the_kind = s7
    none_stands of_minutes = s5
    none_stands of_week = s15
    none_stands of_bidder = s6
