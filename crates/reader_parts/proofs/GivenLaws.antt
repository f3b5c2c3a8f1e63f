-- What is known where a test holds, and where a step or a word gives something. Assumes nothing.
use Rattle.std.specs.Prelude.{◌≡◌, refl, List, [], ◌∷◌, ◌++◌, Bool, true, false, cond, ◌&&◌, ℕ, eqb}
use Rattle.std.proofs.Common.{ap, arith, eqb-true}
use Rattle.std.proofs.lemmas.Bool.{false≢true}
use Rattle.std.proofs.Math.Option.{Option, none, some}
use Rattle.reader_parts.specs.Words.{and_then, equal_bytes, opened, closed}

pub both_true : (a b : Bool) → a && b ≡ true → (a ≡ true) × (b ≡ true)
both_true true b e = (refl, e)
both_true false b e = absurd (false≢true e)

pub then_some : {A B : Type 0} (o : Option A) (f : A → Option B) (x : B) → and_then o f ≡ some x → (a : A) × (o ≡ some a)
    × (f a ≡ some x)
unfolding and_then
then_some none f x e = let z : ◌≡◌ {A = ℕ} 0 1 = cc in absurd (omega arith)
then_some (some a) f x e = (a, refl, e)

pub cond_some : {A : Type 0} (t : Bool) (o : Option A) (x : A) → cond t o none ≡ some x → (t ≡ true) × (o ≡ some x)
cond_some true o x e = (refl, e)
cond_some false o x e = let z : ◌≡◌ {A = ℕ} 0 1 = cc in absurd (omega arith)

pub same_is : (v w : List ℕ) → equal_bytes v w ≡ true → v ≡ w
unfolding equal_bytes
same_is [] [] e = refl
same_is [] (b ∷ w) e = absurd (false≢true e)
same_is (a ∷ v) [] e = absurd (false≢true e)
same_is (a ∷ v) (b ∷ w) e = go (eqb a b) refl e (same_is v w)
  where
    go : (t : Bool) → eqb a b ≡ t → cond t (equal_bytes v w) false ≡ true → (equal_bytes v w ≡ true → v ≡ w)
        → a ∷ v ≡ b ∷ w
    go true q x ih = let p = eqb-true a b q in let r = ih x in cc
    go false q x ih = absurd (false≢true x)

pub opened_some : (w a : List ℕ) → opened w ≡ some a → w ≡ 40 ∷ a
unfolding opened
opened_some [] a e = let z : ◌≡◌ {A = ℕ} 0 1 = cc in absurd (omega arith)
opened_some (b ∷ w) a e =
    let c = cond_some (eqb b 40) (some w) a e in
    let h : w ≡ a = cc c.1 in
    rw (eqb-true b 40 c.0, h)

pub closed_some : (w z : List ℕ) → closed w ≡ some z → w ≡ z ++ 41 ∷ []
unfolding closed
closed_some [] z e = let n : ◌≡◌ {A = ℕ} 0 1 = cc in absurd (omega arith)
closed_some (b ∷ []) z e =
    let c = cond_some (eqb b 41) (some []) z e in
    let h : [] ≡ z = cc c.1 in
    rw (eqb-true b 41 c.0, ← h)
closed_some (b ∷ c ∷ w) z e =
    let t = then_some (closed (c ∷ w)) (λ r. some (b ∷ r)) z e in
    let h : b ∷ t.0 ≡ z = cc t.2 in
    rw (← h) (ap (λ l. b ∷ l) (closed_some (c ∷ w) t.0 t.1))

-- a bracket put at the end
pub closed_back : (w : List ℕ) → closed (w ++ 41 ∷ []) ≡ some w
unfolding closed and_then
closed_back [] = refl
closed_back (b ∷ []) = refl
closed_back (b ∷ c ∷ w) = rw (closed_back (c ∷ w))
