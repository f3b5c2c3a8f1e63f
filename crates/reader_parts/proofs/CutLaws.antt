-- Cutting bytes into pieces: laws. Assumes nothing.
use Rattle.std.specs.Prelude.{◌≡◌, refl, List, [], ◌∷◌, ◌++◌, Bool, true, false, cond, ◌||◌, ℕ, eqb}
use Rattle.std.proofs.Common.{ap, true≢false, eq-eqb}
use Rattle.reader_parts.specs.Words.{grow_first, cut, among}

pub neither : (a b : Bool) → a || b ≡ false → (a ≡ false) × (b ≡ false)
neither true b e = absurd (true≢false e)
neither false b e = (refl, e)

pub record Pieces (ps : List (List ℕ)) : Type 0 where
  pub first : List ℕ
  pub rest : List (List ℕ)
  pub are : ps ≡ first ∷ rest

-- there is a first piece
pub cut_some : (d : ℕ) (s : List ℕ) → Pieces (cut d s)
unfolding cut
cut_some d [] = record { first = []; rest = []; are = refl }
cut_some d (b ∷ s) = go (eqb b d) (cut_some d s)
  where
    go : (t : Bool) → Pieces (cut d s) → Pieces (cond t ([] ∷ cut d s) (grow_first b (cut d s)))
    go true c = record { first = []; rest = cut d s; are = refl }
    go false c = record { first = b ∷ c.first; rest = c.rest; are = ap (grow_first b) c.are }

-- a piece that a byte d ends
pub cut_end : (d : ℕ) (w s : List ℕ) → among d w ≡ false → cut d (w ++ d ∷ s) ≡ w ∷ cut d s
unfolding cut among
cut_end d [] s n = rw (eq-eqb d d refl)
cut_end d (b ∷ w) s n = rw ((neither (eqb b d) (among d w) n).0, cut_end d w s (neither (eqb b d) (among d w) n).1)

-- bytes before the first piece
pub cut_word : (d : ℕ) (w s f : List ℕ) (ps : List (List ℕ)) → among d w ≡ false → cut d s ≡ f ∷ ps
    → cut d (w ++ s) ≡ (w ++ f) ∷ ps
unfolding cut among
cut_word d [] s f ps n e = e
cut_word d (b ∷ w) s f ps n e = rw ((neither (eqb b d) (among d w) n).0, cut_word d w s f ps (neither (eqb b d) (among d w) n).1 e)

grow_append : (b : ℕ) (ps qs : List (List ℕ)) → Pieces ps → grow_first b (ps ++ qs) ≡ grow_first b ps ++ qs
unfolding grow_first
grow_append b ps qs c = rw c.are

-- a byte d parts the pieces before it from those after it
pub cut_append : (d : ℕ) (x y : List ℕ) → cut d (x ++ d ∷ y) ≡ cut d x ++ cut d y
unfolding cut
cut_append d [] y = rw (eq-eqb d d refl)
cut_append d (b ∷ x) y = go (eqb b d) (cut_append d x y)
  where
    go : (t : Bool) → cut d (x ++ d ∷ y) ≡ cut d x ++ cut d y
        → cond t ([] ∷ cut d (x ++ d ∷ y)) (grow_first b (cut d (x ++ d ∷ y)))
        ≡ cond t ([] ∷ cut d x) (grow_first b (cut d x)) ++ cut d y
    go true e = rw e
    go false e = rw e (grow_append b (cut d x) (cut d y) (cut_some d x))
