-- For a reader that walks the bytes: the next byte d after a place, the piece up to it, and what is left. Assumes nothing.
use Rattle.std.specs.Prelude.{◌≡◌, refl, List, [], ◌∷◌, ◌++◌, Bool, true, false, cond, ℕ, zero, suc, ◌+◌, ◌-◌}
use Rattle.std.specs.Prelude.{◌≤◌, ◌<◌, length, take, drop, get_or, eqb}
use Rattle.std.proofs.Common.{ap, ◌∙◌, arith, add-one, length-drop, drop-cons, drop-drop, eqb-true, eq-eqb}
use Rattle.reader_parts.specs.Words.{among, grow_first, cut}
use Rattle.reader_parts.proofs.CutLaws.{neither}
use Rattle.reader_parts.specs.Scan.{to_next}

-- a byte d that stands at i is not before the first
pub next_upto : (d : ℕ) (s : List ℕ) (i : ℕ) → i < length s → get_or s i 0 ≡ d → to_next d s ≤ i
unfolding to_next
next_upto d [] i h e = absurd (omega arith)
next_upto d (b ∷ s) zero h e = rw (eq-eqb b d e) (omega arith)
next_upto d (b ∷ s) (suc i) h e = go (eqb b d) (next_upto d s i (omega arith) e)
  where
    go : (t : Bool) → to_next d s ≤ i → cond t 0 (suc (to_next d s)) ≤ suc i
    go true l = omega arith
    go false l = omega arith

-- the bytes before and after the first d
pub next_split : (d : ℕ) (s : List ℕ) → to_next d s < length s → s ≡ take (to_next d s) s ++ d ∷ drop (suc (to_next d s)) s
unfolding to_next
next_split d [] h = absurd (omega arith)
next_split d (b ∷ s) h = go (eqb b d) refl h (next_split d s)
  where
    go : (t : Bool) → eqb b d ≡ t → cond t 0 (suc (to_next d s)) < suc (length s)
        → (to_next d s < length s → s ≡ take (to_next d s) s ++ d ∷ drop (suc (to_next d s)) s) →
        b ∷ s ≡ take (cond t 0 (suc (to_next d s))) (b ∷ s) ++ d ∷ drop (suc (cond t 0 (suc (to_next d s)))) (b ∷ s)
    go true e l ih = ap (λ c. c ∷ s) (eqb-true b d e)
    go false e l ih = ap (λ r. b ∷ r) (ih (omega arith))

-- bytes without d stand before the first d
pub next_after : (d : ℕ) (w s : List ℕ) → among d w ≡ false → to_next d (w ++ d ∷ s) ≡ length w
unfolding to_next among
next_after d [] s h = rw (eq-eqb d d refl)
next_after d (b ∷ w) s h = let n = neither (eqb b d) (among d w) h in rw (n.0, next_after d w s n.1)

-- the first piece, where a byte d ends it
pub cut_next : (d : ℕ) (s : List ℕ) → to_next d s < length s
    → cut d s ≡ take (to_next d s) s ∷ cut d (drop (suc (to_next d s)) s)
unfolding to_next cut
cut_next d [] h = absurd (omega arith)
cut_next d (b ∷ s) h = go (eqb b d) h (cut_next d s)
  where
    go : (t : Bool) → cond t 0 (suc (to_next d s)) < suc (length s)
        → (to_next d s < length s → cut d s ≡ take (to_next d s) s ∷ cut d (drop (suc (to_next d s)) s)) →
        cond t ([] ∷ cut d s) (grow_first b (cut d s)) ≡ take (cond t 0 (suc (to_next d s))) (b ∷ s)
        ∷ cut d (drop (suc (cond t 0 (suc (to_next d s)))) (b ∷ s))
    go true l ih = refl
    go false l ih = rw (ih (omega arith))

-- the walk from place i to the next

pub drop_next : (s : List ℕ) (i : ℕ) → i < length s → drop i s ≡ get_or s i 0 ∷ drop (i + 1) s
drop_next s i h = rw (add-one, drop-cons s i 0)

-- the pieces from place i on, where e is the next place of a byte d
pub cut_at : (d : ℕ) (s : List ℕ) (i e : ℕ) → i + to_next d (drop i s) ≡ e → e < length s
    → cut d (drop i s) ≡ take (e - i) (drop i s) ∷ cut d (drop (e + 1) s)
cut_at d s i e q h =
    let n : to_next d (drop i s) ≡ e - i = omega arith in
    let l : to_next d (drop i s) < length (drop i s) = rw length-drop (omega arith) in
    let m : i + suc (e - i) ≡ e + 1 = omega arith in
    cut_next d (drop i s) l ∙ rw n (rw (drop-drop, m))
