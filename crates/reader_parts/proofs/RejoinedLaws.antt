-- Pieces joined again by the byte between two: they are what was cut, and cutting gives them back. Assumes nothing.
use Rattle.std.specs.Prelude.{◌≡◌, refl, List, [], ◌∷◌, ◌++◌, Bool, true, false, cond, ℕ, length, eqb}
use Rattle.std.proofs.Common.{sym, ap, ◌∙◌, append-nil, arith, eqb-true}
use Rattle.reader_parts.specs.Words.{among, grow_first, cut}
use Rattle.reader_parts.proofs.CutLaws.{neither, Pieces, cut_some, cut_end, cut_word}

unfoldable pub rejoined : ℕ → List (List ℕ) → List ℕ
rejoined d [] = []
rejoined d (p ∷ []) = p
rejoined d (p ∷ q ∷ ps) = p ++ d ∷ rejoined d (q ∷ ps)

-- what was cut

rejoined_grow : (d b : ℕ) (ps : List (List ℕ)) → Pieces ps → rejoined d (grow_first b ps) ≡ b ∷ rejoined d ps
unfolding grow_first rejoined
rejoined_grow d b [] c = let e = ap length c.are in absurd (omega (arith, e))
rejoined_grow d b (p ∷ []) c = refl
rejoined_grow d b (p ∷ q ∷ ps) c = refl

rejoined_new : (d : ℕ) (ps : List (List ℕ)) → Pieces ps → rejoined d ([] ∷ ps) ≡ d ∷ rejoined d ps
unfolding rejoined
rejoined_new d [] c = let e = ap length c.are in absurd (omega (arith, e))
rejoined_new d (p ∷ ps) c = refl

pub rejoined_cut : (d : ℕ) (s : List ℕ) → rejoined d (cut d s) ≡ s
unfolding cut rejoined
rejoined_cut d [] = refl
rejoined_cut d (b ∷ s) = go (eqb b d) refl (cut_some d s) (rejoined_cut d s)
  where
    go : (t : Bool) → eqb b d ≡ t → Pieces (cut d s) → rejoined d (cut d s) ≡ s
        → rejoined d (cond t ([] ∷ cut d s) (grow_first b (cut d s)))
        ≡ b ∷ s
    go true e c h = rejoined_new d (cut d s) c ∙ rw (h, eqb-true b d e)
    go false e c h = rejoined_grow d b (cut d s) c ∙ ap (λ l. b ∷ l) h

-- pieces without a byte

-- no piece has a byte d
abbrev pub Without : ℕ → List (List ℕ) → Type 0
Without d [] = Unit {0}
Without d (p ∷ ps) = (among d p ≡ false) × Without d ps

pub among_append : (d : ℕ) (v w : List ℕ) → among d v ≡ false → among d w ≡ false → among d (v ++ w) ≡ false
unfolding among
among_append d [] w e f = f
among_append d (b ∷ v) w e f = let s = neither (eqb b d) (among d v) e in rw s.0 (among_append d v w s.1 f)

pub cut_rejoined : (d : ℕ) (p : List ℕ) (ps : List (List ℕ)) → Without d (p ∷ ps) → cut d (rejoined d (p ∷ ps)) ≡ p ∷ ps
unfolding rejoined cut
cut_rejoined d p [] h = ap (cut d) (sym (append-nil p)) ∙ cut_word d p [] [] [] h.0 refl ∙ ap (λ v. v ∷ []) (append-nil p)
cut_rejoined d p (q ∷ ps) h = cut_end d p (rejoined d (q ∷ ps)) h.0 ∙ ap (λ l. p ∷ l) (cut_rejoined d q ps h.1)

pub rejoined_among : (d e : ℕ) (p : List ℕ) (ps : List (List ℕ)) → eqb e d ≡ false → Without d (p ∷ ps)
    → among d (rejoined e (p ∷ ps)) ≡ false
unfolding rejoined among
rejoined_among d e p [] n h = h.0
rejoined_among d e p (q ∷ ps) n h =
    among_append d p (e ∷ rejoined e (q ∷ ps)) h.0 (rw n (rejoined_among d e q ps n h.1))
