-- Whether a keyword and a space stand at a place. Assumes nothing.
use Rattle.std.specs.Prelude.{ℕ, zero, suc, ◌+◌, ◌-◌, ◌≤◌, ◌<◌, ◌≡◌, List, [], ◌∷◌, ◌++◌, Bool}
use Rattle.std.specs.Prelude.{◌&&◌, length, take, drop, get_or, eqb, leb}
use Rattle.std.proofs.Math.Path.{refl}
use Rattle.std.proofs.Math.Bool.{true, false, and-true}
use Rattle.std.proofs.Common.{sym, ap, ◌∙◌, true≢false, arith, append-nil, drop-drop, leb-true, eqb-true, eq-eqb, ne_eqb}
use Rattle.std.proofs.lemmas.Bool.Decides.{Decides-eqb}
use Rattle.std.proofs.lemmas.List.{take_rest}
use Rattle.std.proofs.lemmas.Slice.Eq.{starts_is}
use Rattle.std.specs.List as slices
use Rattle.tender.specs.Limits.{within}
use Rattle.reader_parts.specs.Scan.{Ended, lettered, starts_with}
use Rattle.reader_parts.proofs.GivenLaws.{both_true}
use Rattle.reader_parts.proofs.ScanLaws.{drop_next}
use Rattle.reader_parts.proofs.PlaceLaws.{not_last}

-- each byte of such a word is a letter
pub letters : (w : List ℕ) (i : ℕ) → lettered w ≡ true → i < length w → (97 ≤ get_or w i 0) × (get_or w i 0 < 123)
unfolding lettered within
letters [] i e h = absurd (omega arith)
letters (b ∷ w) zero e h =
    let p = (both_true (leb 97 b && leb b 122) (lettered w) e).0 in
    let q = both_true (leb 97 b) (leb b 122) p in
    (leb-true 97 b q.0, omega (arith, leb-true b 122 q.1))
letters (b ∷ w) (suc i) e h = letters w i (both_true (leb 97 b && leb b 122) (lettered w) e).1 (omega arith)

-- what stands in front of other bytes
word_before : (w v t : List ℕ) → starts_with (w ++ v) (w ++ t) ≡ starts_with v t
unfolding starts_with
word_before [] v t = refl
word_before (b ∷ w) v t = rw (eq-eqb b b refl) (word_before w v t)

word_split : (w v s : List ℕ) → starts_with (w ++ v) s ≡ true → s ≡ w ++ drop (length w) s
unfolding starts_with
word_split [] v s e = refl
word_split (d ∷ w) v [] e = absurd (true≢false (sym e))
word_split (d ∷ w) v (b ∷ s) e =
    let p = both_true (eqb b d) (starts_with (w ++ v) s) e in
    rw (eqb-true b d p.0) (ap (λ t. d ∷ t) (word_split w v s p.1))

-- a word of letters that stands in bytes whose last is 10 does not end them
word_inside : (w s : List ℕ) (at : ℕ) → Ended s → at < length s → lettered w ≡ true → starts_with w (drop at s) ≡ true
    → at + length w < length s
unfolding starts_with lettered within
word_inside [] s at x h l e = omega arith
word_inside (d ∷ w) s at x h l e =
    let p = both_true (eqb (get_or s at 0) d) (starts_with w (drop (at + 1) s)) (rw (drop_next s at h) at e) in
    let b = eqb-true (get_or s at 0) d p.0 in
    let i = letters (d ∷ w) 0 l (omega arith) in
    let k = not_last s at x h (λ q. omega (arith, b, q, i.0)) in
    omega (arith, word_inside w s (at + 1) x k (both_true (leb 97 d && leb d 122) (lettered w) l).1 p.1)

-- `r` says whether the word w, of letters, stands at `at`
module _ (s w : List ℕ) (at : ℕ) (pre : (at < length s) × Ended s × (lettered w ≡ true))
    (r : Bool) (answer : r ≡ slices.starts_with eqb (take (length s - at) (drop at s)) w)
  where
    q : r ≡ slices.starts_with eqb (drop at s) w
    q = rw (take_rest s at) at answer

    here : r ≡ true → drop at s ≡ w ++ drop (at + length w) s
    here e = (starts_is Decides-eqb (drop at s) w r q).0 e ∙ ap (λ t. w ++ t) (drop-drop (length w) at s)

    pub stands_inside : r ≡ true → at + length w < length s
    unfolding starts_with
    stands_inside e =
        let t = drop (at + length w) s in
        let f : starts_with w (w ++ t) ≡ true = rw append-nil at (word_before w [] t) in
        word_inside w s at pre.1 pre.0 pre.2 (rw (here e) f)

    pub stands_spaced : r ≡ true → eqb (get_or s (at + length w) 0) 32 ≡ starts_with (w ++ 32 ∷ []) (drop at s)
    unfolding starts_with
    stands_spaced e = rw (here e) (sym (word_before w (32 ∷ []) (drop (at + length w) s)
        ∙ rw (drop_next s (at + length w) (stands_inside e)) (and-true (eqb (get_or s (at + length w) 0) 32))))

    pub stands_not : r ≡ false → r ≡ starts_with (w ++ 32 ∷ []) (drop at s)
    stands_not e = go (starts_with (w ++ 32 ∷ []) (drop at s)) refl
      where
        go : (t : Bool) → starts_with (w ++ 32 ∷ []) (drop at s) ≡ t → r ≡ t
        go true k = (starts_is Decides-eqb (drop at s) w r q).1 (drop (length w) (drop at s)) (word_split w (32 ∷ []) (drop at s) k)
        go false k = e

-- two words that begin with different bytes do not both stand at one place
pub other_start : (s v w : List ℕ) (a b : ℕ) → (a ≡ b → ⊥)
    → starts_with (a ∷ v) s ≡ true → starts_with (b ∷ w) s ≡ false
unfolding starts_with
other_start [] v w a b n e = refl
other_start (c ∷ s) v w a b n e =
    let h = eqb-true c a (both_true (eqb c a) (starts_with v s) e).0 in
    rw (ne_eqb c b (λ k. n (omega (arith, h, k))))
