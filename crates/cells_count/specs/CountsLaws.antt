-- Laws of the sums of the cells before each word: begun, counted on, forgotten, and kept where a later word changes. Assumes nothing.
use Rattle.std.specs.Prelude.{◌≡◌, refl, List, ℕ, zero, suc, ◌+◌, ◌*◌, ◌^◌, ◌≤◌, ◌<◌, length, get_or, set}
use Rattle.std.proofs.Common.{sym, ap, ◌∙◌, ⊎_elim, add-one, arith, length-set, get_or-set_same, get_or-set_other}
use Rattle.std.specs.Int.Count.{ones}
use Rattle.std.proofs.lemmas.Nat.{ones-le}
use Rattle.cells.specs.Cells.{total}
use Rattle.cells_count.specs.Hops.{cells_to, counted_to, Counted}
use Rattle.cells_count.specs.SumLaws.{total_ext}
use Rattle.cells.proofs.StoreLaws.{ne_or_eq}

abbrev at : List ℕ → ℕ → ℕ
at xs q = get_or xs q 0

-- ---- the sums themselves
pub cells_none : (words : List ℕ) → cells_to words 0 ≡ 0
unfolding cells_to total
cells_none words = refl

cells_suc : (words : List ℕ) (q : ℕ) → cells_to words (suc q) ≡ cells_to words q + ones (at words q)
unfolding cells_to total
cells_suc words q = refl

pub cells_next : (words : List ℕ) (q : ℕ) → cells_to words (q + 1) ≡ cells_to words q + ones (at words q)
cells_next words q = ap (cells_to words) (add-one q) ∙ cells_suc words q

pub cells_few : (words : List ℕ) → ((p : ℕ) → at words p < 2 ^ 64) → (q : ℕ) → cells_to words q ≤ 64 * q
cells_few words fits zero = omega (arith, cells_none words)
cells_few words fits (suc q) = omega (arith, cells_suc words q, ones-le 64 (at words q) (fits q), cells_few words fits q)

pub cells_grow : (words : List ℕ) (q d : ℕ) → cells_to words q ≤ cells_to words (q + d)
cells_grow words q zero = let e : q + 0 ≡ q = omega arith in rw e (omega arith)
cells_grow words q (suc d) = let e : q + suc d ≡ q + d + 1 = omega arith in
    rw e (omega (arith, cells_next words (q + d), cells_grow words q d))

-- the words before q alone matter
cells_same : (old new : List ℕ) (q : ℕ) → ((p : ℕ) → p < q → at old p ≡ at new p) → cells_to old q ≡ cells_to new q
unfolding cells_to
cells_same old new q h = total_ext (λ p. ones (at old p)) (λ p. ones (at new p)) q (λ p l. ap ones (h p l))

-- ---- sums that are right up to word q, counted up to there
pub counted_last : (words counts : List ℕ) (q : ℕ) → length counts ≡ length words + 2
    → counted_to words (set counts (length words + 1) q) ≡ q
counted_last words counts q n = get_or-set_same counts (length words + 1) q 0 (omega (arith, n))

counted_to_lem : (words counts : List ℕ) (q : ℕ) → length counts ≡ length words + 2 → q ≤ length words
    → ((p : ℕ) → p ≤ q → at counts p ≡ cells_to words p)
    → Counted words (set counts (length words + 1) q)
counted_to_lem words counts q n l h = let last = counted_last words counts q n in record {
  size = simp length-set n;
  known = rw last l;
  each = λ p a. get_or-set_other counts (length words + 1) p q 0 (λ e. omega (arith, last)) ∙ h p (omega (arith, last));
}

pub counted_none : (words counts : List ℕ) → length counts ≡ length words + 2
    → Counted words (set (set counts 0 0) (length words + 1) 0)
counted_none words counts n =
    counted_to_lem words (set counts 0 0) 0 (simp length-set n) (omega arith)
    (λ p l. let e : p ≡ 0 = omega arith in rw e (get_or-set_same counts 0 0 0 (omega (arith, n)) ∙ sym (cells_none words)))

pub counted_back : {words counts : List ℕ} (q : ℕ) → Counted words counts → q < counted_to words counts
    → Counted words (set counts (length words + 1) q)
counted_back {words} {counts} q k l = counted_to_lem words counts q k.size (omega (arith, k.known)) (λ p a. k.each p (omega arith))

-- a word past those counted changes
pub counted_set : {words counts : List ℕ} (q v : ℕ) → Counted words counts → counted_to words counts ≤ q
    → Counted (set words q v) counts
counted_set {words} {counts} q v k l = record {
  size = simp length-set k.size;
  known = simp length-set k.known;
  each = λ p a. let b : p ≤ counted_to words counts = simp length-set at a in k.each p b
      ∙ cells_same words (set words q v) p (λ i m. sym (get_or-set_other words q i v 0 (λ e. omega arith)));
}

-- ---- counting on: the sums are right up to word q, and the last of them is `sum`
pub record Counting (words counts : List ℕ) (q sum : ℕ) : Type 0 where
  pub size : length counts ≡ length words + 2
  pub sums : (p : ℕ) → p ≤ q → at counts p ≡ cells_to words p
  pub last : sum ≡ cells_to words q

pub counting_from : {words counts : List ℕ} → Counted words counts
    → Counting words counts (counted_to words counts) (at counts (counted_to words counts))
counting_from {words} {counts} k = record { size = k.size; sums = k.each; last = k.each (counted_to words counts) (omega arith) }

pub counting_on : {words counts : List ℕ} {q sum : ℕ} → Counting words counts q sum → q < length words
    → Counting words (set counts (q + 1) (sum + ones (at words q))) (q + 1) (sum + ones (at words q))
counting_on {words} {counts} {q} {sum} s l = record {
  size = simp length-set s.size;
  sums = λ p a. ⊎_elim (λ n. get_or-set_other counts (q + 1) p (sum + ones (at words q)) 0 n ∙ s.sums p (omega arith))
      (λ e. rw e (get_or-set_same counts (q + 1) (sum + ones (at words q)) 0 (omega (arith, s.size)) ∙ more)) (ne_or_eq p (q + 1));
  last = more;
}
  where
    more : sum + ones (at words q) ≡ cells_to words (q + 1)
    more = omega (arith, cells_next words q, s.last)

pub counting_done : {words counts : List ℕ} {q sum : ℕ} (e : ℕ) → Counting words counts q sum → e ≤ length words → e ≤ q
    → Counted words (set counts (length words + 1) e)
counting_done {words} {counts} e s l m = counted_to_lem words counts e s.size l (λ p a. s.sums p (omega arith))
