-- Listed values by their places; a list written cell by cell is the listed values and the old cells past them; and sums over it.
-- Assumes nothing.
use Rattle.std.specs.Prelude.{◌≡◌, refl, Bool, true, false, List, [], ◌∷◌, ◌++◌, map, ℕ, zero, suc, ◌+◌, ◌/◌}
use Rattle.std.specs.Prelude.{◌≤◌, ◌<◌, eqb, length, get_or, set, drop, replicate}
use Rattle.std.proofs.Common.{sym, ap, ◌∙◌, arith, length-set, ext_get_or, get_or-set_same, get_or-set_other, eqb-true}
use Rattle.std.proofs.lemmas.Bool.{eqb-false}
use Rattle.cover.specs.Sets.{when, bit, cost}
use Rattle.cover.specs.CriticalPrice.{sum}
use Rattle.cover.specs.Settled.{listed, FilledTo}

pub length_listed : {A : Type 0} (n : ℕ) (f : ℕ → A) → length (listed n f) ≡ n
unfolding listed
length_listed zero f = refl
length_listed (suc n) f = ap suc (length_listed n (λ i. f (suc i)))

pub get_or_listed : {A : Type 0} (n : ℕ) (f : ℕ → A) (i : ℕ) (d : A) → i < n → get_or (listed n f) i d ≡ f i
unfolding listed
get_or_listed zero f i d l = absurd (omega arith)
get_or_listed (suc n) f zero d l = refl
get_or_listed (suc n) f (suc i) d l = get_or_listed n (λ j. f (suc j)) i d (omega arith)

pub listed_same : {A : Type 0} (n : ℕ) (f g : ℕ → A) → ((i : ℕ) → i < n → f i ≡ g i) → listed n f ≡ listed n g
unfolding listed
listed_same zero f g h = refl
listed_same (suc n) f g h = rw (h 0 (omega arith), listed_same n (λ i. f (suc i)) (λ i. g (suc i)) (λ i l. h (suc i) (omega arith)))

pub map_listed : {A B : Type 0} (n : ℕ) (f : ℕ → A) (g : A → B) → map g (listed n f) ≡ listed n (λ i. g (f i))
unfolding listed
map_listed zero f g = refl
map_listed (suc n) f g = ap (λ l. g (f 0) ∷ l) (map_listed n (λ i. f (suc i)) g)

pub written_none : (f : ℕ → ℕ) (old : List ℕ) → FilledTo f old old 0
written_none f old = record { sized = refl; values = λ i l. absurd (omega arith); kept = λ i l. refl }

pub written_more : (f : ℕ → ℕ) (old new : List ℕ) (j v : ℕ) → j < length old → v ≡ f j → FilledTo f old new j
    → FilledTo f old (set new j v) (j + 1)
written_more f old new j v l e h = record {
  sized = length-set new j v ∙ h.sized;
  values = λ i d. go i d (eqb i j) refl;
  kept = λ i d. get_or-set_other new j i v 0 (λ q. omega arith) ∙ h.kept i (omega arith);
}
  where
    go : (i : ℕ) → i < j + 1 → (t : Bool) → eqb i j ≡ t → get_or (set new j v) i 0 ≡ f i
    go i d true g = rw (eqb-true i j g) (get_or-set_same new j v 0 (omega (arith, h.sized)) ∙ e)
    go i d false g = get_or-set_other new j i v 0 (eqb-false i j g) ∙ h.values i (omega (arith, eqb-false i j g))

pub listed_of : (n : ℕ) (f : ℕ → ℕ) (old new : List ℕ) → n ≤ length old → FilledTo f old new n → new ≡ listed n f
    ++ drop n old
unfolding listed
listed_of zero f old new l h = ext_get_or 0 new old h.sized (λ i d. h.kept i (omega arith))
listed_of (suc n) f [] new l h = absurd (omega arith)
listed_of (suc n) f (x ∷ old) [] l h = absurd (omega (arith, h.sized))
listed_of (suc n) f (x ∷ old) (y ∷ new) l h = go (h.values 0 (omega arith))
    (listed_of n (λ i. f (suc i)) old new (omega arith)
    (record {
      sized = omega (arith, h.sized);
      values = λ i d. h.values (suc i) (omega arith);
      kept = λ i d. h.kept (suc i) (omega arith);
    }))
  where
    go : y ≡ f 0 → new ≡ listed n (λ i. f (suc i)) ++ drop n old → y ∷ new ≡ f 0 ∷ (listed n (λ i. f (suc i)) ++ drop n old)
    go e g = rw (e, g)

pub listed_at : (n : ℕ) (f : ℕ → ℕ) (xs : List ℕ) (i : ℕ) → i < n → get_or (listed n f ++ xs) i 0 ≡ f i
unfolding listed
listed_at zero f xs i l = absurd (omega arith)
listed_at (suc n) f xs zero l = refl
listed_at (suc n) f xs (suc i) l = listed_at n (λ i. f (suc i)) xs i (omega arith)

pub as_listed : (xs : List ℕ) (n : ℕ) (f : ℕ → ℕ) → length xs ≡ n → ((i : ℕ) → i < n → get_or xs i 0 ≡ f i)
    → xs ≡ listed n f
as_listed xs n f e h = ext_get_or 0 xs (listed n f) (e ∙ sym (length_listed n f))
    (λ i l. h i (omega arith) ∙ sym (get_or_listed n f i 0 (omega arith)))

-- a new list is all zeros
pub zeros : (n s : ℕ) → ◌≡◌ {A = ℕ} (get_or (replicate {A = ℕ} n 0) s 0) 0
zeros zero s = refl
zeros (suc n) zero = refl
zeros (suc n) (suc s) = zeros n s

-- sums

pub cost_sum : (ps : List ℕ) (s : ℕ) → cost ps s ≡ sum (listed (length ps) (λ i. when (bit s i) (get_or ps i 0)))
unfolding cost sum listed bit
cost_sum [] s = refl
cost_sum (p ∷ ps) s = ap (λ x. when (bit s 0) p + x) (cost_sum ps (s / 2))

-- f 0 + .. + f (n - 1), the last added last
unfoldable pub sum_to : (ℕ → ℕ) → ℕ → ℕ
sum_to f zero = 0
sum_to f (suc n) = sum_to f n + f n

sum_front : (f : ℕ → ℕ) (n : ℕ) → sum_to f (suc n) ≡ f 0 + sum_to (λ i. f (suc i)) n
unfolding sum_to
sum_front f zero = omega arith
sum_front f (suc n) = omega (arith, sum_front f n)

pub sum_listed : (n : ℕ) (f : ℕ → ℕ) → sum_to f n ≡ sum (listed n f)
unfolding sum listed sum_to
sum_listed zero f = refl
sum_listed (suc n) f = omega (arith, sum_front f n, sum_listed n (λ i. f (suc i)))

pub sum_same : (n : ℕ) (f g : ℕ → ℕ) → ((i : ℕ) → i < n → f i ≡ g i) → sum_to f n ≡ sum_to g n
unfolding sum_to
sum_same zero f g h = refl
sum_same (suc n) f g h = omega (arith, sum_same n f g (λ i l. h i (omega arith)), h n (omega arith))

pub sum_none : (f : ℕ → ℕ) → 0 ≡ sum_to f 0
unfolding sum_to
sum_none f = refl

pub sum_more : (f : ℕ → ℕ) (n s : ℕ) → s ≡ sum_to f n → s + f n ≡ sum_to f (n + 1)
unfolding sum_to
sum_more f n s e = let z : n + 1 ≡ suc n = omega arith in rw (z, e)
