-- Laws of sets of bids: their bits, the order of two sets, what a set covers. Assumes nothing.
use Rattle.std.specs.Prelude.{◌≡◌, refl, ◌⊎◌, Bool, true, false, ◌&&◌, ◌||◌, ℕ, zero, suc, ◌+◌, ◌*◌, ◌/◌}
use Rattle.std.specs.Prelude.{◌%◌, ◌^◌, ◌≤◌, ◌<◌, eqb}
use Rattle.std.proofs.Common.{ap, ◌∙◌, inl, inr, eq-or-lt_of_le, le_of_suc-le-suc, pow-suc, arith, eq-eqb, ne_eqb}
use Rattle.std.proofs.lemmas.Bool.{false≢true}
use Rattle.std.proofs.Math.Bool.{or-true}
use Rattle.cover.specs.Sets.{when, bit, all, hit}
use Rattle.cover.specs.LeastCover.{Stands}

pub and_split : (a b : Bool) → a && b ≡ true → (a ≡ true) × (b ≡ true)
and_split true b e = (refl, e)
and_split false b e = absurd (false≢true e)

pub or_split : (a b : Bool) → a || b ≡ true → (a ≡ true) ⊎ (b ≡ true)
or_split true b e = inl refl
or_split false b e = inr e

-- the order of two numbers is the tie rule

stands_half : (s t : ℕ) → Stands (s / 2) (t / 2) → Stands s t
unfolding bit
stands_half s t h = record { at = suc h.at; lacks = h.lacks; takes = h.takes; later = go }
  where
    go : (j : ℕ) → suc h.at < j → bit s j ≡ bit t j
    go zero l = absurd (omega arith)
    go (suc j) l = h.later j (omega arith)

stands_here : (s t : ℕ) → s / 2 ≡ t / 2 → s < t → Stands s t
unfolding bit
stands_here s t e l = record { at = 0; lacks = ne_eqb (s % 2) 1 (λ p. omega arith); takes = eq-eqb (t % 2) 1 (omega arith); later = go }
  where
    go : (j : ℕ) → 0 < j → bit s j ≡ bit t j
    go zero h = absurd (omega arith)
    go (suc j) h = ap (λ x. bit x j) e

pub stands : (n s t : ℕ) → t < 2 ^ n → s < t → Stands s t
stands zero s t b l = absurd (omega arith)
stands (suc n) s t b l = go (eq-or-lt_of_le {n = s / 2} {m = t / 2} (omega arith)) (stands n (s / 2) (t / 2) (omega (arith, pow-suc 2 n)))
  where
    go : (s / 2 ≡ t / 2) ⊎ (s / 2 < t / 2) → (s / 2 < t / 2 → Stands (s / 2) (t / 2)) → Stands s t
    go (inl e) f = stands_here s t e l
    go (inr h) f = stands_half s t (f h)

-- every number below L

pub all_of : (P : ℕ → Bool) (L : ℕ) → ((x : ℕ) → x < L → P x ≡ true) → all L P ≡ true
unfolding all
all_of P zero f = refl
all_of P (suc L) f = rw (f L (omega arith), all_of P L (λ x l. f x (omega arith)))

pub all_at : (P : ℕ → Bool) (L : ℕ) → all L P ≡ true → (x : ℕ) → x < L → P x ≡ true
unfolding all
all_at P zero e x l = absurd (omega arith)
all_at P (suc L) e x l = let s = and_split (P L) (all L P) e in go (eq-or-lt_of_le (le_of_suc-le-suc l)) s.0 (all_at P L s.1 x)
  where
    go : (x ≡ L) ⊎ (x < L) → P L ≡ true → (x < L → P x ≡ true) → P x ≡ true
    go (inl h) s f = rw h s
    go (inr h) s f = f h

-- the set of the bids below n that pass
unfoldable pub pack : (ℕ → Bool) → ℕ → ℕ
pack p zero = 0
pack p (suc n) = when (p 0) 1 + 2 * pack (λ i. p (suc i)) n

pub when_one : (b : Bool) → when b 1 ≤ 1
when_one true = omega arith
when_one false = omega arith

pub when_is : (b : Bool) → eqb (when b 1) 1 ≡ b
when_is true = refl
when_is false = refl

pub pack_below : (p : ℕ → Bool) (n : ℕ) → pack p n < 2 ^ n
unfolding pack
pack_below p zero = omega arith
pack_below p (suc n) = omega (arith, pack_below (λ i. p (suc i)) n, pow-suc 2 n, when_one (p 0))

pub pack_bit : (p : ℕ → Bool) (n i : ℕ) → i < n → bit (pack p n) i ≡ p i
unfolding pack bit
pack_bit p zero i l = absurd (omega arith)
pack_bit p (suc n) zero l = go (p 0)
  where
    go : (b : Bool) → eqb ((when b 1 + 2 * pack (λ i. p (suc i)) n) % 2) 1 ≡ b
    go true = eq-eqb ((1 + 2 * pack (λ i. p (suc i)) n) % 2) 1 (omega arith)
    go false = ne_eqb ((0 + 2 * pack (λ i. p (suc i)) n) % 2) 1 (λ e. omega arith)
pack_bit p (suc n) (suc i) l =
    let e : (when (p 0) 1 + 2 * pack (λ i. p (suc i)) n) / 2 ≡ pack (λ i. p (suc i)) n = omega (arith, when_one (p 0)) in
    ap (λ s. bit s i) e ∙ pack_bit (λ i. p (suc i)) n i (omega arith)

pub hit_of : (has : ℕ → ℕ → Bool) (n s x j : ℕ) → j < n → bit s j ≡ true → has j x ≡ true → hit has n s x ≡ true
unfolding hit
hit_of has zero s x j l b h = absurd (omega arith)
hit_of has (suc n) s x j l b h = go (eq-or-lt_of_le (le_of_suc-le-suc l)) (hit_of has n s x j)
  where
    go : (j ≡ n) ⊎ (j < n) → (j < n → bit s j ≡ true → has j x ≡ true → hit has n s x ≡ true) → bit s n
        && has n x || hit has n s x ≡ true
    go (inl e) f = rw (rw e at b, rw e at h)
    go (inr m) f = rw (f m b h) (or-true (bit s n && has n x))

-- a member of the set has the cell
pub record Member (has : ℕ → ℕ → Bool) (n s x : ℕ) : Type 0 where
  pub who : ℕ
  pub inside : who < n
  pub in_set : bit s who ≡ true
  pub covers_it : has who x ≡ true

pub hit_some : (has : ℕ → ℕ → Bool) (n s x : ℕ) → hit has n s x ≡ true → Member has n s x
unfolding hit
hit_some has zero s x e = absurd (false≢true e)
hit_some has (suc n) s x e = go (bit s n) (has n x) refl refl e (hit_some has n s x)
  where
    up : Member has n s x → Member has (suc n) s x
    up m = record { who = m.who; inside = omega (arith, m.inside); in_set = m.in_set; covers_it = m.covers_it }

    go : (a b : Bool) → bit s n ≡ a → has n x ≡ b → a && b || hit has n s x ≡ true
        → (hit has n s x ≡ true → Member has n s x)
        → Member has (suc n) s x
    go true true f g e ih = record { who = n; inside = omega arith; in_set = f; covers_it = g }
    go true false f g e ih = up (ih e)
    go false b f g e ih = up (ih e)
