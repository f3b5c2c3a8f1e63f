-- The earliest cell with exactly m bidders is in fact the earliest, and where there is none each cell has more or fewer. Assumes nothing.
use Rattle.std.specs.Prelude.{◌≡◌, Bool, true, false, ℕ, ◌≤◌, ◌<◌, leb, ltb, eqb}
use Rattle.std.proofs.Math.Path.{refl, ap}
use Rattle.std.proofs.Common.{arith, ltb-true, ltb-false, le-leb, eqb-true, eq-eqb}
use Rattle.cover.specs.Sets.{Found, nothing, found, bidders, each}
use Rattle.cover.proofs.SetLaws.{all_of}
use Rattle.cover.specs.LeastCover.{first, Wins}
use Rattle.cover.proofs.LeastCoverLaws.{IsFirst, first_right, wins_one}
use Rattle.cover.specs.Earliest.{cell_with}
use Rattle.cover.proofs.EarliestCost.{cell_cost}

-- the cell x has exactly m bidders, and no earlier one has
pub record FirstWith (has : ℕ → ℕ → Bool) (n L m x : ℕ) : Type 0 where
  pub inside : x < L
  pub here : bidders has n x ≡ m
  pub before : (y : ℕ) → y < x → bidders has n y ≡ m → ⊥

module _ (has : ℕ → ℕ → Bool) (n L m : ℕ) where
  abbrev ok : ℕ → Bool
  ok x = eqb (bidders has n x) m

  abbrev free : ℕ → ℕ
  free x = cell_cost L x

  wins : (x : ℕ) → FirstWith has n L m x → Wins ok free L x
  wins x f = record {
    inside = f.inside;
    good = eq-eqb (bidders has n x) m f.here;
    least = λ s l g. omega arith;
    earliest = λ s l g q. no_earlier s g (ltb s x) refl;
  }
    where
      no_earlier : (s : ℕ) → ok s ≡ true → (b : Bool) → ltb s x ≡ b → x ≤ s
      no_earlier s g true t = absurd (f.before s (ltb-true s x t) (eqb-true (bidders has n s) m g))
      no_earlier s g false t = ltb-false s x t

  first_with : (x : ℕ) → Wins ok free L x → FirstWith has n L m x
  first_with x w = record {
    inside = w.inside;
    here = eqb-true (bidders has n x) m w.good;
    before = λ y l e. omega (arith, w.inside, w.earliest y (omega (arith, w.inside)) (eq-eqb (bidders has n y) m e) refl);
  }

  pub cell_is : (x : ℕ) → FirstWith has n L m x → cell_with has n L m ≡ found x
  unfolding cell_with
  cell_is x f = go (first ok free L) (first_right ok free L)
    where
      go : (r : Found) → IsFirst ok free L r → r ≡ found x
      go nothing h = absurd (h x f.inside (wins x f).good)
      go (found b) h = ap found (wins_one ok free L b x h (wins x f))

  pub cell_none : ((x : ℕ) → x < L → bidders has n x ≡ m → ⊥) → cell_with has n L m ≡ nothing
  unfolding cell_with
  cell_none f = go (first ok free L) (first_right ok free L)
    where
      go : (r : Found) → IsFirst ok free L r → r ≡ nothing
      go nothing h = refl
      go (found b) h = absurd (f b h.inside (eqb-true (bidders has n b) m h.good))

  pub cell_found : (x : ℕ) → cell_with has n L m ≡ found x → FirstWith has n L m x
  unfolding cell_with
  cell_found x e = first_with x (rw e at (first_right ok free L))

  pub none_found : cell_with has n L m ≡ nothing → (x : ℕ) → x < L → bidders has n x ≡ m → ⊥
  unfolding cell_with
  none_found e x l q = (rw e at (first_right ok free L)) x l (eq-eqb (bidders has n x) m q)

-- no cell is in no bid: each has one
pub one_at : (has : ℕ → ℕ → Bool) (n L : ℕ) → cell_with has n L 0 ≡ nothing → (x : ℕ) → x < L → 1 ≤ bidders has n x
one_at has n L e x l = omega (arith, none_found has n L 0 e x l)

-- and none in one alone: each has two
pub two_at : (has : ℕ → ℕ → Bool) (n L : ℕ) → cell_with has n L 0 ≡ nothing → cell_with has n L 1 ≡ nothing →
    (x : ℕ) → x < L → 2 ≤ bidders has n x
two_at has n L e f x l = omega (arith, none_found has n L 0 e x l, none_found has n L 1 f x l)

pub two_each : (has : ℕ → ℕ → Bool) (n L : ℕ) → cell_with has n L 0 ≡ nothing → cell_with has n L 1 ≡ nothing
    → each has n L 2 ≡ true
unfolding each
two_each has n L e f = all_of (λ x. leb 2 (bidders has n x)) L (λ x l. le-leb 2 (bidders has n x) (two_at has n L e f x l))
