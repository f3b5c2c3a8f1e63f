-- What is wrong with windows, one after another. Assumes nothing.
use Rattle.std.specs.Prelude.{◌≡◌, refl, List, [], ◌∷◌, Bool, true, false, ◌&&◌, ℕ, ◌≤◌, ◌<◌, Some, None}
use Rattle.std.specs.Option.{option_or}
use borrow.Author.Tests.{lt-ltb, le-ltb, le-leb, lt-leb}
use Rattle.tender.specs.declared.Window.{Window}
use Rattle.tender.specs.Limits.{week, ordered, early, every}
use Rattle.reader_parts.specs.declared.Flaw.TheVariants.{Empty, Late}
use Rattle.reader_parts.specs.Flaws.{Flaws, flaw_by, flaw_in, flaw_of, worst}

and_true : (a : Bool) → a && true ≡ a
and_true true = refl
and_true false = refl

pub worst_sound : (f : Flaws) → worst f None ≡ f
unfolding worst
worst_sound (Some Empty) = refl
worst_sound (Some Late) = refl
worst_sound None = refl

pub worst_empty : (f : Flaws) → worst f (Some Empty) ≡ Some Empty
unfolding worst
worst_empty (Some Empty) = refl
worst_empty (Some Late) = refl
worst_empty None = refl

pub worst_late : (f : Flaws) → option_or f (Some Late) ≡ worst f (Some Late)
unfolding worst
worst_late (Some Empty) = refl
worst_late (Some Late) = refl
worst_late None = refl

-- the window from a to z

module _ (a z : ℕ) where
  pub flaw_empty : z ≤ a → flaw_in (record { start = a; end = z }) ≡ Some Empty
  unfolding flaw_in
  flaw_empty h = simp (le-ltb a z h)

  module _ (h : a < z) where
    pub flaw_sound : z ≤ week → flaw_in (record { start = a; end = z }) ≡ None
    unfolding flaw_in
    flaw_sound k = simp (lt-ltb a z h, le-leb z week k)

    pub flaw_late : week < z → flaw_in (record { start = a; end = z }) ≡ Some Late
    unfolding flaw_in
    flaw_late k = simp (lt-ltb a z h, lt-leb z week k)

worst_both : (f : Flaws) (a b c d : Bool) → worst (worst f (flaw_by a b)) (flaw_by c d) ≡ worst f (flaw_by (a && c) (b && d))
unfolding worst
worst_both (Some Empty) a b c d = refl
worst_both (Some Late) false b c d = refl
worst_both (Some Late) true b false d = late b
  where
    late : (b : Bool) → worst (worst (Some Late) (flaw_by true b)) (Some Empty) ≡ Some Empty
    late true = refl
    late false = refl
worst_both (Some Late) true true true true = refl
worst_both (Some Late) true true true false = refl
worst_both (Some Late) true false true true = refl
worst_both (Some Late) true false true false = refl
worst_both None false b c d = refl
worst_both None true true c d = refl
worst_both None true false false d = refl
worst_both None true false true true = refl
worst_both None true false true false = refl

-- one window more
pub worst_more : (f : Flaws) (w : Window) (ws : List Window) → worst (worst f (flaw_in w)) (flaw_of ws) ≡ worst f (flaw_of (w ∷ ws))
unfolding flaw_in flaw_of every
worst_more f w ws = worst_both f (ordered w) (early w) (every ordered ws) (every early ws)

-- the last window
pub worst_last : (f : Flaws) (w : Window) → worst f (flaw_of (w ∷ [])) ≡ worst f (flaw_in w)
unfolding flaw_in flaw_of every
worst_last f w = rw (and_true (ordered w), and_true (early w))
