-- A stretch of the main run along which the run without bid k takes what the main run takes. Assumes nothing.
use Rattle.std.specs.Prelude.{◌≡◌, refl, ◌⊎◌, Bool, true, false, List, ℕ, zero, suc, ◌+◌, ◌-◌, ◌*◌, ◌≤◌}
use Rattle.std.specs.Prelude.{◌<◌, length, eqb}
use Rattle.std.proofs.Common.{◌∙◌, inl, ⊎_elim, arith, eqb-true}
use Rattle.std.proofs.lemmas.Bool.{eqb-false}
use Rattle.cover.specs.Greedy.{keep}
use Rattle.cells.specs.Cells.{cell}
use Rattle.cells_pairs.specs.Pairs.{in_pairs, Shut}
use Rattle.multi_keys.specs.Keys.{at, last}
use Rattle.multi_market.specs.Market.{Priced}
use Rattle.multi_market.specs.Opens.{opens, open_of}
use Rattle.multi_market.proofs.OpensLaws.{two_way}
use Rattle.multi_rounds.specs.Trace.{key_on, bid_on, tape_on, Round}
use Rattle.multi_gain.specs.Gain.{Gained}
use Rattle.multi_limit.specs.Follow.{Following, SameBar, Gone}
use Rattle.multi_limit.specs.FollowLaws.{here, follow_on, follow_bar, follow_fewer, pass_on}

-- where fewer cells are open, each of them is still another bid's
pub bar_on : (has : ℕ → ℕ → Bool) (ps : List ℕ) (k : ℕ) (a b c : List ℕ) (s t u : ℕ)
    → ((x : ℕ) → cell b x ≤ cell a x)
    → SameBar has ps k a b s t → SameBar has ps k b c t u → SameBar has ps k a c s u
bar_on has ps k a b c s t u h f g spare = f spare ∙ g (λ x e. spare x
    (⊎_elim (λ z. absurd (omega (arith, z, h x))) (λ z. z) (two_way a x)))

-- where g has each cell that f has, no fewer are open
opens_less : (f g : ℕ → ℕ) (n : ℕ) → ((x : ℕ) → f x ≤ g x) → length (opens f n) ≤ length (opens g n)
unfolding opens keep
opens_less f g zero h = omega arith
opens_less f g (suc n) h = go (eqb (f n) 0) (eqb (g n) 0) refl refl (opens_less f g n h)
  where
    go : (a b : Bool) → eqb (f n) 0 ≡ a → eqb (g n) 0 ≡ b → length (opens f n) ≤ length (opens g n)
        → length (keep a n (opens f n)) ≤ length (keep b n (opens g n))
    go true true u v ih = ih
    go true false u v ih = omega arith
    go false true u v ih = absurd (omega (arith, h n, eqb-false (f n) 0 u, eqb-true (g n) 0 v))
    go false false u v ih = omega arith

pub open_less : (a b : List ℕ) → length b ≡ length a → ((x : ℕ) → cell b x ≤ cell a x)
    → length (open_of b) ≤ length (open_of a)
unfolding open_of
open_less a b e h = rw e (opens_less (cell b) (cell a) (64 * length a) h)

-- the run has come from round g₀ to round g, with the marks and keys that it had
pub record Along (has : ℕ → ℕ → Bool) (ps : List ℕ) (k mine top cap : ℕ) (run tape old alt keys mark : List ℕ)
    (from g : ℕ) : Type 0 where
  pub size : length alt ≡ length old
  pub goes : Following has ps k run tape alt keys mark mine g
  pub on : from ≤ g
  pub ahead : (from < g) ⊎ (key_on run g < cap)
  pub fewer : (x : ℕ) → cell alt x ≤ cell old x
  pub bar_is : SameBar has ps k old alt top top

module _ {has : ℕ → ℕ → Bool} {ps : List ℕ} {k mine top cap : ℕ} {run tape old alt keys mark : List ℕ} {from g : ℕ}
    (p : Priced ps)
    (most : length old ≤ 158) (some : 0 < mine) (a : Along has ps k mine top cap run tape old alt keys mark from g) where
  most_now : length alt ≤ 158
  most_now = omega (arith, a.size)

  module _ (below : (i : ℕ) → i < 1024 → cap ≤ at keys i) (few : cap ≤ last) (l : key_on run g < cap) where
    pub in_run : g < a.goes.rounds
    in_run = here p most_now a.goes (omega arith)

    pub written_here : Round has ps (length alt) a.goes.n run tape g
    written_here = a.goes.main.each g in_run

    pub room_here : 3 * g + 5 < length run
    room_here = omega (arith, in_run, a.goes.main.room)

    -- one round more that both take
    pub along_goes : cell mark (bid_on run g) ≡ 0
        → ((x : ℕ) → in_pairs tape (tape_on run g) (tape_on run (g + 1) - tape_on run g) x ≡ true → cell alt x ≡ 1)
        → {next : List ℕ}
        → length next ≡ length alt → Shut alt (in_pairs tape (tape_on run g) (tape_on run (g + 1) - tape_on run g)) next
        → Along has ps k mine top cap run tape old next keys mark from (g + 1)
    along_goes free held {next} e s = record {
      size = e ∙ a.size;
      goes = follow_on p most_now a.goes cap below l few free held e s;
      on = omega (arith, a.on);
      ahead = inl (omega (arith, a.on));
      fewer = λ x. omega (arith, a.fewer x, follow_fewer p most_now a.goes cap below l few free held e s x);
      bar_is = bar_on has ps k old alt next top top top a.fewer a.bar_is
          (follow_bar p most_now a.goes cap below l few free held e s top some);
    }

    -- the main run alone takes the next
    pub along_passes : {keys' mark' : List ℕ}
        → Gained has ps alt (in_pairs tape (tape_on run g) (tape_on run (g + 1) - tape_on run g)) keys mark keys' mark'
        → length keys' ≡ 1024
        → 0 < cell mark' (bid_on run g) → Gone has ps k run tape old alt keys' mark' mine top from (g + 1)
    along_passes d size z = record {
      goes = pass_on p most_now a.goes cap below l few d size z;
      on = omega (arith, a.on);
      fewer = a.fewer;
      bar_is = a.bar_is;
    }
