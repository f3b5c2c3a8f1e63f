-- The steps of the run without bid k, one after the other, up to where it is over or k has no open cell. Assumes nothing.
use Rattle.std.specs.Prelude.{◌≡◌, refl, ◌⊎◌, Bool, List, ℕ, ◌+◌, ◌%◌, ◌≤◌, ◌<◌, length}
use Rattle.std.proofs.Common.{sym, ◌∙◌, inl, inr, ⊎_elim, arith}
use Rattle.cover.specs.Greedy.{Entry, reach}
use Rattle.cover.proofs.GreedyLaws.{rounds, close_other}
use Rattle.cover.specs.CriticalPrice.{share, bar}
use Rattle.cells.specs.Cells.{cell}
use Rattle.multi_keys.specs.Keys.{at, last}
use Rattle.multi_market.specs.Market.{Priced}
use Rattle.multi_market.specs.Opens.{open_of}
use Rattle.multi_market.specs.Seats.{Fronted}
use Rattle.multi_market.proofs.RunLaws.{rounds_of}
use Rattle.multi_rounds.specs.Trace.{key_on}
use Rattle.multi_limit.specs.Follow.{bar_from, Following, SameBar, Gone, Took, Stepped, Limited}
use Rattle.multi_limit.specs.StrayLaws.{others}
use Rattle.multi_limit.specs.FollowLaws.{shut_fewer, here, key_last, take_falls, take_bar, take_on}
use Rattle.multi_limit.specs.WalkLaws.{bar_on, open_less}

-- a bid that reaches no open cell has no share
pub bar_none : (k : ℕ) (h : ℕ → Bool) (B : ℕ → Entry) (n : ℕ) (O : List ℕ) → reach h O ≡ 0
    → bar k h (rounds_of B n O) ≡ 0
unfolding bar rounds_of share
bar_none k h B n O = rounds B n (λ O t. reach h O ≡ 0 → bar k h t ≡ 0) (λ O e z. refl)
    (λ O i t b ih z. rw (z, ih (omega (arith, close_other (B i).has h O)))) (length O) O (omega arith)

bar_from_none : (has : ℕ → ℕ → Bool) (ps : List ℕ) (k : ℕ) (O : List ℕ) → reach (has k) O ≡ 0
    → bar_from has ps k O ≡ 0
unfolding bar_from rounds_of
bar_from_none has ps k O z = bar_none k (has k) (others has ps k) (length ps) O z

-- ---- one step
-- the run goes along the main run
pub step_goes : {has : ℕ → ℕ → Bool} {ps : List ℕ} {k : ℕ} {run tape alt alt' keys' mark' : List ℕ}
    {mine top g g' mine' top' : ℕ}
    → Gone has ps k run tape alt alt' keys' mark' mine top g g' → length alt' ≡ length alt
    → top ≤ 1011200000001 → mine' ≡ mine → top' ≡ top
    → Stepped has ps k run tape alt alt' keys' mark' g top g' mine' top'
step_goes {alt = alt} {alt' = alt'} d e l m t = record {
  goes = rw m d.goes;
  falls = omega (arith, d.on, d.goes.reached, d.goes.main.room, open_less alt alt' e d.fewer);
  fewer = d.fewer;
  bar_is = rw t d.bar_is;
  small = omega arith;
}

module _ {has : ℕ → ℕ → Bool} {ps : List ℕ} {k : ℕ} {run tape alt keys mark : List ℕ} {mine g : ℕ} (p : Priced ps)
    (most : length alt ≤ 158)
    (s : Following has ps k run tape alt keys mark mine g) where
  -- the marked bid with the least key is taken
  pub step_takes : {key c : ℕ} {old alt' keys' : List ℕ} {next g' mine' top top' : ℕ}
      → Fronted has ps alt old keys (key_on run g) key c → key ≤ key_on run g → length alt' ≡ length alt
      → Took has k (key % 1024) (at ps (key % 1024)) c alt keys alt' keys' mine top mine' top'
      → (next ≡ g) ⊎ ((next ≡ g + 1) × ((key_on run g % 1024 ≡ key % 1024) × (key_on run g ≡ last → ⊥))) → g' ≡ next
      → Stepped has ps k run tape alt alt' keys' mark g top g' mine' top'
  step_takes {key = key} {next = next} f l e t n q = record {
    goes = rw q (take_on p most s f l refl e t came);
    falls = omega (arith, q, stays, take_falls p most s f l refl e t);
    fewer = shut_fewer t.shuts;
    bar_is = take_bar p most s f l refl e t;
    small = t.small;
  }
    where
      came : (next ≡ g) ⊎ ((next ≡ g + 1) × ((key_on run g % 1024 ≡ key % 1024) × (g < s.rounds)))
      came = ⊎_elim (λ u. inl u) (λ u. inr (u.0, (u.1.0, here p most s (omega (arith, key_last p most s, u.1.1))))) n

      stays : g ≤ next
      stays = ⊎_elim (λ u. omega arith) (λ u. omega (arith, u.0)) n

-- ---- the steps
-- the run has come to round g from the cells of `old`, and `top` is one more than the highest price so far
pub record Limiting (has : ℕ → ℕ → Bool) (ps : List ℕ) (k : ℕ) (run tape old alt keys mark : List ℕ)
    (mine top g : ℕ) : Type 0 where
  pub size : length alt ≡ length old
  pub goes : Following has ps k run tape alt keys mark mine g
  pub fewer : (x : ℕ) → cell alt x ≤ cell old x
  pub bar_is : SameBar has ps k old alt 0 top
  pub small : top ≤ 1011200000001

module _ {has : ℕ → ℕ → Bool} {ps : List ℕ} {k : ℕ} {run tape old alt keys mark : List ℕ} {mine top g : ℕ}
    (a : Limiting has ps k run tape old alt keys mark mine top g) where
  module _ {alt' keys' mark' : List ℕ} {g' mine' top' : ℕ}
      (t : Stepped has ps k run tape alt alt' keys' mark' g top g' mine' top') where
    pub limit_goes : length alt' ≡ length alt → Limiting has ps k run tape old alt' keys' mark' mine' top' g'
    limit_goes e = record {
      size = e ∙ a.size;
      goes = t.goes;
      fewer = λ x. omega (arith, a.fewer x, t.fewer x);
      bar_is = bar_on has ps k old alt alt' 0 top top' a.fewer a.bar_is t.bar_is;
      small = t.small;
    }

  -- the run is over
  pub limit_over : bar_from has ps k (open_of alt) ≡ 0 → Limited has ps k old top
  limit_over o = record { is = λ s. omega (arith, a.bar_is s, o); small = a.small }

  -- the bid has no open cell
  pub limit_ends : mine ≡ 0 → Limited has ps k old top
  limit_ends z = record {
    is = λ s. omega (arith, a.bar_is s, bar_from_none has ps k (open_of alt) (sym a.goes.own ∙ z));
    small = a.small;
  }
