-- Where the bids but one have every cell they cover without it, for both mechanisms; where all bids do, the winners of both cover.
-- Two bidders of each cell give the first for any bid, one bidder the second. Assumes nothing.
use Rattle.cover.specs.Spare.{Another, Spare}
use Rattle.std.specs.Prelude.{◌≡◌, ◌⊎◌, List, Bool, ◌||◌, length, leb}
use Rattle.std.proofs.Math.Path.{refl, ap}
use Rattle.std.proofs.Common.{◌∙◌, inl, inr, eq-or-lt_of_le, le_of_suc-le-suc, arith}
use Rattle.std.proofs.Math.Bool.{true, false, not}
use Rattle.std.proofs.lemmas.Bool.{false≢true}
use Prim.Native.Nat.{ℕ, zero, suc, ◌+◌, ◌^◌, ◌≤◌, ◌<◌}
use Rattle.std.proofs.Math.Dec.{eqb}
use borrow.Author.Tests.{leb-true, eq-eqb, ne_eqb, eqb-true, eqb-false}
use Rattle.cover.specs.Sets.{when, nothing, bit, hit, covers, cost, cells, bidders, each}
use Rattle.cover.specs.Earliest.{cell_with}
use Rattle.cover.specs.LeastCover.{Wins, winners, without}
use Rattle.cover.specs.Greedy.{Entry, run, taken, bids, wins}
use Rattle.cover.specs.CriticalPrice.{withdrawn}
use Rattle.cover.proofs.SetLaws.{all_of, all_at, pack, pack_below, pack_bit, hit_of, Member, hit_some}
use Rattle.cover.proofs.EarliestLaws.{two_each}
use Rattle.cover.proofs.LeastCoverLaws.{winners_right}
use Rattle.cover.proofs.VcgLaws.{without_join}
use Rattle.cover.proofs.GreedyLaws.{rounds, withdrawn_other}
use Rattle.cover.proofs.GreedyCoverLaws.{Each, Covered, Served, served}

module _ (has : ℕ → ℕ → Bool) (k x : ℕ) where
  up : (n : ℕ) → Another has n k x → Another has (suc n) k x
  up n a = record { who = a.who; inside = omega (arith, a.inside); other = a.other; covers_it = a.covers_it }

  -- among the bids before k one bidder is enough
  one_before : (n : ℕ) → n ≤ k → 1 ≤ bidders has n x → Another has n k x
  unfolding bidders
  one_before zero l b = absurd (omega arith)
  one_before (suc n) l b = go (has n x) refl b (one_before n)
    where
      go : (t : Bool) → has n x ≡ t → 1 ≤ when t 1 + bidders has n x → (n ≤ k → 1 ≤ bidders has n x → Another has n k x)
          → Another has (suc n) k x
      go true e b ih = record { who = n; inside = omega arith; other = λ f. omega arith; covers_it = e }
      go false e b ih = up n (ih (omega arith) (omega arith))

  pub another : (n : ℕ) → 2 ≤ bidders has n x → Another has n k x
  unfolding bidders
  another zero b = absurd (omega arith)
  another (suc n) b = go (has n x) (eqb n k) refl refl b (another n)
    where
      go : (t u : Bool) → has n x ≡ t → eqb n k ≡ u → 2 ≤ when t 1 + bidders has n x
          → (2 ≤ bidders has n x → Another has n k x)
          → Another has (suc n) k x
      go true true e f b ih = up n (one_before n (omega (arith, eqb-true n k f)) (omega arith))
      go true false e f b ih = record { who = n; inside = omega arith; other = eqb-false n k f; covers_it = e }
      go false u e f b ih = up n (ih (omega arith))

-- the bids but i
unfoldable pub others : ℕ → ℕ → ℕ
unfolding pack
others n i = pack (λ j. not (eqb j i)) n

pub others_below : (n i : ℕ) → others n i < 2 ^ n
unfolding others
others_below n i = pack_below (λ j. not (eqb j i)) n

pub others_without : (n i : ℕ) → i < n → bit (others n i) i ≡ false
unfolding others
others_without n i l = pack_bit (λ j. not (eqb j i)) n i l ∙ ap not (eq-eqb i i refl)

-- a fact of each of the cells

pub each_of : (P : ℕ → Type 0) (L : ℕ) → ((x : ℕ) → x < L → P x) → Each P (cells L)
unfolding cells
each_of P zero f = tt
each_of P (suc L) f = (f L (omega arith), each_of P L (λ x l. f x (omega arith)))

pub each_at : (P : ℕ → Type 0) (L : ℕ) → Each P (cells L) → (x : ℕ) → x < L → P x
unfolding cells
each_at P zero e x l = absurd (omega arith)
each_at P (suc L) e x l = go (eq-or-lt_of_le (le_of_suc-le-suc l)) (each_at P L e.1 x)
  where
    go : (x ≡ L) ⊎ (x < L) → (x < L → P x) → P x
    go (inl h) f = rw h e.0
    go (inr h) f = f h

taken_below : (B : ℕ → Entry) (n k f : ℕ) (O : List ℕ) → length O ≤ f → taken k (run B n f O) ≡ true → k < n
unfolding taken
taken_below B n k = rounds B n (λ O t. taken k t ≡ true → k < n) (λ O e z. absurd (false≢true z))
    (λ O i t b ih z. go i (eqb i k) (taken k t) refl b.inside z ih)
  where
    go : (i : ℕ) (a c : Bool) → eqb i k ≡ a → i < n → a || c ≡ true → (c ≡ true → k < n) → k < n
    go i true c e l z ih = omega (arith, eqb-true i k e)
    go i false c e l z ih = ih z

-- a bidder of each cell: all bids have every cell
pub one_spare : (has : ℕ → ℕ → Bool) (n L : ℕ) → each has n L 1 ≡ true → Spare has n L n
unfolding each
one_spare has n L one x l = one_before has n x n (omega arith)
    (leb-true 1 (bidders has n x) (all_at (λ x. leb 1 (bidders has n x)) L one x l))

-- two bidders of each cell spare any one bid
pub two_spare : (has : ℕ → ℕ → Bool) (n L : ℕ) → each has n L 2 ≡ true → (k : ℕ) → Spare has n L k
unfolding each
two_spare has n L two k x l = another has k x n (leb-true 2 (bidders has n x) (all_at (λ x. leb 2 (bidders has n x)) L two x l))

-- where no cell is in no bid, and none in one alone, any one bid is spared
pub enough_spare : (has : ℕ → ℕ → Bool) (n L : ℕ) → cell_with has n L 0 ≡ nothing → cell_with has n L 1 ≡ nothing
    → (k : ℕ) → Spare has n L k
enough_spare has n L e f = two_spare has n L (two_each has n L e f)

-- a bid that has every cell spares any other
pub whole_spare : (has : ℕ → ℕ → Bool) (n L h : ℕ) → h < n → ((x : ℕ) → x < L → has h x ≡ true)
    → (k : ℕ) → (h ≡ k → ⊥) → Spare has n L k
whole_spare has n L h inside whole k d x l = record { who = h; inside = inside; other = d; covers_it = whole x l }

-- the bids but i cover
module _ (has : ℕ → ℕ → Bool) (n L i : ℕ) (spare : Spare has n L i) where
  pub others_cover : covers has n L (others n i) ≡ true
  unfolding covers others
  others_cover = all_of (hit has n (others n i)) L (λ x l. let a = spare x l in
      hit_of has n (others n i) x a.who a.inside
      (pack_bit (λ j. not (eqb j i)) n a.who a.inside ∙ ap not (ne_eqb a.who i a.other)) a.covers_it)

  pub spare_set : i < n → without i (covers has n L) (others n i) ≡ true
  spare_set l = without_join (covers has n L) i (others n i) others_cover (others_without n i l)

  pub spare_bids : (ps : List ℕ) → Each (Covered (withdrawn i (bids has ps)) n) (cells L)
  unfolding bids
  spare_bids ps = each_of (Covered (withdrawn i (bids has ps)) n) L (λ x l. let a = spare x l in
      record {
        who = a.who;
        inside = a.inside;
        covers = ap (λ (b : Entry). b.has x) (withdrawn_other i (bids has ps) a.who a.other)
            ∙ a.covers_it;
      })

-- the winners of both mechanisms cover, where all bids do
module _ (has : ℕ → ℕ → Bool) (ps : List ℕ) (L : ℕ) (all : Spare has (length ps) L (length ps)) where
  covered : Each (Covered (bids has ps) (length ps)) (cells L)
  unfolding bids
  covered = each_of (Covered (bids has ps) (length ps)) L
      (λ x l. let a = all x l in record { who = a.who; inside = a.inside; covers = a.covers_it })

  pub least_wins : Wins (covers has (length ps) L) (cost ps) (2 ^ length ps) (winners (covers has (length ps) L) ps)
  least_wins = winners_right (covers has (length ps) L) ps (others (length ps) (length ps)) (others_below (length ps) (length ps))
      (others_cover has (length ps) L (length ps) all)

  pub least_covers : (x : ℕ) → x < L → Member has (length ps) (winners (covers has (length ps) L) ps) x
  unfolding covers
  least_covers x l = hit_some has (length ps) (winners (covers has (length ps) L) ps) x
      (all_at (hit has (length ps) (winners (covers has (length ps) L) ps)) L least_wins.good x l)

  -- a bid that the greedy run takes has the cell
  pub record Taken (x : ℕ) : Type 0 where
    pub who : ℕ
    pub inside : who < length ps
    pub wins_it : wins has ps (cells L) who ≡ true
    pub covers_it : has who x ≡ true

  pub greedy_covers : (x : ℕ) → x < L → Taken x
  unfolding wins bids
  greedy_covers x l = go (each_at (Served (bids has ps) (run (bids has ps) (length ps) (length (cells L)) (cells L))) L
      (served (bids has ps) (length ps) (length (cells L)) (cells L) (omega arith) covered) x l)
    where
      go : Served (bids has ps) (run (bids has ps) (length ps) (length (cells L)) (cells L)) x → Taken x
      go s = record {
        who = s.who;
        inside = taken_below (bids has ps) (length ps) s.who (length (cells L)) (cells L) (omega arith) s.picked;
        wins_it = s.picked;
        covers_it = s.covers;
      }
