-- The price below which a bid would win, from how it fares at the price 0 and at what it is then paid: at the price 0 it loses, and
-- no price wins; or it is paid its threshold c, and the prices below c win, and c where the selection at c has it. Assumes nothing.
use Rattle.cover.specs.Spare.{Spare}
use Rattle.std.specs.Prelude.{◌≡◌, Bool, true, false, List, [], ◌∷◌, ◌++◌, ℕ, zero, suc, ◌+◌, ◌≤◌, ◌<◌}
use Rattle.std.specs.Prelude.{length, get_or, set, drop}
use Rattle.std.proofs.Common.{sym, ap, ◌∙◌, arith, length-set, set-set}
use Rattle.tender.specs.Limits.{max_entries}
use Rattle.cover.specs.Sets.{when, bit, covers}
use Rattle.cover.specs.LeastCover.{winners, vcg_paid}
use Rattle.cover.specs.CriticalPrice.{sum}
use Rattle.cover.specs.Settled.{spans, listed, Settled}
use Rattle.cover.proofs.SettledLaws.{listed_at}
use Rattle.cover.proofs.SpareLaws.{others, others_below, spare_set}
use Rattle.cover.specs.Winning.{Below}
use Rattle.cover.proofs.WinningLaws.{never_wins, wins_up_to, free_pays, threshold_most}
use Rattle.cover.specs.Intervals.{Order}
use Rattle.single_select.specs.Weighing.{Selected}
use Rattle.single_costs.specs.Across.{most_sum}
use Rattle.single_highest.specs.Runnable.{Runnable}

-- sums with one price changed

sum_less : (ps : List ℕ) (i v : ℕ) → v ≤ get_or ps i 0 → sum (set ps i v) ≤ sum ps
unfolding sum
sum_less [] i v l = omega arith
sum_less (p ∷ ps) zero v l = omega arith
sum_less (p ∷ ps) (suc i) v l = omega (arith, sum_less ps i v l)

sum_put : (ps : List ℕ) (i v : ℕ) → sum (set ps i v) ≤ sum (set ps i 0) + v
unfolding sum
sum_put [] i v = omega arith
sum_put (p ∷ ps) zero v = omega arith
sum_put (p ∷ ps) (suc i) v = omega (arith, sum_put ps i v)

-- the bids can be awarded with another price of bid i
pub runnable_at : (a b ps order : List ℕ) (L i v : ℕ) → Runnable a b ps order L i → sum (set ps i v) ≤ most_sum
    → Runnable a b (set ps i v) order L i
runnable_at a b ps order L i v r l = record {
  few = omega (arith, r.few, length-set ps i v);
  starts = r.starts ∙ sym (length-set ps i v);
  ends = r.ends ∙ sym (length-set ps i v);
  some = r.some;
  most = r.most;
  windows = λ j d. r.windows j (omega (arith, length-set ps i v));
  small = l;
  places = omega (arith, r.places, length-set ps i v);
  sorted = rw (length-set ps i v) r.sorted;
  inside = omega (arith, r.inside, length-set ps i v);
}

-- as a caller knows them, with a price no more than the one named
pub runnable_less : (a b ps order : List ℕ) (L i v : ℕ)
    → (length ps ≤ max_entries) × (length a ≡ length ps) × (length b ≡ length ps) × (0 < L) × (L ≤ 10080)
    → ((j : ℕ) → j < length ps → (get_or a j 0 ≤ get_or b j 0) × (get_or b j 0 ≤ L))
    → (sum ps ≤ 100100000000) × (i < length ps)
    → (length ps ≤ length order) × Order (length ps) (λ j. get_or a j 0) (λ q. get_or order q 0)
    → v ≤ get_or ps i 0 → Runnable a b (set ps i v) order L i
runnable_less a b ps order L i v f w s o l = runnable_at a b ps order L i v
    (record {
      few = f.0;
      starts = f.1;
      ends = f.2;
      some = f.3;
      most = f.4;
      windows = w;
      small = omega (arith, s.0);
      places = o.0;
      sorted = o.1;
      inside = s.1;
    })
    (omega (arith, s.0, sum_less ps i v l))

-- flags

flag_at : (won : ℕ → Bool) (n : ℕ) (old new : List ℕ) → new ≡ listed n (λ j. when (won j) 1) ++ drop n old → (i : ℕ)
    → i < n
    → get_or new i 0 ≡ when (won i) 1
flag_at won n old new e i l = ap (λ xs. get_or xs i 0) e ∙ listed_at n (λ j. when (won j) 1) (drop n old) i l

pub selected_flag : (a b ps costs old new : List ℕ) (L all : ℕ) → Selected a b ps costs old new L all → (i : ℕ) → i < length ps
    → get_or new i 0 ≡ when (bit (winners (covers (spans a b) (length ps) L) ps) i) 1
selected_flag a b ps costs old new L all s =
    flag_at (bit (winners (covers (spans a b) (length ps) L) ps)) (length ps) old new s.flags

pub settled_flag : (a b ps old_won old_cents new_won new_cents : List ℕ) (L : ℕ)
    → Settled (λ _. Unit {0}) (λ j. bit (winners (covers (spans a b) (length ps) L) ps) j)
    (vcg_paid (covers (spans a b) (length ps) L) ps) ps old_won old_cents new_won new_cents
    → (i : ℕ) → i < length ps → get_or new_won i 0 ≡ when (bit (winners (covers (spans a b) (length ps) L) ps) i) 1
settled_flag a b ps old_won old_cents new_won new_cents L s =
    flag_at (bit (winners (covers (spans a b) (length ps) L) ps)) (length ps) old_won new_won s.flags

flag_most : (t : Bool) (w : ℕ) → w ≡ when t 1 → w ≤ 1
flag_most true w e = omega arith
flag_most false w e = omega arith

-- bids over L cells, of which those but i have every cell
module _ (a b ps : List ℕ) (L i : ℕ) (inside : i < length ps) (spare : Spare (spans a b) (length ps) L i) where
  -- the sets of the bids at the prices qs that cover
  abbrev ok_at : List ℕ → ℕ → Bool
  ok_at qs = covers (spans a b) (length qs) L

  abbrev won_at : ℕ → Bool
  won_at q = bit (winners (ok_at ps) (set ps i q)) i

  free_won : (w : Bool) → w ≡ bit (winners (ok_at (set ps i 0)) (set ps i 0)) i → w ≡ won_at 0
  free_won w e = rw (length-set ps i 0) at e

  free_paid : (c : ℕ) → c ≡ vcg_paid (ok_at (set ps i 0)) (set ps i 0) i → c ≡ vcg_paid (ok_at ps) (set ps i 0) i
  free_paid c e = rw (length-set ps i 0) at e

  -- it loses at the price 0
  pub below_none : (w : Bool) → w ≡ bit (winners (ok_at (set ps i 0)) (set ps i 0)) i → w ≡ false → Below won_at 0
  below_none w e z = never_wins (ok_at ps) ps i inside (others (length ps) i) (others_below (length ps) i)
      (spare_set (spans a b) (length ps) L i spare inside) (sym (free_won w e) ∙ z)

  module _ (w : Bool) (c : ℕ) (e : w ≡ bit (winners (ok_at (set ps i 0)) (set ps i 0)) i) (n : w ≡ true)
      (p : c ≡ vcg_paid (ok_at (set ps i 0)) (set ps i 0) i) where
    -- it wins at the price 0: no more is paid than the others ask in all
    paid_most : c ≤ sum (set ps i 0)
    paid_most = omega (
      arith,
      free_paid c p,
      free_pays (ok_at ps) ps i inside (others (length ps) i) (others_below (length ps) i)
          (spare_set (spans a b) (length ps) L i spare inside) (sym (free_won w e) ∙ n),
      threshold_most (ok_at ps) ps i inside (others (length ps) i) (others_below (length ps) i)
          (spare_set (spans a b) (length ps) L i spare inside),
    )

    -- so the sum stays small with a price up to c
    pub sum_at : sum ps ≤ 100100000000 → (v : ℕ) → v ≤ c → sum (set (set ps i 0) i v) ≤ most_sum
    sum_at l v m = rw (set-set ps i 0 v) (omega (arith, sum_put ps i v, sum_less ps i 0 (omega arith), paid_most))

    -- and v says whether it wins at c
    pub below_paid : (v : ℕ) → v ≡ when (bit (winners (ok_at (set (set ps i 0) i c)) (set (set ps i 0) i c)) i) 1
        → Below won_at (c + v)
    below_paid v f = rw f' (wins_up_to (ok_at ps) ps i inside (others (length ps) i) (others_below (length ps) i)
        (spare_set (spans a b) (length ps) L i spare inside) (sym (free_won w e) ∙ n) c (free_paid c p))
      where
        f' : v ≡ when (won_at c) 1
        f' = rw (set-set ps i 0 c, length-set ps i c) at f

    -- the answer is small
    pub below_most : sum ps ≤ 100100000000 → (v : ℕ)
        → v ≡ when (bit (winners (ok_at (set (set ps i 0) i c)) (set (set ps i 0) i c)) i) 1 → c + v ≤ 100100000001
    below_most l v f = omega (
      arith,
      sum_less ps i 0 (omega arith),
      paid_most,
      flag_most (bit (winners (ok_at (set (set ps i 0) i c)) (set (set ps i 0) i c)) i) v f,
    )
