-- `single_highest::below` meets its contract: at the price 0 the bid loses, and no price wins, or it is paid its threshold, which wins
-- where the second run says so. Assumes nothing.
use Rattle.std.proofs.Common.{◌≡◌, ℕ, Bool, true, false, arith, rules}
use Rattle.std.specs.Int.{from_bool}
use Rattle.cover.specs.Sets.{when}
use Rattle.std.proofs.lemmas.Bool.{not-true, not-false}
use Rattle.single_highest.specs.BelowLaws.{runnable_at, runnable_less, below_none, sum_at, below_paid, below_most}
use Rattle.single_highest.proofs.below.Goals as goal

pub fares-free-requires : goal.fares-free-requires
fares-free-requires c =
    runnable_less _ _ c.args.prices.now _ _ _ _ c.requires.prices_len_bound c.requires.by_index c.requires.prices_bound c.requires.prices_in_bounds (omega arith)

pub returns-then-not-free : goal.returns-then-not-free
returns-then-not-free c =
    let free = c.fares-free.ensures in
    record {
      below = below_none _ _ c.args.prices.now _ _ c.requires.prices_bound.1 c.requires.spare _ free.0 (not-true _ c.if-not-free.true);
      upper_bound = omega arith;
    }

pub wins-tie-requires : goal.wins-tie-requires
wins-tie-requires c =
    let free = c.fares-free.ensures in
    runnable_at _ _ _ _ _ _ _
    (runnable_less _ _ c.args.prices.now _ _ _ _ c.requires.prices_len_bound c.requires.by_index c.requires.prices_bound c.requires.prices_in_bounds (omega arith))
    (sum_at _ _ c.args.prices.now _ _ c.requires.prices_bound.1 c.requires.spare _ _ free.0 (not-false _ c.if-not-free.false) free.1
    c.requires.prices_bound.0 _ (omega arith))

-- the tie as a number
tie : (t b : Bool) (v : ℕ) → v ≡ from_bool t → t ≡ b → v ≡ when b 1
tie true true v e h = e
tie false false v e h = e
tie true false v e h = search (rules, h)
tie false true v e h = search (rules, h)

pub overflow_add-result : goal.overflow_add-result
overflow_add-result c =
    let free = c.fares-free.ensures in
    omega (
      arith,
      below_most _ _ c.args.prices.now _ _ c.requires.prices_bound.1 c.requires.spare _ _ free.0 (not-false _ c.if-not-free.false) free.1
          c.requires.prices_bound.0 _ (tie _ _ _ c.from.ensures c.wins-tie.ensures),
    )

pub returns : goal.returns
returns c =
    let free = c.fares-free.ensures in
    let won = tie _ _ _ c.from.ensures c.wins-tie.ensures in record {
      below = below_paid _ _ c.args.prices.now _ _ c.requires.prices_bound.1 c.requires.spare _ _ free.0
          (not-false _ c.if-not-free.false) free.1 _ won;
      upper_bound = omega (
        arith,
        below_most _ _ c.args.prices.now _ _ c.requires.prices_bound.1 c.requires.spare _ _ free.0
            (not-false _ c.if-not-free.false) free.1 c.requires.prices_bound.0 _ won,
      );
    }
