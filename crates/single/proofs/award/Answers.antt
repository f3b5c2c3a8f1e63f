-- `single::award` meets its contract: the selection gives the winners, the payments the rest. Assumes nothing.
use Rattle.single_lead.specs.ListedLaws.{every_listed}
use Rattle.single.specs.PayLaws.{selected_flags, selected_all, award_settled}
use native.Mathlib.Omega.{arith}
use Rattle.single.proofs.award.Goals as goal

pub invariant_of-bids : goal.invariant_of-bids
invariant_of-bids c = record {
  few = omega (arith, c.requires.prices_len_bound);
  small = omega (arith, c.requires.prices_bound);
  room = (
    omega (arith, c.requires.prices_len_bound),
    omega (arith, c.requires.prices_len_bound),
    c.requires.prices_in_bounds_2.0,
  );
  within = c.requires.prices_in_bounds_2.1.bids;
  every = every_listed _ c.requires.prices_in_bounds_2.1;
  sorted = c.requires.prices_in_bounds_2.1.sorted;
}

pub payments-requires : goal.payments-requires
payments-requires c =
    record {
      room = (omega (arith, c.requires.prices_len_bound, c.winners-all.auto), omega (arith, c.requires.prices_len_bound));
      prices_in_bounds = (
        omega (arith, c.requires.prices_in_bounds, c.winners-all.auto),
        omega (arith, c.requires.prices_in_bounds),
        omega (arith, c.requires.prices_bound),
        selected_all _ _ _ _ _ _ _ _ c.winners-all.ensures,
      );
      by_index = selected_flags _ _ _ _ _ _ _ _ c.winners-all.ensures;
      by_index_2 = c.requires.by_index;
      before = c.winners-all.ensures.costs_are;
    }

pub returns : goal.returns
returns c =
    award_settled _ _ _ _ _ _ _ _ _ _ c.requires.prices_bound c.winners-all.ensures c.payments.ensures
