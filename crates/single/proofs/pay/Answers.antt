-- `single::pay` meets its contract: a loser is paid nothing, a winner by the least cost without it. Assumes nothing.
use lib.ListN.{get_or}
use Rattle.single_costs.specs.AcrossLaws.{winner_ends}
use Rattle.single.specs.PayLaws.{pays_none, wins_bit, pays_some}
use Rattle.single.proofs.pay.Goals as goal

pub returns-then-not-won : goal.returns-then-not-won
returns-then-not-won c =
    record {
      cents_value = pays_none _ _ _ _ _ _ c.requires.won_value.0 c.if-not-won.true;
      waiting_2 = c.requires.waiting;
    }

pub without-rest-requires : goal.without-rest-requires
without-rest-requires c =
    let args = c.args in
    let l = c.args.bids.within args.q c.requires.q_in_bounds.0 in record {
      room = c.requires.room;
      q_in_bounds = (
        c.requires.q_in_bounds.0,
        c.requires.q_in_bounds.1,
        winner_ends args.bids.starts.now args.bids.ends.now args.bids.prices.now args.cells (get_or args.bids.order.now args.q 0) l
            (wins_bit args.bids.starts.now args.bids.ends.now args.bids.prices.now args.cells (get_or args.bids.order.now args.q 0) _
            c.requires.won_value.0 c.if-not-won.false),
      );
      by_index = c.requires.by_index;
      before = c.requires.before;
      waiting = c.requires.waiting;
    }

pub returns : goal.returns
returns c =
    record {
      cents_value = rw (c.saturating_sub-cents.ensures, c.saturating_sub-others.ensures)
          (pays_some _ _ _ _ _ _ _ _ c.requires.won_value.0 c.if-not-won.false c.without-rest.ensures.cost_value c.requires.won_value.1);
      waiting_2 = c.without-rest.ensures.waiting_2;
    }
