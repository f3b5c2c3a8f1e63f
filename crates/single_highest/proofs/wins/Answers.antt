-- `single_highest::wins` meets its contract: the selection's flag of the bid. Assumes nothing.
use native.Mathlib.Omega.{arith}
use Rattle.single_lead.specs.ListedLaws.{every_listed}
use Rattle.single.specs.PayLaws.{flag_is}
use Rattle.single_highest.specs.BelowLaws.{selected_flag}
use Rattle.single_highest.proofs.wins.Goals as goal

pub invariant_of-bids : goal.invariant_of-bids
invariant_of-bids c =
    let r = c.requires in record {
      few = r.few;
      small = omega (arith, r.small);
      room = (omega (arith, r.starts), omega (arith, r.ends), r.places);
      within = r.sorted.bids;
      every = every_listed _ r.sorted;
      sorted = r.sorted.sorted;
    }

pub returns : goal.returns
returns c =
    flag_is _ _ (selected_flag _ _ _ _ _ _ _ _ c.winners.ensures c.args.i c.requires.inside)
