-- `single_select::winners` meets its contract: the leading row is the winners. Assumes nothing.
use mathlib.Core.Path.{◌∙◌}
use Rattle.cover.proofs.SettledLaws.{listed_of}
use native.Mathlib.Omega.{arith}
use Rattle.single_select.proofs.winners.Goals as goal

pub returns : goal.returns
returns c =
    record {
      flags = listed_of _ _ _ _ (omega (arith, c.args.bids.few, c.requires.room))
          (rw c.weigh-lead.ensures.wins at c.mark.ensures);
      costs_are = c.weigh-lead.ensures.costs_are;
      all_is = c.whole.ensures ∙ c.weigh-lead.ensures.all;
    }
