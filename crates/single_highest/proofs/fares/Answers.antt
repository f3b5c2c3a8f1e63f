-- `single_highest::fares` meets its contract: the award's flag and cents of the bid. Assumes nothing.
use Rattle.single.specs.PayLaws.{flag_is}
use Rattle.single_highest.specs.BelowLaws.{settled_flag}
use Rattle.single_highest.proofs.fares.Goals as goal

pub returns : goal.returns
returns c =
    let s = c.award.ensures in
    (flag_is _ _ (settled_flag _ _ _ _ _ _ _ _ s c.args.i c.requires.inside), s.payments c.args.i c.requires.inside tt)
