-- `highest::told` meets its contract: 0 is no price, and else the largest is one less. Assumes nothing.
use Rattle.highest.specs.AskingLaws.{told_is}
use Rattle.highest.proofs.told.Goals as goal

pub returns : goal.returns
returns c = told_is c.args.below c.checked_sub.result c.checked_sub.ensures
