-- A space, and the number. Assumes nothing.
use Rattle.std.proofs.Common.{◌∙◌}
use Rattle.spelling.proofs.WritingLaws.{then}
use Rattle.spelling_put.proofs.Page.put_number.Goals as goal

pub returns : goal.returns
returns c = let space = c.put.ensures in let n = c.put_decimal.ensures in (n.0 ∙ space.0, then space.1 n.1)
