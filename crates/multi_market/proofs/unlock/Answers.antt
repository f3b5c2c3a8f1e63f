use Rattle.multi_market.proofs.BeginLaws.{first_of}
use Rattle.multi_market.proofs.unlock.Goals as goal

pub returns : goal.returns
returns c =
    first_of _ _ _ c.clear.ensures c.add_range.ensures
