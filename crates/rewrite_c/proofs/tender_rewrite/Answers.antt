-- `rewrite_c::tender_rewrite` meets its contract: it is that of the call that it exports. Assumes nothing.
use Rattle.rewrite_c.proofs.tender_rewrite.Goals as goal

pub returns : goal.returns
returns c = c.tender_rewrite.ensures
