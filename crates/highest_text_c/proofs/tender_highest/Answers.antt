-- `highest_text_c::tender_highest` meets its contract: it is that of the call that it exports. Assumes nothing.
use Rattle.highest_text_c.proofs.tender_highest.Goals as goal

pub returns : goal.returns
returns c = c.tender_highest.ensures
