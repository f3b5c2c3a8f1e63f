-- `listing_c::tender_list` meets its contract: it is that of the call that it exports. Assumes nothing.
use Rattle.listing_c.proofs.tender_list.Goals as goal

pub returns : goal.returns
returns c = c.tender_list.ensures
