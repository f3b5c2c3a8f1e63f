-- `highest::single_in` meets its contract: the tender is laid out as starts and ends, and each way out is one of the laws.
-- Assumes nothing.
use Rattle.tender.specs.declared.Kind.TheVariants.{Single}
use Rattle.award_laid.specs.TellsLaws.{named_inside}
use Rattle.highest.specs.AskingLaws.{refuses_thin}
use Rattle.award_laid.specs.EntryLaws.{of_kind}
use Rattle.highest.proofs.single_in.Goals as goal

pub refusal-requires : goal.refusal-requires
refusal-requires c =
    let A = c.args in let T = A.tables.now in named_inside T.tender T.count T.bids.now T.windows.now c.in-Err.thin c.in-Err.ensures.thin_is

pub returns-in-Err : goal.returns-in-Err
returns-in-Err c =
    let A = c.args in let T = A.tables.now in rw c.refusal.ensures (refuses_thin Single T.tender T.count T.bids.now T.windows.now A.bidder
    (of_kind T c.requires.0) c.in-Err.thin c.in-Err.ensures.thin_is)
