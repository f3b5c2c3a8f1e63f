-- `single_select::rows::clear` meets its contract: each word of the row is zero. Assumes nothing.
use Rattle.std.proofs.Common.{rules}
use Rattle.std.proofs.lemmas.List.{places}
use Rattle.single_lead.specs.RowsLaws.{row_none}
use Rattle.single_select.proofs.rows.clear.Goals as goal

pub returns : goal.returns
returns c = row_none 16 _ c.args.r (λ i l. search (rules, places))
