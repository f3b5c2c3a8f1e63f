-- `last_line` meets its contract: the search from the end finds the last byte 10, or none. Assumes nothing.
use Rattle.std.proofs.Common.{rules}
use Rattle.reader_fill.proofs.RestLaws.{last_found, none_found}
use Rattle.reader_fill.proofs.last_line.Goals as goal

pub returns-in-Some : goal.returns-in-Some
returns-in-Some c = last_found c.args.text.now c.in-Some.i (search rules) (search rules) (search rules)

pub returns-in-None : goal.returns-in-None
returns-in-None c = none_found c.args.text.now (search rules)
