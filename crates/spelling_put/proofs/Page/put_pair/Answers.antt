-- An opening bracket, the word, and the two numbers. Assumes nothing.
use Rattle.std.proofs.Common.{◌∙◌}
use Rattle.spelling.proofs.SpellingLaws.{pair_written}
use Rattle.spelling_put.proofs.Page.put_pair.Goals as goal

pub returns : goal.returns
returns c =
    let begun = c.put.ensures in
    let said = c.put_all.ensures in
    let last = c.put_numbers.ensures in
    (last.0 ∙ said.0 ∙ begun.0, pair_written c.args.a c.args.b begun.1 said.1 last.1)
