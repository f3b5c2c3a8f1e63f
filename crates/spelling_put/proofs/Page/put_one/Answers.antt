-- An opening bracket, the word, the number, and the bytes that end a line. Assumes nothing.
use Rattle.std.proofs.Common.{◌∙◌, arith}
use Rattle.spelling.proofs.LineLaws.{decimal_short}
use Rattle.spelling.proofs.SpellingLaws.{one_written}
use Rattle.spelling_put.proofs.Page.put_one.Goals as goal

pub put_all-requires-2 : goal.put_all-requires-2
put_all-requires-2 c =
    let begun = c.put.ensures.1 in
    let said = c.put_all.ensures.1 in
    let named = c.put_number.ensures.1 in
    omega (arith, decimal_short c.args.n, c.requires, begun.next, begun.size, said.next, said.size, named.next, named.size)

pub returns : goal.returns
returns c =
    let begun = c.put.ensures in
    let said = c.put_all.ensures in
    let named = c.put_number.ensures in
    let last = c.put_all-2.ensures in
    (last.0 ∙ named.0 ∙ said.0 ∙ begun.0, one_written c.args.n begun.1 said.1 named.1 last.1)
