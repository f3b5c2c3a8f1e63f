-- `cells::add_words` meets its contract: the words from a up to b have all their cells. Assumes nothing.
use Rattle.std.proofs.Common.{rules}
use Rattle.std.proofs.lemmas.List.{places}
use Rattle.cells.proofs.StoreLaws.{words_added}
use Rattle.cells.proofs.add_words.Goals as goal

pub returns : goal.returns
returns c =
    let args = c.args in
    words_added args.words.now _ args.a args.b c.first_bits.result c.first_bits.ensures.span
    (λ q l u. search (rules, places))
    (λ q l. search (rules, places))
    (λ q l. search (rules, places))
