-- Each kind's keyword. Assumes nothing.
use Rattle.tender.specs.declared.Kind.TheVariants.{Single, Multi}
use Rattle.tender.specs.Keywords.{bytes, single_word, multi_word}
use Rattle.spelling.specs.Lines.{kind_word}
use Rattle.spelling.proofs.SpellingLaws.{kind_written}
use Rattle.spelling_put.proofs.Page.put_kind.Goals as goal

pub returns-in-Single : goal.returns-in-Single
unfolding kind_word single_word multi_word bytes
returns-in-Single c =
    (c.put_all.ensures.0, kind_written c.args.kind Single c.in-Single.is c.put_all.ensures.1)

pub returns-in-Multi : goal.returns-in-Multi
unfolding kind_word single_word multi_word bytes
returns-in-Multi c =
    (c.put_all-in-Multi.ensures.0, kind_written c.args.kind Multi c.in-Multi.is c.put_all-in-Multi.ensures.1)
