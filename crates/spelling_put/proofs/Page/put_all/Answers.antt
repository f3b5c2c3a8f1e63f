-- The bytes are copied as they stand. Assumes nothing.
use Rattle.std.proofs.Common.{refl, rules}
use Rattle.std.proofs.lemmas.Slice.{overwrites}
use Rattle.spelling_put.proofs.Page.put_all.Goals as goal

pub returns : goal.returns
returns c = (
  refl,
  record {
    text = search (rules, overwrites);
    next = refl;
    rest = search (rules, overwrites);
    size = search (rules, overwrites);
  },
)
