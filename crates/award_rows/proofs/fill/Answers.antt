-- `award_rows::fill` meets its contract: where the loop ends each bid has its row. Assumes nothing.
use Rattle.std.specs.Prelude.{◌≡◌}
use Rattle.std.proofs.Common.{◌∙◌, arith}
use Rattle.award_rows.specs.RowsLaws.{filled_rows}
use Rattle.award_rows.proofs.fill.Goals as goal

pub returns : goal.returns
returns c =
    let e : c.loop-i.i ≡ c.args.n = omega arith in
    (rw e at c.loop-i.invariant) ∙ filled_rows c.args.n c.args.won.now c.args.cents.now c.args.rows.now c.requires.0
