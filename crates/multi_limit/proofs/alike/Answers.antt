-- `multi_limit::alike` meets its contract: the mark is read, and then the tape's cells. Assumes nothing.
use mathlib.Core.Path.{sym, ◌∙◌}
use mathlib.Core.Logic.{inr}
use native.Mathlib.Omega.{arith}
use borrow.Author.Tests.{eqb-false}
use Rattle.cells.specs.Cells.{cell}
use Rattle.cells.proofs.StoreLaws.{cell_lt}
use Rattle.multi_rounds.specs.Trace.{bid_on}
use Rattle.multi_limit.proofs.alike.Goals as goal

pub returns : goal.returns
returns c =
    let A = c.args in let m = bid_on A.run.now A.g in
    let e = eqb-false (cell A.mark.now m) 1 (sym c.holds.ensures ∙ c.if-holds.false) in
    record {
      free = λ t. omega (arith, e, cell_lt A.mark.now m);
      held = c.all_held.ensures.yes;
      not = λ t. inr (c.all_held.ensures.no t);
    }
