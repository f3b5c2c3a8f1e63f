-- `multi_limit::admit` meets its contract: a marked bid is left as it is, and another gets its mark and its key. Assumes nothing.
use mathlib.Core.Path.{sym, ◌∙◌}
use native.Mathlib.Omega.{arith}
use borrow.Author.Tests.{eqb-false}
use Rattle.cells.specs.Cells.{cell}
use Rattle.cells.proofs.StoreLaws.{cell_lt}
use Rattle.multi_keys.proofs.TreeLaws.{length_leaves}
use Rattle.multi_limit.specs.PassLaws.{mark_own, gained_one}
use Rattle.multi_market.proofs.WordRowLaws.{known}
use Rattle.multi_limit.proofs.admit.Goals as goal

pub returns : goal.returns
returns c =
    let P = known c.args.bids.market c.args.bids.hopping c.requires in let A = c.args in let r = c.rank.ensures in let l = P.1.1.1.1.1 in
    let e = eqb-false (cell A.mark.now A.m) 1 (sym c.holds.ensures ∙ c.if-holds.false) in (
      r.0,
      (
        gained_one A.m l (omega (arith, l, length_leaves A.tree.now P.1.1.1.0.size, P.0.priced.count))
            (omega (arith, e, cell_lt A.mark.now A.m)) r.1.0 r.1.1.0,
        (omega (arith, mark_own r.1.1.0), r.1.1.1),
      ),
    )
