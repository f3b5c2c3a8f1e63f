-- `award_thin_spans::thin_spans` meets its contract. Assumes nothing.
use native.Mathlib.Omega.{arith}
use lib.ListN.{length}
use Rattle.cover.specs.Settled.{spans}
use Rattle.award_thin.specs.FirstsLaws.{enough, bare, lone}
use Rattle.award_thin_spans.proofs.thin_spans.Goals as goal

pub returns-then-lone-cells : goal.returns-then-lone-cells
returns-then-lone-cells c =
    let args = c.args in
    enough (spans args.starts.now args.ends.now) (length args.starts.now) args.cells c.spans_below-lone.result
    c.spans_below-lone.ensures (omega arith)

pub returns-in-Some : goal.returns-in-Some
returns-in-Some c =
    let args = c.args in
    let found = c.in-Some.ensures in
    bare (spans args.starts.now args.ends.now) (length args.starts.now) args.cells c.in-Some.bare found.1 found.0

pub returns-in-None : goal.returns-in-None
returns-in-None c =
    let args = c.args in
    lone (spans args.starts.now args.ends.now) (length args.starts.now) args.cells
    c.spans_below-lone.result args.cells c.spans_below-lone.ensures c.if-lone-cells.false c.in-None.ensures (omega arith)
