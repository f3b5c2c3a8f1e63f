-- `award::award_in` meets its contract: the lists have a place for each row to fill, and the rows that they fill keep the promise.
-- Assumes nothing.
use Rattle.std.specs.Prelude.{ℕ}
use Rattle.std.proofs.Common.{arith}
use Rattle.std.proofs.lemmas.List.{length-replicate}
use Rattle.award_outcome.proofs.RowsPromiseLaws.{filled_promise, rows_fit}
use Rattle.award.proofs.award_in.Goals as goal

pub fill-requires : goal.fill-requires
fill-requires c =
    let A = c.args in
    let s = c.settle_in-answer in
    let n = c.rows_filled-filled in
    let fit = rows_fit A.kind A.tender A.count A.bids.now A.windows.now _ _ _ s.new.won s.new.cents s.result s.ensures in
    let won = length-replicate {A = ℕ} 1000 1 in
    (omega (arith, n.ensures), (omega (arith, n.ensures, s.auto.won, won), omega (arith, n.ensures, s.auto.cents, won)))

pub returns : goal.returns
returns c =
    let A = c.args in
    let s = c.settle_in-answer in
    let n = c.rows_filled-filled in
    filled_promise A.kind A.tender A.count A.bids.now A.windows.now A.rows.now c.fill.new.rows _ _ s.new.won s.new.cents
    s.result n.result s.ensures n.ensures c.fill.ensures
