-- `multi_index::enlist_row` meets its contract: before word q bid i is in the chains of the words below q. Assumes nothing.
use Rattle.std.proofs.Common.{◌≤◌, ◌∙◌, arith}
use Rattle.multi_market.proofs.WordRowLaws.{part_row, row_length, row_at}
use Rattle.multi_index.proofs.Enlisting.{enlists_some, enlists_past}
use Rattle.multi_index.proofs.enlist_row.Goals as goal
use Rattle.multi_index.proofs.enlist_row.Goals.{then-m-ne0, else-m-ne0}

pub onward-q-requires : goal.onward-q-requires
onward-q-requires c =
    let P = c.requires in let A = c.args in let e = row_length A.masks.now A.w A.i P.1.0 in
    rw (part_row A.masks.now A.w A.i, part_row A.hop.now A.w A.i)
    ((P.1.1.1.0, (omega (arith, c.loop-q-test.true), omega (arith, P.0))))

pub loop-q-preserved : goal.loop-q-preserved
loop-q-preserved c =
    let A = c.args in let P = c.requires in let R = P.1.1.1.1 in let s = c.loop-q.invariant in let l = c.loop-q-test.true in
    let n = rw (part_row A.masks.now A.w A.i) at c.onward-q.ensures in
    let f : c.onward-q.result ≤ A.w = omega (arith, n.within, row_length A.masks.now A.w A.i P.1.0) in
    elim c.if-m-ne0.branch [
      | then-m-ne0 w ↦ rw (w.index-is, w.t-is)
          (enlists_some s w.push.auto.index w.push.ensures (row_at A.masks.now A.w A.i c.loop-q.q l) n f
          (omega (arith, P.0, l)) (omega (arith, s.room, s.same, R.1.1.0, l)))
      | else-m-ne0 w ↦ rw (w.index-is, w.t-is)
          (enlists_past s (row_at A.masks.now A.w A.i c.loop-q.q l ∙ w.if-m-ne0.false) n f)
    ]
