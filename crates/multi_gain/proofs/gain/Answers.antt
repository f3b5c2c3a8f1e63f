-- `multi_gain::gain` meets its contract: before each node of word q's chain the bids without a mark have no cell of m in word q, or are
-- still to come; the chain goes on to earlier nodes. Assumes nothing.
use Rattle.std.proofs.Common.{sym, ◌∙◌, inl, inr, arith, eqb-true}
use Rattle.std.proofs.lemmas.Bool.{eqb-false}
use Rattle.cells.specs.Cells.{cell}
use Rattle.cells.proofs.StoreLaws.{cell_lt}
use Rattle.multi_keys.proofs.TreeLaws.{length_leaves}
use Rattle.multi_index.specs.Index.{bid_at}
use Rattle.multi_gain.specs.GainLaws.{bid_in_lem, passes, adds, ends}
use Rattle.multi_market.proofs.WordRowLaws.{known}
use Rattle.multi_gain.proofs.gain.Goals as goal
use Rattle.multi_gain.proofs.gain.Goals.{then-index-t-ne0+then-not-holds, else-index-t-ne0}
use Rattle.multi_gain.proofs.gain.Goals.{else-index-t-ne0-via-then-index-t-ne0+else-not-holds, else-index-t-ne0-via-else-index-t-ne0}

pub loop-t-preserved : goal.loop-t-preserved
loop-t-preserved c =
    let P = known c.args.bids.market c.args.bids.hopping c.requires in let A = c.args in let s = c.loop-t.invariant in
    let l = c.loop-t-test.true in
    let b = bid_at A.index.now c.loop-t.t in
    elim c.if-index-t-ne0.branch [
      | then-index-t-ne0+then-not-holds w ↦
          let e = eqb-false (cell c.loop-t.mark b) 1 (sym w.holds.ensures ∙ w.if-not-holds.true) in
          let r = w.rank.ensures in let i = bid_in_lem s.0 l in
          rw (w.tree-is, w.mark-is, w.counts-is) ((
            passes (adds s.0 b _ _ i (omega (arith, i, length_leaves c.loop-t.tree s.1.0.size, P.0.priced.count))
                (omega (arith, e, cell_lt c.loop-t.mark b)) r.1.0 r.1.1.0) l
                (inr (omega (arith, r.1.1.0.inside b (omega arith) (omega arith)))),
            (r.0, (w.rank.auto.mark ∙ s.1.1.0, r.1.1.1)),
          ))
      | else-index-t-ne0 w ↦ rw (w.tree-is, w.mark-is, w.counts-is) ((
        elim w.else-index-t-ne0.branch [
          | else-index-t-ne0-via-then-index-t-ne0+else-not-holds w' ↦
              let e = eqb-true (cell c.loop-t.mark b) 1 (sym w'.holds.ensures ∙ w'.if-not-holds.false) in
              passes s.0 l (inr (omega (arith, e)))
          | else-index-t-ne0-via-else-index-t-ne0 w' ↦ passes s.0 l (inl w'.if-index-t-ne0.false)
        ],
        s.1,
      ))
    ]

pub returns : goal.returns
returns c = let s = c.loop-t.invariant in (s.1.0, (ends s.0 (omega arith), s.1.1.1))
