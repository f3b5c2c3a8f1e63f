-- `multi_limit::along` meets its contract: a round whose bid is alike is taken by both runs, and the first that is not by the main run
-- alone. Assumes nothing.
use mathlib.Core.Path.{refl, ◌∙◌}
use native.Mathlib.Omega.{arith}
use Rattle.multi_keys.proofs.TreeLaws.{length_leaves}
use Rattle.multi_gain.specs.GainLaws.{indexed_more}
use Rattle.multi_limit.specs.WalkLaws.{in_run, written_here, along_goes, along_passes}
use Rattle.multi_market.proofs.WordRowLaws.{known}
use Rattle.multi_limit.proofs.along.Goals as goal

pub alike-requires : goal.alike-requires
alike-requires c =
    let P = known c.args.bids.market c.args.bids.hopping c.requires in let I = c.loop-g.invariant in let R = P.1.1.1.1.1.1 in
    let l = in_run P.0.priced P.0.words R.0 I.0 I.1.1.1.1.1 R.1.1.1.0
    (omega (arith, c.loop-g-test.true)) in
    (omega (arith, l, I.0.goes.main.room), (I.1.1.1.0, (I.0.goes.main.each c.loop-g.g l).paired))

pub close_pairs-requires : goal.close_pairs-requires
close_pairs-requires c =
    let P = known c.args.bids.market c.args.bids.hopping c.requires in let I = c.loop-g.invariant in let R = P.1.1.1.1.1.1 in (
      (written_here P.0.priced P.0.words R.0 I.0 I.1.1.1.1.1 R.1.1.1.0 (omega (arith, c.loop-g-test.true))).paired,
      (omega (arith, I.0.size, P.0.words), I.1.0),
    )

pub loop-g-preserved : goal.loop-g-preserved
loop-g-preserved c =
    let P = known c.args.bids.market c.args.bids.hopping c.requires in let I = c.loop-g.invariant in let R = P.1.1.1.1.1.1 in
    let u = c.close_pairs in let v = c.alike.ensures in (
      along_goes P.0.priced P.0.words R.0 I.0 I.1.1.1.1.1 R.1.1.1.0 (omega (arith, c.loop-g-test.true))
          (v.free c.if-alike.true)
          (v.held c.if-alike.true) u.auto.held u.ensures.0,
      (u.ensures.1, I.1.1),
    )

pub pass-requires : goal.pass-requires
pass-requires c =
    let P = known c.args.bids.market c.args.bids.hopping c.requires in let I = c.loop-g.invariant in let R = P.1.1.1.1.1.1 in
    let e = I.0.size in
    let l = in_run P.0.priced P.0.words R.0 I.0 I.1.1.1.1.1 R.1.1.1.0 (omega (arith, c.loop-g-test.true)) in
    let w = I.0.goes.main.each c.loop-g.g l in (
      e ∙ c.requires.0,
      (
        rw (← e) at I.1.1.1.1.0,
        (
          I.1.0,
          (I.1.1.0, (I.1.1.1.0, (omega (arith, l, I.0.goes.main.room), (w.inside, w.paired)))),
        ),
      ),
    )

pub returns-else-alike : goal.returns-else-alike
returns-else-alike c =
    let P = known c.args.bids.market c.args.bids.hopping c.requires in let I = c.loop-g.invariant in let R = P.1.1.1.1.1.1 in
    let e = I.0.size in let d = c.pass.ensures in (
      along_passes P.0.priced P.0.words R.0 I.0 I.1.1.1.1.1 R.1.1.1.0
          (omega (arith, c.loop-g-test.true))
          (rw e at d.1.0) (length_leaves _ d.0.size) d.1.1.0,
      (
        (refl, (refl, refl)),
        (
          d.0,
          (
            d.1.1.1,
            indexed_more I.1.1.1.1.0 (λ i l y. (d.1.0.kept i (omega (arith, l, P.0.priced.count)) y).0),
          ),
        ),
      ),
    )
