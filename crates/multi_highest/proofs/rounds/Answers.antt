-- `multi_highest::rounds` meets its contract: each round takes the bid with the least key without k, and raises the maximum; no round
-- more does where k has no open cell, or no other bid has. Assumes nothing.
use mathlib.Core.Path.{◌∙◌}
use Prim.Native.Nat.{◌≤◌}
use native.Mathlib.Omega.{arith}
use lib.ListN.{length}
use Rattle.multi_highest.specs.RoundLaws.{ends_own, ends_none, fewer_open, goes}
use Rattle.multi_market.proofs.WordRowLaws.{known}
use Rattle.multi_highest.proofs.rounds.Goals as goal

pub returns-then-f-gt-LAST : goal.returns-then-f-gt-LAST
returns-then-f-gt-LAST c =
    let P = known c.args.bids.market c.args.bids.hopping c.requires in let v = c.loop-walk.invariant in
    let e = v.0 ∙ c.begin-walk.auto.held in
    let most : length c.loop-walk.held ≤ 158 = omega (arith, e, P.0.words) in
    rw e at (ends_none v.1.1.0 P.0.priced most c.front-f.ensures.1.0 c.if-f-gt-LAST.true)

pub loop-walk-smaller : goal.loop-walk-smaller
loop-walk-smaller c =
    let P = known c.args.bids.market c.args.bids.hopping c.requires in let v = c.loop-walk.invariant in
    let e = v.0 ∙ c.begin-walk.auto.held in
    let most : length c.loop-walk.held ≤ 158 = omega (arith, e, P.0.words) in
    let t = c.take-walk in
    fewer_open v.1.1.0 P.0.priced most c.front-f.ensures.1.0 (omega (arith, c.if-f-gt-LAST.false))
    t.auto.alt t.ensures.0.shuts

pub loop-walk-preserved : goal.loop-walk-preserved
loop-walk-preserved c =
    let P = known c.args.bids.market c.args.bids.hopping c.requires in let v = c.loop-walk.invariant in
    let e = v.0 ∙ c.begin-walk.auto.held in
    let most : length c.loop-walk.held ≤ 158 = omega (arith, e, P.0.words) in let t = c.take-walk in
    let same = t.auto.alt in let took = rw v.1.0 at t.ensures.0 in
    let g = goes v.1.1.0 P.0.priced most c.front-f.ensures.1.0 (omega (arith, c.if-f-gt-LAST.false)) same took took.most in
    (same ∙ v.0, (t.ensures.1.1.1.0 ∙ v.1.0, (rw same g, (t.ensures.1.0, t.ensures.1.1.0))))

pub returns : goal.returns
returns c =
    let v = c.loop-walk.invariant in let e = v.0 ∙ c.begin-walk.auto.held in
    rw e at (ends_own v.1.1.0 (omega (arith, c.loop-walk-test.false)))
