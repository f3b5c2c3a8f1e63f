-- `multi_rounds::front` meets its contract: each key in the tree stays no more than its bid's, and the first leaf is the least of all.
-- Assumes nothing.
use Prim.Native.Nat.{ℕ, ◌%◌, ◌≤◌}
use mathlib.Core.Path.{ap, ◌∙◌}
use native.Mathlib.Omega.{arith}
use lib.ListN.{length, set}
use Rattle.multi_keys.specs.Keys.{at, last}
use Rattle.multi_keys.specs.Tree.{leaves}
use Rattle.multi_market.proofs.WordRowLaws.{row_in, known}
use Rattle.multi_rounds.specs.FrontLaws.{first_in, is_above, is_exact, counted, fewer}
use Rattle.multi_rounds.proofs.front.Goals as goal

pub returns-then-cap-c : goal.returns-then-cap-c
returns-then-cap-c c =
    let f = c.loop-cap.invariant in (f.0.grown, (is_above c.args.bids.market.priced f.0 (omega (arith, c.if-cap-c.true)), f.1))

pub overlap-r-requires : goal.overlap-r-requires
overlap-r-requires c =
    let P = known c.args.bids.market c.args.bids.hopping c.requires in let A = c.args in let f = c.loop-cap.invariant in
    let t = c.loop-cap.tree in let b = at t 1 % 1024 in
    let z : at t 1 ≤ last = omega (arith, P.1.1.1.1.1, c.if-cap-c.false) in
    let l = first_in P.0.priced f.0 z in (
      P.0.words,
      (
        row_in A.bids.prices.now A.bids.masks.now (length A.held.now) b P.0 l,
        (P.1.0.size, (f.1, P.1.0.each b l)),
      ),
    )

pub bounds-bids-b : goal.bounds-bids-b
bounds-bids-b c =
    let P = known c.args.bids.market c.args.bids.hopping c.requires in
    let z : at c.loop-cap.tree 1 ≤ last = omega (arith, P.1.1.1.1.1, c.if-cap-c.false) in
    first_in P.0.priced c.loop-cap.invariant.0 z

pub returns-then-now-c : goal.returns-then-now-c
returns-then-now-c c =
    let P = known c.args.bids.market c.args.bids.hopping c.requires in let f = c.loop-cap.invariant.0 in let o = c.overlap-r.ensures in
    let z : at c.loop-cap.tree 1 ≤ last = omega (arith, P.1.1.1.1.1, c.if-cap-c.false) in (
      f.grown,
      (is_exact P.0.priced f z o.0.0 o.0.1 (omega (arith, c.key_of-now.ensures, c.if-now-c.true)), o.1),
    )

pub loop-cap-smaller : goal.loop-cap-smaller
loop-cap-smaller c =
    let P = known c.args.bids.market c.args.bids.hopping c.requires in let t = c.loop-cap.tree in let k = c.key_of-now.ensures in
    let z : at t 1 ≤ last = omega (arith, P.1.1.1.1.1, c.if-cap-c.false) in
    fewer P.0.priced c.loop-cap.invariant.0 z c.overlap-r.ensures.0.0 (λ q. omega (arith, k, c.if-now-c.false)) _
    (c.put.ensures.1 ∙ ap (λ (x : ℕ). set (leaves t) (at t 1 % 1024) x) k)

pub loop-cap-preserved : goal.loop-cap-preserved
loop-cap-preserved c =
    let P = known c.args.bids.market c.args.bids.hopping c.requires in let t = c.loop-cap.tree in let k = c.key_of-now.ensures in
    let o = c.overlap-r.ensures in
    let z : at t 1 ≤ last = omega (arith, P.1.1.1.1.1, c.if-cap-c.false) in (
      counted P.0.priced c.loop-cap.invariant.0 z o.0.0 (λ q. omega (arith, k, c.if-now-c.false)) c.put.ensures.0
          (c.put.ensures.1 ∙ ap (λ (x : ℕ). set (leaves t) (at t 1 % 1024) x) k),
      o.1,
    )
