-- `multi_limit::step` meets its contract: the marked bid with the least key is taken where it comes no later than the written round's;
-- else the run goes along the main run, or is over. Assumes nothing.
use native.Mathlib.Omega.{arith}
use Rattle.multi_limit.specs.FollowLaws.{looked, over_none}
use Rattle.multi_limit.specs.StepLaws.{step_takes, step_goes}
use Rattle.multi_market.proofs.WordRowLaws.{known}
use Rattle.multi_limit.proofs.step.Goals as goal

pub returns-then-first-key : goal.returns-then-first-key
returns-then-first-key c =
    let P = known c.args.bids.market c.args.bids.hopping c.requires in let F = P.1.1.1.1.1.1.1 in let f = c.front-f.ensures.1.0 in
    let t = c.take.ensures.1 in (
      (
        step_takes P.0.priced P.0.words (looked P.0.priced P.0.words F f) f (omega (arith, c.if-first-key.true))
            c.take.auto.alt c.take.ensures.0 c.after-next.ensures t.1.1.1,
        t.1.1.0,
      ),
      (t.0, (t.1.0, P.1.1.0)),
    )

pub returns-then-key : goal.returns-then-key
returns-then-key c =
    let P = known c.args.bids.market c.args.bids.hopping c.requires in let R = P.1.1.1.1.1.1 in let d = c.front-f.ensures in
    let f = d.1.0 in (
      over_none P.0.priced P.0.words (looked P.0.priced P.0.words R.1 f) c.if-key.true
          (λ i l. omega (arith, l, f.least i l, c.if-first-key.false, c.if-key.true)),
      (d.0, (d.1.1, P.1.1.0)),
    )

pub returns : goal.returns
returns c =
    let P = known c.args.bids.market c.args.bids.hopping c.requires in let d = c.along.ensures in let r = d.1.0 in (
      (step_goes d.0 c.along.auto.alt P.1.1.1.1.1.1.0.1 r.1.0 r.1.1, r.0),
      d.1.1,
    )
