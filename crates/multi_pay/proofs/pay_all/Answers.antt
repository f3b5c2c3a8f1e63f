-- `multi_pay::pay_all` meets its contract: before round h the bids of the first h rounds are marked and paid, and their cells closed.
-- Assumes nothing.
use mathlib.Core.Path.{refl, sym, ◌∙◌}
use native.Mathlib.Omega.{arith}
use Rattle.multi_pay.proofs.AlongLaws.{starts, ready_of, goes, ends}
use Rattle.multi_market.proofs.WordRowLaws.{known}
use Rattle.multi_pay.proofs.pay_all.Goals as goal

pub loop-h-init : goal.loop-h-init
loop-h-init c =
    let P = known c.args.bids.market c.args.bids.hopping c.requires in let Q = P.1.1.1.1 in let u = c.unlock.auto.held in
    let f = c.unlock.ensures in (
      omega arith,
      (
        refl,
        (
          refl,
          (
            refl,
            (
              refl,
              (
                starts f c.clear.ensures (c.clear.auto.xs ∙ sym Q.1.1.1.1.0) c.clear-2.ensures
                    (c.clear-2.auto.xs ∙ sym Q.1.1.1.1.1),
                (rw u (Q.0 _ f u), (Q.1.0, c.count_none.ensures)),
              ),
            ),
          ),
        ),
      ),
    )

pub pay-requires : goal.pay-requires
pay-requires c =
    let P = known c.args.bids.market c.args.bids.hopping c.requires in let Q = P.1.1.1.1.1.1.1 in let u = c.unlock.auto.held in
    let v = c.loop-h.invariant in let e = v.1.0 in
    let w = v.1.1.1.1 in let l = c.loop-h-test.true in (
      e ∙ u ∙ c.requires.0,
      (
        rw (e, u) P.1.1.0,
        (
          rw e (ready_of (rw (← u) at P.1.1.1.0) (omega (arith, l)) e w.1.0),
          (
            rw e w.1.1.0,
            (
              w.1.1.1.0,
              (
                w.1.1.1.1,
                (
                  (v.1.1.0 ∙ Q.0.0 ∙ sym (e ∙ u), (v.1.1.1.0 ∙ Q.0.1.0, (Q.0.1.1.0, w.0 ∙ Q.0.1.1.1.0))),
                  (sym w.1.0.as_won, sym w.1.0.as_cents),
                ),
              ),
            ),
          ),
        ),
      ),
    )

pub loop-h-preserved : goal.loop-h-preserved
loop-h-preserved c =
    let P = known c.args.bids.market c.args.bids.hopping c.requires in let u = c.unlock.auto.held in let v = c.loop-h.invariant in
    let e = v.1.0 in let w = v.1.1.1.1 in
    let K = c.pay.auto in let y = c.pay.ensures in let l = c.loop-h-test.true in (
      omega (arith, l),
      (
        K.held ∙ e,
        (
          K.alt ∙ v.1.1.0,
          (
            K.tree ∙ v.1.1.1.0,
            (
              K.mark ∙ w.0,
              (
                goes (rw (← u) at P.1.1.1.0) (omega (arith, l)) e w.1.0 (rw u P.1.1.1.1.1.1.0) (rw e at y.0),
                (rw e at y.1.0, y.1.1),
              ),
            ),
          ),
        ),
      ),
    )

pub returns : goal.returns
returns c =
    let P = known c.args.bids.market c.args.bids.hopping c.requires in let u = c.unlock.auto.held in let v = c.loop-h.invariant in
    rw u at (ends (rw (← u) at P.1.1.1.0) (rw u P.1.1.1.1.1.1.0) (omega (arith, v.0, c.loop-h-test.false)) v.1.1.1.1.1.0)
