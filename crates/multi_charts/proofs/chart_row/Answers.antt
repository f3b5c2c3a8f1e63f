-- `multi_charts::chart_row` meets its contract: from word q on the hops are set. Assumes nothing.
use mathlib.Core.Path.{◌≡◌, refl}
use native.Mathlib.Omega.{arith}
use Rattle.multi_charts.proofs.Charting.{charts_gap, charts_run, charts_still, charts_some, charts_all}
use Rattle.multi_charts.proofs.chart_row.Goals as goal

pub loop-q-preserved-then-r-z : goal.loop-q-preserved-then-r-z
loop-q-preserved-then-r-z c = (
  charts_run (charts_gap c.loop-q.invariant.0 c.loop-q.invariant.1 c.back-z.ensures c.back-z.auto.hop refl refl)
      (omega arith) c.back-r.ensures c.back-r.auto.hop refl refl c.if-r-z.true,
  omega arith,
)

pub loop-q-preserved-then-z-gt0 : goal.loop-q-preserved-then-z-gt0
loop-q-preserved-then-z-gt0 c = (
  charts_some (charts_still (charts_gap c.loop-q.invariant.0 c.loop-q.invariant.1 c.back-z.ensures c.back-z.auto.hop
      refl refl) (omega arith) c.back-r.ensures c.back-r.auto.hop (λ l. omega (arith, l)))
      (omega arith) c.if-z-gt0.true (omega arith)
      (λ e. c.back-r.ensures.stop (omega arith)
      (let d : c.back-r.result ≡ c.back-z.result = omega arith in rw d e)),
  omega arith,
)

pub loop-q-preserved : goal.loop-q-preserved
loop-q-preserved c = (
  let d : c.back-z.result ≡ 0 = omega (arith, c.if-z-gt0.false) in
      rw d at (charts_still (charts_gap c.loop-q.invariant.0 c.loop-q.invariant.1 c.back-z.ensures c.back-z.auto.hop
      refl refl) (omega (arith, c.loop-q.invariant.1, c.back-z.ensures.low)) c.back-r.ensures
      c.back-r.auto.hop (λ l. omega (arith, l, c.if-r-z.false))),
  omega arith,
)

pub returns : goal.returns
returns c =
    let pre = c.requires in
    charts_all c.loop-q.invariant.0 (omega arith) pre.1.0 pre.1.1
