-- `award_fault::windows_lawful` meets its contract: what is left of the windows decides as all of them do. Assumes nothing.
use mathlib.Core.Path.{sym, ◌∙◌}
use native.Mathlib.Omega.{arith}
use Rattle.award_check.proofs.WalkLaws.{ahead_goes, ahead_fails, ahead_all}
use Rattle.std.proofs.lemmas.Bool.{not_from_true, not_from_false}
use Rattle.award_fault.proofs.windows_lawful.Goals as goal

pub returns-then-not-window_lawful : goal.returns-then-not-window_lawful
returns-then-not-window_lawful c =
    let args = c.args in
    ahead_fails args.windows.now args.first args.count c.loop-j.j c.window_lawful.result c.loop-j-test.true
    c.window_lawful.ensures _ (not_from_false _ c.if-not-window_lawful.true) c.loop-j.invariant.1

pub loop-j-preserved : goal.loop-j-preserved
loop-j-preserved c =
    let args = c.args in (
      omega arith,
      ahead_goes args.windows.now args.first args.count c.loop-j.j c.window_lawful.result
          c.loop-j-test.true c.window_lawful.ensures _ (not_from_true _ c.if-not-window_lawful.false) c.loop-j.invariant.1,
    )

pub returns : goal.returns
returns c =
    let args = c.args in
    sym (ahead_all args.windows.now args.first args.count c.loop-j.j c.loop-j-test.false) ∙ c.loop-j.invariant.1
