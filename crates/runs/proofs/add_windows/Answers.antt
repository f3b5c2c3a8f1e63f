-- `runs::add_windows` meets its contract: the row has the minutes of the windows passed. Assumes nothing.
use mathlib.Core.Path.{refl}
use native.Mathlib.Omega.{arith}
use Rattle.runs.proofs.MinuteRowLaws.{adding_order, adding_week, adding_goes, adding_ends}
use Rattle.runs.proofs.add_windows.Goals as goal

pub add_range_by-requires : goal.add_range_by-requires
add_range_by-requires c =
    let args = c.args in
    let order = adding_order args.windows.now args.first args.count c.loop-j.j c.loop-j.row c.loop-j.invariant c.loop-j-test.true in
    let week = adding_week args.windows.now args.first args.count c.loop-j.j c.loop-j.row c.loop-j.invariant c.loop-j-test.true in
    (omega arith, (omega (arith, c.loop-j.invariant.wide), omega (arith, c.loop-j.invariant.wide)))

pub loop-j-preserved : goal.loop-j-preserved
loop-j-preserved c =
    let args = c.args in
    adding_goes args.windows.now args.first args.count c.loop-j.j c.loop-j.row c.loop-j.invariant c.add_range_by.new.words
    c.loop-j-test.true c.add_range_by.auto.words c.add_range_by.ensures refl refl

pub returns : goal.returns
returns c =
    let args = c.args in
    adding_ends args.windows.now args.first args.count c.loop-j.j c.loop-j.row c.loop-j.invariant
    c.loop-j-test.false
