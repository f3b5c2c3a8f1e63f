-- `award_fault::row_fault` meets its contract: the rows not yet passed have the first fault of all, and the words hold the bidder
-- numbers of those passed. Assumes nothing.
use mathlib.Core.Path.{sym, ◌∙◌}
use native.Mathlib.Omega.{arith}
use Rattle.numbers.specs.Members.{members}
use Rattle.numbers.specs.MembersLaws.{members_length, members_same, members_none}
use Rattle.award_check.proofs.WalkLaws.{going_starts, going_ends, too_many, breaks, repeated, going_on, bidder_cell, room_here}
use Rattle.award_fault.proofs.row_fault.Goals as goal

pub loop-j-init : goal.loop-j-init
loop-j-init c =
    let args = c.args in
    going_starts args.tender args.count args.bids.now args.windows.now _ (members_none 15625)

pub returns-then-j-ge1000 : goal.returns-then-j-ge1000
returns-then-j-ge1000 c =
    let args = c.args in
    too_many args.tender args.count args.bids.now args.windows.now (members c.loop-j.used)
    c.loop-j.at c.loop-j.j c.loop-j.invariant c.loop-j-test.true
    c.if-j-ge1000.true

pub returns-then-not-row_keeps : goal.returns-then-not-row_keeps
returns-then-not-row_keeps c =
    let args = c.args in
    breaks args.tender args.count args.bids.now args.windows.now (members c.loop-j.used) c.loop-j.at c.loop-j.j
    c.loop-j.invariant c.loop-j-test.true (omega arith) (sym c.row_keeps.ensures
    ∙ c.if-not-row_keeps.true)

pub holds-requires : goal.holds-requires
holds-requires c =
    let args = c.args in
    omega (
      arith,
      members_length c.loop-j.used,
      bidder_cell args.tender args.count args.bids.now args.windows.now (members c.loop-j.used) c.loop-j.at
          c.loop-j.j c.loop-j.invariant (sym c.row_keeps.ensures
          ∙ c.if-not-row_keeps.false),
    )

pub returns-then-holds : goal.returns-then-holds
returns-then-holds c =
    let args = c.args in
    repeated args.tender args.count args.bids.now args.windows.now (members c.loop-j.used) c.loop-j.at c.loop-j.j
    c.loop-j.invariant c.loop-j-test.true (omega arith) (sym c.holds.ensures ∙ c.if-holds.true)

pub add-requires : goal.add-requires
add-requires c =
    let args = c.args in
    omega (
      arith,
      members_length c.loop-j.used,
      bidder_cell args.tender args.count args.bids.now args.windows.now (members c.loop-j.used) c.loop-j.at
          c.loop-j.j c.loop-j.invariant (sym c.row_keeps.ensures ∙ c.if-not-row_keeps.false),
    )

pub overflow_add-at : goal.overflow_add-at
overflow_add-at c =
    let args = c.args in
    omega (
      arith,
      room_here args.tender args.count args.bids.now args.windows.now (members c.loop-j.used) c.loop-j.at
          c.loop-j.j c.loop-j.invariant (sym c.row_keeps.ensures ∙ c.if-not-row_keeps.false),
    )

pub loop-j-preserved : goal.loop-j-preserved
loop-j-preserved c =
    let args = c.args in
    going_on args.tender args.count args.bids.now args.windows.now (members c.loop-j.used) c.loop-j.at c.loop-j.j
    c.loop-j.invariant c.loop-j-test.true (omega arith)
    (sym c.row_keeps.ensures ∙ c.if-not-row_keeps.false)
    (sym c.holds.ensures ∙ c.if-holds.false) (members c.add.new.set) c.add.ensures
    (members_same _ _ c.add.auto.set)

pub returns : goal.returns
returns c =
    let args = c.args in
    going_ends args.tender args.count args.bids.now args.windows.now (members c.loop-j.used) c.loop-j.at
    c.loop-j.j c.loop-j.invariant c.loop-j-test.false
