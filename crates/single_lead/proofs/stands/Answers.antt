-- `single_lead::stands` meets its contract: the words above j are the same in both rows. Assumes nothing.
use mathlib.Core.Path.{◌≡◌, sym}
use Rattle.single_lead.specs.Rows.{set_in}
use Prim.Native.Nat.{◌-◌, ◌+◌}
use native.Mathlib.Nat.{le_antisymm}
use borrow.Author.Tests.{lt-ltb, le-ltb}
use Rattle.single_lead.specs.RowsLaws.{top_none, word_less, word_same, all_same}
use native.Mathlib.Omega.{arith}
use Rattle.single_lead.proofs.stands.Goals as goal

pub loop-j-init : goal.loop-j-init
loop-j-init c = (omega arith, top_none _ _ _ _)

pub returns-then-x-y : goal.returns-then-x-y
returns-then-x-y c =
    let args = c.args in
    let e : c.loop-j.j ≡ c.loop-j.j - 1 + 1 = omega arith in
    sym (lt-ltb _ _ (word_less args.w args.sets.now (λ j. omega (arith, c.type_inv.sets j)) args.q
    args.r (c.loop-j.j - 1) (omega arith) (rw e at c.loop-j.invariant.1) c.if-x-y.true))

pub returns-then-y-x : goal.returns-then-y-x
returns-then-y-x c =
    let args = c.args in
    let e : c.loop-j.j ≡ c.loop-j.j - 1 + 1 = omega arith in
    sym (le-ltb (set_in args.w args.sets.now args.q) (set_in args.w args.sets.now args.r)
    (omega (
      arith,
      word_less args.w args.sets.now (λ j. omega (arith, c.type_inv.sets j)) args.r
          args.q (c.loop-j.j - 1) (omega arith) (rw e at (sym c.loop-j.invariant.1)) c.if-y-x.true,
    )))

pub loop-j-preserved : goal.loop-j-preserved
loop-j-preserved c =
    let args = c.args in
    let e : c.loop-j.j ≡ c.loop-j.j - 1 + 1 = omega arith in (
      omega arith,
      word_same args.w args.sets.now (λ j. omega (arith, c.type_inv.sets j)) args.q
          args.r (c.loop-j.j - 1) (omega arith) (rw e at c.loop-j.invariant.1) (le_antisymm c.if-y-x.false c.if-x-y.false),
    )

pub returns : goal.returns
returns c =
    let args = c.args in
    sym (le-ltb (set_in args.w args.sets.now args.q) (set_in args.w args.sets.now args.r)
    (omega (arith, all_same args.w args.sets.now args.q args.r c.loop-j.j (omega arith) c.loop-j.invariant.1)))
